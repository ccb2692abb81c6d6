-- What is left of the steps of a turn.
use Rattle.std.proofs.Common.{◌≡◌, ℕ, zero, suc, ◌-◌, ◌<◌, true, false, cond, ap, arith, sub-one, sym, subst, ◌∙◌, append_assoc, append-nil}
use Rattle.std.specs.Prelude.{is_none, None, ◌+◌, List, [], ◌∷◌, ◌++◌}
use Rattle.or_model.specs.Core.{Core}
use Rattle.or_model.specs.World.{World}
use Rattle.or_model.specs.DataAccess.{State}
use Rattle.or_model.specs.Step.{step, is_private, private_step}
use Rattle.or_model.proofs.PrivateSteps.{private_step-world}
use Rattle.or_model.specs.Turn.{Begun, begun_within, steps_alone}
use Rattle.or_bus.specs.State.{BusState}
use Rattle.or_bus.specs.Represents.{Represents}
use Rattle.or_core.specs.Follows.{IsState}
use Rattle.or_core.proofs.Begins.{begun_within-more}
use Rattle.or_core.specs.declared.traced_steps.TracedStep.{TracedStep}
use Rattle.std.specs.List.{All}
use Rattle.std.proofs.lemmas.List.Elements.{All-push}
use Rattle.or_core.specs.TracedSteps.{IsAligned, traced_step, steps_within}

steps_within-next : (left : ℕ) (core : Core) (world : World) → 0 < left
    → steps_within left core world ≡ cond (steps_alone core) (traced_step core world ∷ steps_within (left - 1) (private_step core) world) []
unfolding steps_within
steps_within-next zero core world h = absurd (omega arith)
steps_within-next (suc left) core world h = rw sub-one

-- a private step stands behind those before it
pub steps_within-more : (left : ℕ) (core : Core) (world : World) (before : List TracedStep) → 0 < left → core.stop ≡ None → is_private core ≡ true
    → (before ++ traced_step core world ∷ []) ++ steps_within (left - 1) (private_step core) world ≡ before ++ steps_within left core world
unfolding steps_alone
steps_within-more left core world before h running alone =
    let goes : steps_alone core ≡ true = let quiet : is_none core.stop ≡ true = ap is_none running in rw quiet alone in
    let next : steps_within left core world ≡ traced_step core world ∷ steps_within (left - 1) (private_step core) world =
    steps_within-next left core world h ∙ ap (λ b. cond b (traced_step core world ∷ steps_within (left - 1) (private_step core) world) []) goes in
    grind (arith, append_assoc, next)

-- none of a core that needs the bus
pub steps_within-waits : (left : ℕ) (core : Core) (world : World) (before : List TracedStep) → 0 < left → core.stop ≡ None → is_private core ≡ false
    → before ++ steps_within left core world ≡ before
unfolding steps_alone
steps_within-waits left core world before h running alone =
    let goes : steps_alone core ≡ false = let quiet : is_none core.stop ≡ true = ap is_none running in rw quiet alone in
    let none : steps_within left core world ≡ [] = steps_within-next left core world h ∙ ap (λ b. cond b (traced_step core world ∷ steps_within (left - 1) (private_step core) world) []) goes in
    rw none (append-nil before)

-- nor of one that has stopped
pub steps_within-stops : (left : ℕ) (core : Core) (world : World) (before : List TracedStep) → 0 < left → is_none core.stop ≡ false
    → before ++ steps_within left core world ≡ before
unfolding steps_alone
steps_within-stops left core world before h stopped =
    let goes : steps_alone core ≡ false = rw stopped in
    let none : steps_within left core world ≡ [] = steps_within-next left core world h ∙ ap (λ b. cond b (traced_step core world ∷ steps_within (left - 1) (private_step core) world) []) goes in
    rw none (append-nil before)

-- nor of one at the end of the turn
pub steps_within-end : (left : ℕ) (core : Core) (world : World) (before : List TracedStep) → left ≡ 0 → before ++ steps_within left core world ≡ before
unfolding steps_within
steps_within-end zero core world before h = append-nil before
steps_within-end (suc left) core world before h = absurd (omega arith)

pub ruleset private_steps = (steps_within-more, steps_within-waits, steps_within-stops, steps_within-end)

-- one private step more, of those that are noted
pub noted-more : (noted : ℕ) (core next : Core) (world : World) (before after whole : List TracedStep) (step : TracedStep) → noted < 256
    → core.stop ≡ None → is_private core ≡ true → next ≡ private_step core → step ≡ traced_step core world → after ≡ before ++ step ∷ []
    → before ++ steps_within (256 - noted) core world ≡ whole → after ++ steps_within (256 - (noted + 1)) next world ≡ whole
noted-more noted core next world before after whole step below running alone is told listed h =
    let left = 256 - (noted + 1) in
    let less : left ≡ (256 - noted) - 1 = omega (arith, below) in
    ap (λ (l : List TracedStep). l ++ steps_within left next world) listed
    ∙ ap (λ (s : TracedStep). (before ++ s ∷ []) ++ steps_within left next world) told
    ∙ ap (λ (k : Core). (before ++ traced_step core world ∷ []) ++ steps_within left k world) is
    ∙ ap (λ (n : ℕ). (before ++ traced_step core world ∷ []) ++ steps_within n (private_step core) world) less
    ∙ steps_within-more (256 - noted) core world before (omega (arith, below)) running alone ∙ h

pub begun-more : (noted : ℕ) (core next : Core) (whole : Begun) → noted < 256 → core.stop ≡ None → is_private core ≡ true → next ≡ private_step core
    → begun_within (256 - noted) core ≡ whole → begun_within (256 - (noted + 1)) next ≡ whole
begun-more noted core next whole below running alone is h =
    let left = 256 - (noted + 1) in
    let less : left ≡ (256 - noted) - 1 = omega (arith, below) in
    ap (λ (k : Core). begun_within left k) is
    ∙ ap (λ (n : ℕ). begun_within n (private_step core)) less
    ∙ sym (begun_within-more (256 - noted) core (omega (arith, below)) running alone) ∙ h

-- it leaves the world as it is
pub represents-more : (core : Core) (new_core : Core) (world : World) (bus : BusState) → is_private core ≡ true → IsState (step core world) new_core bus → Represents bus world
represents-more core new_core world bus alone is = subst (λ (s : State). Represents bus s.world) (private_step-world core world alone) is.represents

pub aligned-more : (before after : List TracedStep) (step : TracedStep) → All IsAligned before → IsAligned step → after ≡ before ++ step ∷ [] → All IsAligned after
aligned-more before after step all is listed = subst (All IsAligned) (sym listed) (All-push IsAligned before step all is)
