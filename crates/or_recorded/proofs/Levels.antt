-- A profile stays level with the cores: it has as many items of each as the core has made steps.
use Rattle.std.proofs.Common.{◌≡◌, ◌≢◌, ◌∙◌, refl, sym, ap, subst, ℕ, zero, suc, ◌+◌, ◌<◌, ◌≤◌, ◌^◌, cond, Bool, true, false, List, [], Option, Some, None, Ok, length, inl, inr, arith}
use Rattle.std.proofs.lemmas.Grind.{common_steps}
use Rattle.std.specs.Prelude.{slice_get, slice_set, is_none}
use Rattle.or_words.specs.declared.Config.{Config}
use Rattle.or_words.specs.Settings.{Fits}
use Rattle.or_model.specs.Core.{Core, reset_core}
use Rattle.or_model.specs.declared.Stop.{Stop}
use Rattle.or_model.specs.Counts.{IsWithinBudget}
use Rattle.or_model.specs.Turn.{Board, running, with_core, turn, board_turned, board_turned_by, reset_cores}
use Rattle.or_model.proofs.Turns.{turn-adds}
use Rattle.or_bus.specs.State.{BusState}
use Rattle.or_replay.specs.Board.{IsBoard, IsTurned}
use Rattle.or_replay.specs.Start.{start}
use Rattle.or_replay.proofs.Reset.{length-reset_cores}
use Rattle.or_prof.specs.Tally.{Counts}
use Rattle.or_prof.specs.Profile.{Profiled, IsProfile, steps_in, steps_of}
use Rattle.or_prof.proofs.Gets.{nat_cases, get-inside, get-snoc, get-set_same, get-set_other}
use Rattle.or_recorded.specs.Profiling.{IsAt, IsLevel}

length_set : (cores : List Core) (c : ℕ) (new : Core) → length (slice_set cores c new) ≡ length cores
length_set cores c new = grind (arith, common_steps)

-- a turn that was made is one of a core that ran
pub record IsMade (board : Board) (c : ℕ) (next : Board) : Type 0 where
  pub core : Core
  pub at : slice_get board.cores c ≡ Some core
  pub runs : core.stop ≡ None
  pub is : next ≡ with_core board c (turn core board.world)

no_stop : (stop : Option Stop) → is_none stop ≡ true → stop ≡ None
no_stop None is = refl
no_stop (Some stop) is = absurd (let b : ⊥ = cc in b)

made_where : (board : Board) (c : ℕ) (core : Core) (next : Board) (runs : Bool) → slice_get board.cores c ≡ Some core → is_none core.stop ≡ runs
    → board_turned_by board c (cond runs (Some core) None) ≡ Some next → IsMade board c next
made_where board c core next true at runs is =
    record { core = core; at = at; runs = no_stop core.stop runs; is = let e : next ≡ with_core board c (turn core board.world) = cc in e }
made_where board c core next false at runs is = absurd (let b : ⊥ = cc in b)

made_by : (board : Board) (c : ℕ) (core : Option Core) (next : Board) → slice_get board.cores c ≡ core → board_turned_by board c (running core) ≡ Some next → IsMade board c next
made_by board c None next at is = absurd (let b : ⊥ = cc in b)
made_by board c (Some core) next at is = made_where board c core next (is_none core.stop) at refl is

pub made : (board : Board) (c : ℕ) (next : Board) → board_turned board c ≡ Some next → IsMade board c next
unfolding board_turned
made board c next is = made_by board c (slice_get board.cores c) next refl is

-- a turn that was not refused
board_after : (turned : Option Board) (cores : List Core) (bus : BusState) → IsTurned {T = Unit {0}} turned (Ok tt) cores bus → (next : Board) × (turned ≡ Some next) × IsBoard cores bus next
board_after None cores bus is = absurd is
board_after (Some next) cores bus is = (next, refl, is)

module _ (profile new : Profiled) (cores new_cores : List Core) (bus new_bus : BusState) (c : ℕ) (many : ℕ) (level : IsLevel profile cores bus)
    (counts : (before after : Core) → slice_get cores c ≡ Some before → slice_get new_cores c ≡ Some after → after.steps ≡ before.steps + many)
    (same : length new.cores ≡ length profile.cores) (risen : steps_of new c ≡ steps_of profile c + many)
    (others : (other : ℕ) → other ≢ c → steps_of new other ≡ steps_of profile other) where
  module _ (next : Board) (is : IsBoard new_cores new_bus next) (m : IsMade level.now c next) where
    before : slice_get cores c ≡ Some m.core
    before = ap (λ (l : List Core). slice_get l c) level.is.same_cores ∙ m.at

    set_is : new_cores ≡ slice_set cores c (turn m.core level.now.world).core
    set_is = is.same_cores ∙ (ap (λ (b : Board). b.cores) m.is ∙ ap (λ (l : List Core). slice_set l c (turn m.core level.now.world).core) (sym level.is.same_cores))

    own_at : (core : Core) → slice_get new_cores c ≡ Some core → IsAt (steps_of new c) core
    own_at core found =
        let was = level.each c m.core before in
        let adds = turn-adds m.core level.now.world was.within m.runs in
        let turned : (turn m.core level.now.world).core ≡ core =
        get-set_same cores c m.core (turn m.core level.now.world).core core before (subst (λ (l : List Core). slice_get l c ≡ Some core) set_is found) in
        record {
          steps = counts m.core core before found ∙ (ap (λ n. n + many) was.steps ∙ sym risen);
          within = subst IsWithinBudget turned adds.within;
          few = let b : core.budget ≡ m.core.budget = ap (λ (k : Core). k.budget) (sym turned) ∙ adds.settings.budget in omega (arith, b, was.few);
        }

    other_at : (d : ℕ) (core : Core) → d ≢ c → slice_get new_cores d ≡ Some core → IsAt (steps_of new d) core
    other_at d core differ found =
        subst (λ (n : ℕ). IsAt n core) (sym (others d differ))
        (level.each d core (sym (get-set_other cores c d (turn m.core level.now.world).core differ) ∙ subst (λ (l : List Core). slice_get l d ≡ Some core) set_is found))

    level_at : IsLevel new new_cores new_bus
    level_at = record {
      now = next;
      is = is;
      many = same ∙ (level.many ∙ sym (ap (λ (l : List Core). length l) set_is ∙ length_set cores c (turn m.core level.now.world).core));
      each = λ d core found. elim (nat_cases d c) [
        | inl here ↦ subst (λ (e : ℕ). IsAt (steps_of new e) core) (sym here) (own_at core (subst (λ (e : ℕ). slice_get new_cores e ≡ Some core) here found))
        | inr differ ↦ other_at d core differ found
      ];
    }

  -- after a turn that was made
  pub level_stays : IsTurned {T = Unit {0}} (board_turned level.now c) (Ok tt) new_cores new_bus → IsLevel new new_cores new_bus
  level_stays turned = let after = board_after (board_turned level.now c) new_cores new_bus turned in level_at after.0 after.2 (made level.now c after.0 after.1)

-- a trace more finds room
pub has_room : (profile : Profiled) (cores : List Core) (bus : BusState) (c many : ℕ) → IsLevel profile cores bus → c < length cores → many ≤ 256 → steps_of profile c + many < 2 ^ 27
has_room profile cores bus c many level inside few =
    let core = get-inside cores c inside in
    let at = level.each c core.0 core.1 in
    let steps = at.steps in let within = at.within.steps in let budget = at.few in omega arith

-- a core at reset
pub reset-is : (config : Config) (count c : ℕ) (core : Core) → slice_get (reset_cores config count) c ≡ Some core → (n : ℕ) × (reset_core config n ≡ core)
unfolding reset_cores
reset-is config zero c core found = absurd (let b : ⊥ = cc in b)
reset-is config (suc count) c core found =
    elim (get-snoc (reset_cores config count) (reset_core config count) core c found) [
      | inl there ↦ reset-is config count c core there
      | inr last ↦ (count, last)
    ]

reset_at : (config : Config) (n : ℕ) → Fits config → IsAt 0 (reset_core config n)
unfolding reset_core
reset_at config n fits = record { steps = refl; within = record { steps = omega arith; running = λ e. (let s = fits.some_step in omega arith) }; few = fits.few_steps }

steps_none : (profile : Profiled) (c : ℕ) (counts : Option Counts) → IsProfile profile [] → slice_get profile.cores c ≡ counts → steps_in counts ≡ 0
steps_none profile c None is at = refl
steps_none profile c (Some counts) is at = (is.counts c counts at).steps

pub level_at_start : (config : Config) (image input : List ℕ) (profile : Profiled) (cores : List Core) (bus : BusState) → Fits config → length profile.cores ≡ config.cores
    → IsProfile profile [] → IsBoard cores bus (start config image input) → IsLevel profile cores bus
unfolding start
level_at_start config image input profile cores bus fits many opened is = record {
  now = start config image input;
  is = is;
  many = many ∙ sym (ap (λ (l : List Core). length l) is.same_cores ∙ length-reset_cores config config.cores);
  each = λ c core found.
      let reset = reset-is config config.cores c core (subst (λ (l : List Core). slice_get l c ≡ Some core) is.same_cores found) in
      subst (λ (n : ℕ). IsAt n core) (sym (steps_none profile c (slice_get profile.cores c) opened refl)) (subst (IsAt 0) reset.1 (reset_at config reset.0 fits));
}
