-- A turn of a core that runs adds at least one step and at most 256, and stays within the budget.
use Rattle.std.proofs.Common.{◌≡◌, ℕ, zero, suc, ◌+◌, ◌<◌, ◌≤◌, Bool, true, false, cond, refl, arith}
use Rattle.std.specs.Prelude.{Option, Some, None, is_none, ◌&&◌}
use Rattle.or_model.specs.declared.Stop.{Stop}
use Rattle.or_model.specs.Core.{Core}
use Rattle.or_model.specs.World.{World}
use Rattle.or_model.specs.Step.{is_private, private_step, empty_world}
use Rattle.or_model.specs.Turn.{Begun, steps_alone, begun_within, turn_begun, sampled, turn_ended, turn}
use Rattle.or_model.specs.Counts.{SameSettings, IsWithinBudget}
use Rattle.or_model.proofs.Executes.{SameSettings-trans}
use Rattle.or_model.proofs.Steps.{step-adds, AddsStep}
use Rattle.or_words.specs.declared.limits.TheConstants.{MOST_PRIVATE_STEPS}

-- a turn was made: at least one step and at most those of a private stretch, within the budget
pub record AddsTurn (old new : Core) : Type 0 where
  pub some : old.steps < new.steps
  pub few : new.steps ≤ old.steps + MOST_PRIVATE_STEPS
  pub settings : SameSettings old new
  pub within : IsWithinBudget new

-- where up to so many private steps leave a core
pub record Begins (left : ℕ) (old : Core) (begun : Begun) : Type 0 where
  pub some : old.steps ≤ begun.core.steps
  pub few : begun.core.steps ≤ old.steps + left
  pub settings : SameSettings old begun.core
  pub within : IsWithinBudget begun.core
  pub runs : begun.follows ≡ true → begun.core.stop ≡ None
  pub room : begun.follows ≡ true → begun.core.steps < old.steps + left
  pub started : begun.follows ≡ false → old.stop ≡ None → 0 < left → old.steps < begun.core.steps

is_none-true : (stop : Option Stop) → is_none stop ≡ true → stop ≡ None
is_none-true (Some stop) is = absurd cc
is_none-true None is = refl

is_none-false : (stop : Option Stop) → is_none stop ≡ false → stop ≡ None → ⊥
is_none-false (Some stop) is none = cc
is_none-false None is none = cc

and-first : (a b : Bool) → (a && b) ≡ true → a ≡ true
and-first true b is = refl
and-first false b is = is

-- a core that makes its next step by itself runs
steps_alone-runs : (core : Core) → steps_alone core ≡ true → core.stop ≡ None
unfolding steps_alone
steps_alone-runs core alone = is_none-true core.stop (and-first (is_none core.stop) (is_private core) alone)

same-settings : (core : Core) → SameSettings core core
same-settings core = record { number = refl; cores = refl; budget = refl; latched = refl }

private_step-adds : (core : Core) → AddsStep core (private_step core)
unfolding private_step
private_step-adds core = step-adds core empty_world

-- one private step, and then the rest
one_more : (left : ℕ) (core next : Core) (begun : Begun) → AddsStep core next → Begins left next begun → Begins (suc left) core begun
one_more left core next begun adds begins = record {
  some = let a = adds.steps in let b = begins.some in omega arith;
  few = let a = adds.steps in let b = begins.few in omega arith;
  settings = SameSettings-trans adds.settings begins.settings;
  within = begins.within;
  runs = begins.runs;
  room = λ follows. let a = adds.steps in let b = begins.room follows in omega arith;
  started = λ ends runs some. let a = adds.steps in let b = begins.some in omega arith;
}

-- a core that doesn't make its next step by itself has begun
stays : (left : ℕ) (core : Core) → IsWithinBudget core → Begins (suc left) core (record { core = core; follows = is_none core.stop })
stays left core within = record {
  some = omega arith;
  few = omega arith;
  settings = same-settings core;
  within = within;
  runs = λ follows. is_none-true core.stop follows;
  room = λ follows. omega arith;
  started = λ ends runs some. absurd (is_none-false core.stop ends runs);
}

-- one private step, if the core makes it by itself, and then the rest
next-begins : (left : ℕ) (core : Core) (rest : Begun) → IsWithinBudget core → (IsWithinBudget (private_step core) → Begins left (private_step core) rest) → (alone : Bool) → steps_alone core ≡ alone → Begins (suc left) core (cond alone rest (record { core = core; follows = is_none core.stop }))
next-begins left core rest within begins true alone =
    one_more left core (private_step core) rest (private_step-adds core)
    (begins ((private_step-adds core).within (within.running (steps_alone-runs core alone))))
next-begins left core rest within begins false alone = stays left core within

begun_within-begins : (left : ℕ) (core : Core) → IsWithinBudget core → Begins left core (begun_within left core)
unfolding begun_within
begun_within-begins zero core within = record {
  some = omega arith;
  few = omega arith;
  settings = same-settings core;
  within = within;
  runs = λ follows. absurd cc;
  room = λ follows. absurd cc;
  started = λ ends runs some. absurd (omega arith);
}
begun_within-begins (suc left) core within =
    next-begins left core (begun_within left (private_step core)) within (λ next. begun_within-begins left (private_step core) next) (steps_alone core) refl

pub turn_begun-begins : (core : Core) → IsWithinBudget core → Begins 256 core (turn_begun core)
unfolding turn_begun
turn_begun-begins core within = begun_within-begins 256 core within

sampled-within : (core : Core) (lines : ℕ) → IsWithinBudget core → IsWithinBudget (sampled core lines)
sampled-within core lines within = record { steps = within.steps; running = within.running }

-- the step on the bus, if one follows, and the sampling
ended-adds : (old core : Core) (world : World) (follows : Bool) → old.stop ≡ None → Begins 256 old (record { core = core; follows = follows }) → AddsTurn old (turn_ended core world follows).core
unfolding turn_ended
ended-adds old core world true runs begins = record {
  some = let a = (step-adds core world).steps in let b = begins.some in omega arith;
  few = let a = (step-adds core world).steps in let b = begins.room refl in omega arith;
  settings = let after = SameSettings-trans begins.settings (step-adds core world).settings in record { number = after.number; cores = after.cores; budget = after.budget; latched = after.latched };
  within = sampled-within _ _ ((step-adds core world).within (begins.within.running (begins.runs refl)));
}
ended-adds old core world false runs begins = record {
  some = begins.started refl runs (omega arith);
  few = begins.few;
  settings = record { number = begins.settings.number; cores = begins.settings.cores; budget = begins.settings.budget; latched = begins.settings.latched };
  within = sampled-within _ _ begins.within;
}

-- a turn of a core that runs
pub turn-adds : (core : Core) (world : World) → IsWithinBudget core → core.stop ≡ None → AddsTurn core (turn core world).core
unfolding turn
turn-adds core world within runs = ended-adds core (turn_begun core).core world (turn_begun core).follows runs (turn_begun-begins core within)
