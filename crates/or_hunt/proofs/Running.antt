-- The cores that a draw chooses among run.
use Rattle.std.proofs.Common.{◌≡◌, ℕ, ◌+◌, ◌<◌, zero, suc, List, [], ◌∷◌, Some, None, length, refl, ap, sym, ◌∙◌, subst, Bool, true, false, cond, ◌&&◌, arith}
use Rattle.std.specs.Prelude.{Option, slice_index, is_none}
use Rattle.or_model.specs.declared.Stop.{Stop}
use Rattle.or_model.specs.Core.{Core}
use Rattle.or_replay.specs.Board.{RunsAt, all_stopped}
use Rattle.or_hunt.specs.Drawn.{running_from}

some_later : (runs : Bool) (c : ℕ) (all : Bool) (later : List ℕ) → (cond runs false true && all) ≡ false → (all ≡ false → 0 < length later)
    → 0 < length (cond runs (c ∷ later) later)
some_later true c all later some each = omega arith
some_later false c all later some each = each some

-- where not all have stopped there is one
pub some_running : (c : ℕ) (cores : List Core) → all_stopped cores ≡ false → 0 < length (running_from c cores)
some_running c [] some = absurd (let b : ⊥ = cc in b)
some_running c (core ∷ cores) some = some_later (is_none core.stop) c (all_stopped cores) (running_from (c + 1) cores) some (some_running (c + 1) cores)

-- the core at a place runs, where the first of these cores has this number
abbrev RunsFrom : ℕ → List Core → ℕ → Type 0
RunsFrom c cores number = (place : ℕ) × (number ≡ c + place) × RunsAt cores place

none_of : (stop : Option Stop) → is_none stop ≡ true → stop ≡ None
none_of None is = refl
none_of (Some stop) is = absurd (let b : ⊥ = cc in b)

behind : (c : ℕ) (core : Core) (cores : List Core) (number : ℕ) → RunsFrom (c + 1) cores number → RunsFrom c (core ∷ cores) number
behind c core cores number runs = (suc runs.0, omega (arith, runs.1), (omega (arith, runs.2.0), λ other at. runs.2.1 other at))

here : (c : ℕ) (core : Core) (cores : List Core) → core.stop ≡ None → RunsFrom c (core ∷ cores) c
here c core cores runs = (0, omega arith, (omega arith, λ other at. let same : core ≡ other = cc in ap (λ (k : Core). k.stop) (sym same) ∙ runs))

one_by : (runs : Bool) (c : ℕ) (core : Core) (cores : List Core) (i : ℕ) → is_none core.stop ≡ runs
    → ((k : ℕ) → k < length (running_from (c + 1) cores) → RunsFrom (c + 1) cores (slice_index (running_from (c + 1) cores) k))
    → i < length (cond runs (c ∷ running_from (c + 1) cores) (running_from (c + 1) cores))
    → RunsFrom c (core ∷ cores) (slice_index (cond runs (c ∷ running_from (c + 1) cores) (running_from (c + 1) cores)) i)
one_by true c core cores zero is later inside = here c core cores (none_of core.stop is)
one_by true c core cores (suc i) is later inside = behind c core cores (slice_index (running_from (c + 1) cores) i) (later i (omega (arith, inside)))
one_by false c core cores i is later inside = behind c core cores (slice_index (running_from (c + 1) cores) i) (later i inside)

-- each of them runs
each_runs : (c : ℕ) (cores : List Core) (i : ℕ) → i < length (running_from c cores) → RunsFrom c cores (slice_index (running_from c cores) i)
each_runs c [] i inside = absurd (omega (arith, inside))
each_runs c (core ∷ cores) i inside = one_by (is_none core.stop) c core cores i refl (λ k less. each_runs (c + 1) cores k less) inside

pub runs_at : (cores : List Core) (i : ℕ) → i < length (running_from 0 cores) → RunsAt cores (slice_index (running_from 0 cores) i)
runs_at cores i inside =
    let runs = each_runs 0 cores i inside in
    let same : slice_index (running_from 0 cores) i ≡ runs.0 = omega (arith, runs.1) in
    subst (RunsAt cores) (sym same) runs.2

pub ruleset running = (some_running, runs_at)
