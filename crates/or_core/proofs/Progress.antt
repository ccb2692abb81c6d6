-- A turn makes at least one step.
use Rattle.std.proofs.Common.{◌≡◌, ◌+◌, ◌<◌, Bool, true, false, cond, None, refl, subst, arith}
use Rattle.or_model.specs.Core.{Core}
use Rattle.or_model.specs.Turn.{turn_begun}
use Rattle.or_model.specs.Counts.{IsWithinBudget}
use Rattle.or_model.proofs.Turns.{Begins, turn_begun-begins}

by_follows : (follows : Bool) (old mid new : Core) → Begins 256 old (record { core = mid; follows = follows }) → old.stop ≡ None
    → new.steps ≡ mid.steps + cond follows 1 0 → old.steps < new.steps
by_follows true old mid new begins runs adds = omega (arith, begins.some, adds)
by_follows false old mid new begins runs adds = let started = begins.started refl runs (omega arith) in omega (arith, started, adds)

pub turn_progress : (old mid new : Core) (follows : Bool) → turn_begun old ≡ record { core = mid; follows = follows } → old.steps < old.budget → old.stop ≡ None
    → new.steps ≡ mid.steps + cond follows 1 0 → old.steps < new.steps
turn_progress old mid new follows begun few runs adds =
    let within : IsWithinBudget old = record { steps = omega (arith, few); running = λ r. few } in
    let begins : Begins 256 old (record { core = mid; follows = follows }) = subst (Begins 256 old) begun (turn_begun-begins old within) in
    by_follows follows old mid new begins runs adds
