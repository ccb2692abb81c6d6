use Rattle.std.proofs.Common.{◌≡◌, ℕ, ◌<◌}
use Rattle.or_turn.specs.Schedules.{core_at}
use Rattle.or_turn.proofs.shared.closing.place_of.Given as goal

abbrev pub invariant-loop-i : goal.invariant-loop-i
invariant-loop-i l = (k : ℕ) → k < l.i → (core_at l.cores k).number ≡ l.number → ⊥
