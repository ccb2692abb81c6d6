use Rattle.std.proofs.Common.{◌≡◌, ℕ, ◌+◌, ◌<◌, ◌≤◌, length}
use Rattle.or_turn.specs.Schedules.{core_at}
use Rattle.or_turn.specs.Ordered.{Numbered, Among}
use Rattle.or_turn.proofs.shared.closing.in_order.Given as goal

abbrev pub invariant-loop-number : goal.invariant-loop-number
invariant-loop-number l = record {
  len : length l.ordered.items ≡ l.number;
  left : length l.cores.items + l.number ≡ length l.fn.cores.items;
  few : length l.fn.cores.items ≤ 8;
  numbered : (n : ℕ) → l.number ≤ n → n < length l.fn.cores.items → Numbered n l.cores.items;
  among : (i : ℕ) → i < length l.cores.items → Among (core_at l.cores.items i) l.fn.cores.items;
  placed : (n : ℕ) → n < l.number → ((core_at l.ordered.items n).number ≡ n) × Among (core_at l.ordered.items n) l.fn.cores.items;
}
