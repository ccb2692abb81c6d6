use Rattle.std.proofs.Common.{◌≤◌, length}
use Rattle.or_model.specs.Turn.{Board}
use Rattle.or_debug.specs.Standing.{CanFollow, IsAfter}
use Rattle.or_back.specs.Tells.{AllStand}
use Rattle.or_back.specs.Copies.{AreMultiples}
use Rattle.or_back.proofs.moves.forward.Given as goal

abbrev pub invariant-loop-i : goal.invariant-loop-i
invariant-loop-i l = record {
  here : (start : Board) → CanFollow start l.turns → IsAfter start l.turns l.at l.initial.board.cores l.initial.board.bus → IsAfter start l.turns l.i l.board.cores l.board.bus;
  kept : (start : Board) → CanFollow start l.turns → IsAfter start l.turns l.at l.initial.board.cores l.initial.board.bus
      → AllStand start l.turns l.initial.kept.items → AllStand start l.turns l.kept.items;
  few : length l.initial.kept.items ≤ 3 → length l.kept.items ≤ 3;
  multiples : AreMultiples l.every l.initial.kept.items → AreMultiples l.every l.kept.items;
}
