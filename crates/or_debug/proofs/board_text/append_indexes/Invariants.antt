use Rattle.std.proofs.Common.{◌≡◌, ◌≤◌, ◌++◌, vec_capacity}
use Rattle.or_model.specs.Turn.{Board}
use Rattle.or_replay.specs.Board.{IsBoard}
use Rattle.or_debug.specs.BoardText.{index_lines}
use Rattle.or_debug.proofs.board_text.append_indexes.Given as goal

abbrev pub invariant-loop-index : goal.invariant-loop-index
invariant-loop-index l = record {
  text : (now : Board) → IsBoard l.board.cores l.board.bus now → l.text.items ≡ l.initial.text.items ++ index_lines now.world.accesses l.core l.index;
  capacity : vec_capacity l.initial.text ≤ vec_capacity l.text;
}
