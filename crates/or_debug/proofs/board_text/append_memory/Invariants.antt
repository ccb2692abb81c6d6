use Rattle.std.proofs.Common.{◌≡◌, ◌≤◌, ◌++◌, vec_capacity}
use Rattle.or_model.specs.Turn.{Board}
use Rattle.or_replay.specs.Board.{IsBoard}
use Rattle.or_debug.specs.BoardText.{memory_text}
use Rattle.or_debug.proofs.board_text.append_memory.Given as goal

-- the words so far stand before those that are left
abbrev pub invariant-loop-left : goal.invariant-loop-left
invariant-loop-left l = record {
  text : (now : Board) → IsBoard l.initial.board.cores l.initial.board.bus now
      → l.text.items ++ memory_text now.world.ram l.place l.left ≡ l.initial.text.items ++ memory_text now.world.ram l.address l.words;
  capacity : vec_capacity l.initial.text ≤ vec_capacity l.text;
  board : (now : Board) → IsBoard l.initial.board.cores l.initial.board.bus now → IsBoard l.board.cores l.board.bus now;
  config : l.board.config ≡ l.initial.board.config;
}

abbrev pub decreases-loop-left : goal.decreases-loop-left
decreases-loop-left l = l.left
