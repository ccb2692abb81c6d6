use Rattle.std.proofs.Common.{◌≡◌, ◌<◌, ◌⊎◌, length}
use Rattle.or_model.specs.Turn.{Board}
use Rattle.or_replay.specs.Board.{RunsAt, steps_left}
use Rattle.or_hunt.specs.Making.{IsMade}
use Rattle.or_hunt.proofs.making.stretch.Given as goal
use Rattle.or_hunt.proofs.Makes.{IsStretching}

-- the stretch so far; its first turn was made, or the core runs
abbrev pub invariant-loop-left : goal.invariant-loop-left
invariant-loop-left l = record {
  so_far : (start now : Board) → IsMade start l.fn.made l.fn.board.cores l.fn.board.bus now
      → IsStretching start l.fn.made l.made l.board.cores l.board.bus l.core now l.most l.left;
  begun : ((l.left ≡ l.most) × RunsAt l.board.cores l.core × (steps_left l.board.cores ≡ steps_left l.fn.board.cores))
      ⊎ (steps_left l.board.cores < steps_left l.fn.board.cores);
  many : length l.board.cores ≡ length l.fn.board.cores;
}

abbrev pub decreases-loop-left : goal.decreases-loop-left
decreases-loop-left l = l.left
