use Rattle.std.proofs.Common.{◌≡◌, length}
use Rattle.or_model.specs.Turn.{Board}
use Rattle.or_replay.specs.Board.{IsBoard, steps_left}
use Rattle.or_hunt.proofs.making.draw_stretches.Given as goal
use Rattle.or_hunt.proofs.Makes.{IsUnderWay}

-- the stretches so far
abbrev pub invariant-loop-x : goal.invariant-loop-x
invariant-loop-x l = record {
  so_far : (start : Board) → IsBoard l.fn.board.cores l.fn.board.bus start → IsUnderWay start l.greatest l.first l.x l.made l.board.cores l.board.bus;
  many : length l.greatest ≡ length l.board.cores;
}

abbrev pub decreases-loop-x : goal.decreases-loop-x
decreases-loop-x l = steps_left l.board.cores
