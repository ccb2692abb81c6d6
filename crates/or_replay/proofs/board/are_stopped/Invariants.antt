use Rattle.std.proofs.Common.{◌≡◌, length}
use Rattle.or_replay.specs.Board.{all_stopped}
use Rattle.or_replay.proofs.board.are_stopped.Given as goal

abbrev pub invariant-loop-core : goal.invariant-loop-core
invariant-loop-core l = all_stopped l.rest ≡ all_stopped l.cores

abbrev pub decreases-loop-core : goal.decreases-loop-core
decreases-loop-core l = length l.rest
