use Rattle.std.proofs.Common.{◌≡◌, ◌++◌, take, drop, map}
use Rattle.or_model.specs.Turn.{Board}
use Rattle.or_replay.specs.Board.{IsBoard}
use Rattle.or_debug.specs.Standing.{seen}
use Rattle.or_debug.proofs.points.look_at_all.Given as goal

abbrev pub invariant-loop-point : goal.invariant-loop-point
invariant-loop-point l = record {
  points : (now : Board) → IsBoard l.initial.board.cores l.initial.board.bus now
      → l.points ≡ map (seen now.world.ram) (take l.point-index l.initial.points) ++ drop l.point-index l.initial.points;
  board : (now : Board) → IsBoard l.initial.board.cores l.initial.board.bus now → IsBoard l.board.cores l.board.bus now;
  config : l.board.config ≡ l.initial.board.config;
}
