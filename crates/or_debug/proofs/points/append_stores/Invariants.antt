use Rattle.std.proofs.Common.{◌≡◌, ◌≤◌, ◌++◌, take, vec_capacity}
use Rattle.std.specs.List.{flat_map}
use Rattle.or_model.specs.Turn.{Board}
use Rattle.or_replay.specs.Board.{IsBoard}
use Rattle.or_debug.specs.Standing.{seen_store}
use Rattle.or_debug.proofs.points.append_stores.Given as goal

abbrev pub invariant-loop-point : goal.invariant-loop-point
invariant-loop-point l = record {
  text : (now : Board) → IsBoard l.initial.board.cores l.initial.board.bus now → l.text.items ≡ l.initial.text.items ++ flat_map (seen_store l.made now.world.ram) (take l.point-index l.points);
  capacity : vec_capacity l.initial.text ≤ vec_capacity l.text;
  board : (now : Board) → IsBoard l.initial.board.cores l.initial.board.bus now → IsBoard l.board.cores l.board.bus now;
  config : l.board.config ≡ l.initial.board.config;
}
