use Rattle.std.proofs.Common.{◌≡◌, ◌<◌, ◌+◌, length}
use Rattle.or_model.specs.Turn.{Board as BoardModel}
use Rattle.or_replay.specs.Board.{IsBoard}
use Rattle.or_debug.specs.Standing.{CanFollow}
use Rattle.or_command.specs.Leaves.{Silent}
use Rattle.or_recorded.specs.Trace.{traced}
use Rattle.or_recorded.specs.Tracing.{IsTraced}
use Rattle.or_recorded.proofs.tracing.trace_turns.Given as goal

abbrev pub invariant-loop-core : goal.invariant-loop-core
invariant-loop-core g l = record {
  counted : l.number + length l.rest ≡ length l.turns + 1;
  so_far : (first : BoardModel) → IsBoard l.initial.board.cores l.initial.board.bus first → CanFollow first l.turns
      → IsTraced l.options l.labels (traced l.options l.labels first 1 l.turns) l.made.items l.number l.rest l.board.cores l.board.bus
      (g.H.Host.state l.initial.host) (g.H.Host.state l.host);
  bounded : length l.made.items < 65536;
  silent : Silent (g.H.Host.state l.initial.host) (g.H.Host.state l.host);
}

abbrev pub decreases-loop-core : goal.decreases-loop-core
decreases-loop-core g l = length l.rest
