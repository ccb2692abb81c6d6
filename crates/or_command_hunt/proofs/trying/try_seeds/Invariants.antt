use Rattle.std.proofs.Common.{◌≡◌}
use Rattle.or_model.specs.Turn.{Board}
use Rattle.or_replay.specs.Board.{IsBoard}
use Rattle.or_hunt.specs.Failing.{NoneFails}
use Rattle.or_command.specs.Said.{OnlySays}
use Rattle.or_command_hunt.specs.Tries.{tried, SaidTries}
use Rattle.or_command_hunt.proofs.trying.try_seeds.Given as goal

-- none of the seeds so far fails, and a line was said of each number of tries that is due
abbrev pub invariant-loop-lines : goal.invariant-loop-lines
invariant-loop-lines g l = record {
  so_many : l.tried ≡ tried l.options.tries l.lines;
  none : (start : Board) → IsBoard l.fn.first.cores l.fn.first.bus start → NoneFails start l.options.seed l.tried;
  same : (start : Board) → IsBoard l.fn.first.cores l.fn.first.bus start → IsBoard l.first.cores l.first.bus start;
  said : SaidTries l.options.tries l.lines (g.H.Host.state l.fn.host) (g.H.Host.state l.host);
  only : OnlySays (g.H.Host.state l.fn.host) (g.H.Host.state l.host);
}
