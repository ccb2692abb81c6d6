use Rattle.std.proofs.Common.{rules}
use Rattle.or_core.proofs.Progress.{turn_progress}
use Rattle.or_core.proofs.state.Core.turn_traced.Goals as goal

pub returns-clause-progress : goal.returns-clause-progress
returns-clause-progress c =
    turn_progress c.args.self.now c.begin_traced-follows.new.self c.end_turn.new.self c.begin_traced-follows.result c.begin_traced-follows.ensures.begun (search rules) c.requires.running c.end_turn.ensures.steps
