use Rattle.std.proofs.Common.{rules}
use Rattle.or_core.proofs.Progress.{turn_progress}
use Rattle.or_core.proofs.state.Core.turn_placed.Goals as goal

pub returns-clause-progress : goal.returns-clause-progress
returns-clause-progress c =
    turn_progress c.args.self.now c.begin-begun.new.self c.end.new.self c.begin-begun.result.follows c.begin-begun.ensures.begun (search rules) c.requires.running c.end.ensures.steps
