use Rattle.or_command.specs.Ends.{end_of, line_of}
use Rattle.or_command.proofs.ending.say_outcome.Goals as goal

pub returns : goal.returns
returns g c = c.then_second.ensures (g.H.Host.state c.args.host.now) (line_of (end_of c.args.outcome)) c.say_line-so_far.ensures
