use Rattle.or_command.specs.Ends.{end_of, lines_of}
use Rattle.or_command.proofs.SaysLemmas.{said_line}
use Rattle.or_command.proofs.ending.conclude.Goals as goal

pub returns-clause-line : goal.returns-clause-line
returns-clause-line g c =
    said_line c.say_outcome.result (lines_of (end_of c.args.outcome)) (g.H.Host.state c.args.host.now) (g.H.Host.state c.say_outcome.new.host) c.say_outcome.ensures
