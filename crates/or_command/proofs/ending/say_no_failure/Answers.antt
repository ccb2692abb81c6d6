use Rattle.std.proofs.Common.{[]}
use Rattle.or_command.proofs.SaysLemmas.{said_none}
use Rattle.or_command.proofs.ending.say_no_failure.Goals as goal

pub returns : goal.returns
returns g c =
    let s = g.H.Host.state c.args.host.now in
    c.then_say.ensures s _ (c.then_number-so_far.ensures s _ (c.then_say-so_far.ensures s [] (said_none tt s)))
