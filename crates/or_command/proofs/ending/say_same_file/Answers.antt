use Rattle.std.proofs.Common.{[]}
use Rattle.or_command.proofs.SaysLemmas.{said_none}
use Rattle.or_command.proofs.ending.say_same_file.Goals as goal

pub returns : goal.returns
returns g c =
    let s = g.H.Host.state c.args.host.now in
    rw (← c.as_bytes.ensures.value)
    (rw (← c.as_bytes-2.ensures.value)
    (c.then_say.ensures s _ (c.then_say-so_far-4.ensures s _ (c.then_say-so_far-3.ensures s _ (c.then_say-so_far-2.ensures s _
    (c.then_say-so_far.ensures s [] (said_none tt s)))))))
