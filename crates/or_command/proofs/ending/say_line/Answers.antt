use Rattle.std.proofs.Common.{[], sym, ap}
use Rattle.or_command.specs.declared.outcome.Outcome.{Outcome}
use Rattle.or_command.specs.Lines.{memory_line}
use Rattle.or_command.specs.Ends.{end_of, line_of}
use Rattle.or_command.proofs.SaysLemmas.{said_none, said_as}
use Rattle.or_command.proofs.ending.say_line.Goals as goal

pub returns-in-Done : goal.returns-in-Done
returns-in-Done g c =
    let s = g.H.Host.state c.args.host.now in
    said_as _ [] _ s s (ap (λ (o : Outcome). line_of (end_of o)) (sym c.in-Done.is)) (said_none tt s)

pub returns-in-NoMemory : goal.returns-in-NoMemory
returns-in-NoMemory g c =
    let s = g.H.Host.state c.args.host.now in
    said_as _ memory_line _ s _ (ap (λ (o : Outcome). line_of (end_of o)) (sym c.in-NoMemory.is)) (c.then_say.ensures s [] (said_none tt s))
