use Rattle.or_command.specs.Ends.{end_of}
use Rattle.or_command.proofs.AnsweredLemmas.{answered, decided, carried}
use Rattle.or_command_source.specs.Listing.{dis_loads, dis_check, DisWrites, DisLacks}
use Rattle.or_command_source.proofs.Ending.{dis_carried, lacks_then_said}
use Rattle.or_command_source.proofs.disassembly.dis.Goals as goal

pub returns-clause-ends : goal.returns-clause-ends
returns-clause-ends g c =
    let image = c.args.image.now in
    let a = g.H.Host.state c.args.host.now in
    let b = g.H.Host.state c.disassembled-outcome.new.host in
    let d = g.H.Host.state c.conclude.new.host in
    answered (dis_loads image) (dis_check image) DisWrites (DisLacks image) (end_of c.disassembled-outcome.result) c.conclude.result a b d
    (lacks_then_said image a b d c.conclude.ensures.only) c.conclude.ensures.status c.disassembled-outcome.ensures.outcome c.disassembled-outcome.ensures.silent
    c.conclude.ensures.line c.conclude.ensures.only

pub returns-clause-decided : goal.returns-clause-decided
returns-clause-decided g c =
    let image = c.args.image.now in
    decided (dis_loads image) (dis_check image) DisWrites (DisLacks image) c.conclude.result
    (g.H.Host.state c.args.host.now) (g.H.Host.state c.conclude.new.host) (returns-clause-ends g c)

pub returns-clause-command : goal.returns-clause-command
returns-clause-command g c =
    let image = c.args.image.now in
    carried (dis_loads image) (dis_check image) DisWrites (DisLacks image) c.conclude.result
    (g.H.Host.state c.args.host.now) (g.H.Host.state c.conclude.new.host) (dis_carried image) (returns-clause-ends g c)
