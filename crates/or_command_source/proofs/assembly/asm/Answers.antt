use Rattle.std.specs.Prelude.{⊤}
use Rattle.or_command.specs.Ends.{end_of}
use Rattle.or_command.proofs.OutcomesLemmas.{said_lacks}
use Rattle.or_command.proofs.AnsweredLemmas.{answered, decided, carried}
use Rattle.or_command_source.specs.Assembly.{asm_loads, asm_check, AsmWrites, AsmLacks}
use Rattle.or_command_source.proofs.Ending.{asm_carried}
use Rattle.or_command_source.proofs.assembly.asm.Goals as goal

pub returns-clause-ends : goal.returns-clause-ends
returns-clause-ends g c =
    let a = g.H.Host.state c.args.host.now in
    let b = g.H.Host.state c.assembled-outcome.new.host in
    let d = g.H.Host.state c.conclude.new.host in
    answered (asm_loads c.args.source.now) (asm_check c.args.source.now) (AsmWrites c.args.image.now c.args.symbols) (AsmLacks c.args.source.now) (end_of c.assembled-outcome.result) c.conclude.result a b d
    (λ left. said_lacks (asm_loads c.args.source.now) (λ files. ⊤) a b d left c.conclude.ensures.only) c.conclude.ensures.status c.assembled-outcome.ensures.outcome c.assembled-outcome.ensures.silent
    c.conclude.ensures.line c.conclude.ensures.only

pub returns-clause-decided : goal.returns-clause-decided
returns-clause-decided g c =
    decided (asm_loads c.args.source.now) (asm_check c.args.source.now) (AsmWrites c.args.image.now c.args.symbols) (AsmLacks c.args.source.now) c.conclude.result
    (g.H.Host.state c.args.host.now) (g.H.Host.state c.conclude.new.host) (returns-clause-ends g c)

pub returns-clause-command : goal.returns-clause-command
returns-clause-command g c =
    carried (asm_loads c.args.source.now) (asm_check c.args.source.now) (AsmWrites c.args.image.now c.args.symbols) (AsmLacks c.args.source.now) c.conclude.result
    (g.H.Host.state c.args.host.now) (g.H.Host.state c.conclude.new.host) (asm_carried c.args.source.now) (returns-clause-ends g c)
