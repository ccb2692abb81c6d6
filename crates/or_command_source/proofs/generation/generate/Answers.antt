use Rattle.std.proofs.Common.{[], refl}
use Rattle.or_command.specs.Ends.{end_of}
use Rattle.or_command.specs.Outcomes.{LeavesAll}
use Rattle.or_command.proofs.OutcomesLemmas.{said_leaves_all}
use Rattle.or_command.proofs.AnsweredLemmas.{answered, decided, carried, goes_on}
use Rattle.or_command_source.specs.Generation.{gen_loads, gen_check, GenWrites}
use Rattle.or_command_source.proofs.Ending.{none_loaded, gen_apart, gen_carried}
use Rattle.or_command_source.proofs.generation.generate.Goals as goal

pub returns-clause-ends : goal.returns-clause-ends
returns-clause-ends g c =
    let a = g.H.Host.state c.args.host.now in
    let b = g.H.Host.state c.generated-outcome.new.host in
    let d = g.H.Host.state c.conclude.new.host in
    let numbers = c.args.workload.now in
    let source = c.args.source.now in
    answered gen_loads gen_check (GenWrites numbers source) LeavesAll (end_of c.generated-outcome.result) c.conclude.result a b d
    (λ left. said_leaves_all a b d left c.conclude.ensures.only) c.conclude.ensures.status
    (goes_on gen_loads gen_check (GenWrites numbers source) (gen_apart numbers source) [] [] (end_of c.generated-outcome.result) a a b refl (none_loaded a)
    c.generated-outcome.ensures.outcome) c.generated-outcome.ensures.silent c.conclude.ensures.line c.conclude.ensures.only

pub returns-clause-decided : goal.returns-clause-decided
returns-clause-decided g c =
    decided gen_loads gen_check (GenWrites c.args.workload.now c.args.source.now) LeavesAll c.conclude.result
    (g.H.Host.state c.args.host.now) (g.H.Host.state c.conclude.new.host) (returns-clause-ends g c)

pub returns-clause-command : goal.returns-clause-command
returns-clause-command g c =
    carried gen_loads gen_check (GenWrites c.args.workload.now c.args.source.now) LeavesAll c.conclude.result
    (g.H.Host.state c.args.host.now) (g.H.Host.state c.conclude.new.host) gen_carried (returns-clause-ends g c)
