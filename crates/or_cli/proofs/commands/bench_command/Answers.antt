use Rattle.or_command.specs.Ends.{end_of}
use Rattle.or_command.specs.Outcomes.{LeavesAll}
use Rattle.or_command.proofs.OutcomesLemmas.{said_leaves_all}
use Rattle.or_command.proofs.AnsweredLemmas.{answered, decided, carried}
use Rattle.or_command_run.specs.Bench.{bench_loads, bench_check, BenchWrites}
use Rattle.or_command_run.proofs.Benches.{bench_carried}
use Rattle.or_cli.proofs.commands.bench_command.Goals as goal

pub returns-clause-ends : goal.returns-clause-ends
returns-clause-ends g c =
    let numbers = c.args.workload.now in
    let schedule = c.args.schedule.now in
    let a = g.H.Host.state c.args.host.now in
    let b = g.H.Host.state c.bench-outcome.new.host in
    let d = g.H.Host.state c.conclude.new.host in
    answered bench_loads (bench_check numbers) (BenchWrites numbers schedule) LeavesAll (end_of c.bench-outcome.result) c.conclude.result a b d
    (λ left. said_leaves_all a b d left c.conclude.ensures.only) c.conclude.ensures.status c.bench-outcome.ensures.outcome c.bench-outcome.ensures.silent
    c.conclude.ensures.line c.conclude.ensures.only

pub returns-clause-complete : goal.returns-clause-complete
returns-clause-complete g c =
    let numbers = c.args.workload.now in
    let schedule = c.args.schedule.now in
    decided bench_loads (bench_check numbers) (BenchWrites numbers schedule) LeavesAll c.conclude.result
    (g.H.Host.state c.args.host.now) (g.H.Host.state c.conclude.new.host) (returns-clause-ends g c)

pub returns-clause-command : goal.returns-clause-command
returns-clause-command g c =
    let numbers = c.args.workload.now in
    let schedule = c.args.schedule.now in
    carried bench_loads (bench_check numbers) (BenchWrites numbers schedule) LeavesAll c.conclude.result
    (g.H.Host.state c.args.host.now) (g.H.Host.state c.conclude.new.host) (bench_carried numbers) (returns-clause-ends g c)
