use Rattle.std.proofs.Common.{[], refl}
use Rattle.or_command.specs.Ends.{end_of}
use Rattle.or_command.proofs.AnsweredLemmas.{goes_on}
use Rattle.or_command_source.proofs.Ending.{none_loaded}
use Rattle.or_command_run.specs.Bench.{bench_loads, bench_check, BenchWrites}
use Rattle.or_asm.specs.Source.{source_of}
use Rattle.or_command_run.specs.Bench.{bench_source}
use Rattle.or_command_run.proofs.Stopping.{stops_end}
use Rattle.or_command_run.proofs.Benches.{bench_apart, program_stops}
use Rattle.or_command_run.proofs.benching.bench.Goals as goal

pub returns-in-Ok-clause-outcome : goal.returns-in-Ok-clause-outcome
returns-in-Ok-clause-outcome g c =
    let numbers = c.args.workload.now in
    let schedule = c.args.schedule.now in
    let a = g.H.Host.state c.args.host.now in
    goes_on bench_loads (bench_check numbers) (BenchWrites numbers schedule) (bench_apart numbers schedule) [] [] (end_of c.finish.result)
    a a (g.H.Host.state c.finish.new.host) refl (none_loaded a) c.finish.ensures.outcome

pub returns-in-Err-clause-outcome : goal.returns-in-Err-clause-outcome
returns-in-Err-clause-outcome g c =
    let numbers = c.args.workload.now in
    let schedule = c.args.schedule.now in
    let a = g.H.Host.state c.args.host.now in
    let end = end_of c.in-Err.outcome in
    let source = source_of (bench_source numbers) in
    goes_on bench_loads (bench_check numbers) (BenchWrites numbers schedule) (bench_apart numbers schedule) [] [] end a a a refl (none_loaded a)
    (stops_end (bench_check numbers) (BenchWrites numbers schedule) [] end a
    (program_stops numbers source end c.in-Err.ensures.file))
