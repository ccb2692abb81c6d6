use Rattle.std.proofs.Common.{ℕ, List, [], subst, sym}
use Rattle.std.specs.Prelude.{Result}
use Rattle.or_words.specs.Settings.{ram_bytes}
use Rattle.or_asm.specs.Source.{SourceFault}
use Rattle.or_elf.specs.Text.{Piece}
use Rattle.or_elf.specs.Fault.{elf_fault}
use Rattle.or_command_image.specs.Loaded.{image_check}
use Rattle.or_command.specs.Ends.{end_of}
use Rattle.or_command.specs.Answered.{Stops}
use Rattle.or_command_run.specs.Bench.{bench_check, bench_config, bench_name, program_check, BenchWrites}
use Rattle.or_command_run.proofs.Stopping.{stops_end, stops_in_check}
use Rattle.or_command_run.proofs.benching.finish.Goals as goal

pub returns-in-Err-clause-outcome : goal.returns-in-Err-clause-outcome
returns-in-Err-clause-outcome g c =
    let numbers = c.args.workload.now in
    let ram = ram_bytes (bench_config numbers) in
    let end = end_of c.refused.result in
    stops_end (bench_check numbers) (BenchWrites numbers c.args.schedule.now) [] end (g.H.Host.state c.args.host.now)
    (stops_in_check (bench_check numbers []) end
    (subst (λ (said : Result (List Piece) SourceFault). Stops (program_check numbers said) end) (sym c.requires.image.said)
    (subst (λ (image : List ℕ). Stops (image_check bench_name (elf_fault image ram)) end) c.requires.image.text
    (c.refused.ensures c.args.image.now ram c.in-Err.ensures.run))))
