-- From the parts of a bench to its outcome.
use Rattle.std.proofs.Common.{◌≡◌, sym, ap, ℕ, List, Some, arith}
use Rattle.std.specs.Prelude.{Result, Ok, Err}
use Rattle.or_words.specs.Settings.{ram_bytes}
use Rattle.or_asm.specs.Source.{SourceFault, source_of}
use Rattle.or_elf.specs.Text.{Piece, elf_text}
use Rattle.or_elf.specs.Fault.{elf_fault}
use Rattle.or_command_line.specs.declared.Workload.{Workload}
use Rattle.or_command.specs.Writes.{File}
use Rattle.or_command.specs.Ends.{FailedCheck, CommandEnd, done, unread, too_long, refused, unwritten, no_memory}
use Rattle.or_command.specs.Answered.{StopsInCheck}
use Rattle.or_command.specs.Carried.{IsCarriedOut}
use Rattle.or_command.specs.Outcomes.{AreApart}
use Rattle.or_command_run.specs.Bench.{bench_loads, bench_check, bench_config, bench_name, bench_source, workload_told, workload_check, program_check, BenchWrites}
use Rattle.or_command_image.proofs.Images.{image_status}

-- no file is loaded that could be one of those that are written
pub bench_apart : (numbers : Workload) (schedule : List ℕ) (files : List (List ℕ)) (outs : List File) (console : List ℕ)
    → BenchWrites numbers schedule files outs console → AreApart bench_loads outs
bench_apart numbers schedule files outs console writes = tt

program_carried : (numbers : Workload) (said : Result (List Piece) SourceFault) (fault : FailedCheck) → program_check numbers said ≡ Some fault → IsCarriedOut fault.status
program_carried numbers (Ok program) fault found =
    let three = image_status bench_name (elf_fault (elf_text program) (ram_bytes (bench_config numbers))) fault found in (λ two. absurd (omega (arith, three, two)), λ same. absurd (omega (arith, three, same)))
program_carried numbers (Err refusal) fault found =
    let same : workload_told refusal ≡ fault = cc in
    let nine : fault.status ≡ 9 = sym (ap (λ (f : FailedCheck). f.status) same) in (λ two. absurd (omega (arith, nine, two)), λ same. absurd (omega (arith, nine, same)))

-- a source that has no program stops a bench
pub program_stops : (numbers : Workload) (said : Result (List Piece) SourceFault) (end : CommandEnd) → StopsInCheck (workload_check said) end → StopsInCheck (program_check numbers said) end
program_stops numbers (Err refusal) end stops = stops
program_stops numbers (Ok program) (refused fault) stops = absurd (let b : ⊥ = cc in b)
program_stops numbers (Ok program) no_memory stops = stops
program_stops numbers (Ok program) done stops = absurd stops
program_stops numbers (Ok program) (unread name) stops = absurd stops
program_stops numbers (Ok program) (too_long name limit) stops = absurd stops
program_stops numbers (Ok program) (unwritten name) stops = absurd stops

-- neither check of a bench has status 2 or 16
pub bench_carried : (numbers : Workload) (files : List (List ℕ)) (fault : FailedCheck) → bench_check numbers files ≡ Some fault → IsCarriedOut fault.status
bench_carried numbers files fault found = program_carried numbers (source_of (bench_source numbers)) fault found
