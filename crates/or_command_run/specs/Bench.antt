-- What the command `bench` checks and writes. It loads no file: its source is the workload, and its image the file of the
-- source's program.
use Rattle.std.specs.Prelude.{◌≡◌, ℕ, List, [], ◌∷◌, ◌++◌, Option, Some, None, Result, Ok, Err, false, codes, decimal}
use Rattle.or_words.specs.declared.Config.{Config}
use Rattle.or_words.specs.Settings.{ram_bytes}
use Rattle.or_asm_read.specs.Faults.{number_of_fault}
use Rattle.or_asm.specs.Source.{SourceFault, source_of}
use Rattle.or_elf.specs.Text.{Piece, elf_text}
use Rattle.or_elf.specs.Fault.{elf_fault}
use Rattle.or_gen.specs.Workload.{workload}
use Rattle.or_sched.specs.declared.recording.Head.{Head}
use Rattle.or_model.specs.Turn.{Board}
use Rattle.or_replay.specs.Start.{start}
use Rattle.or_command_line.specs.declared.Workload.{Workload}
use Rattle.or_command.specs.Loads.{Load}
use Rattle.or_command.specs.Writes.{File}
use Rattle.or_command.specs.Ends.{FailedCheck}
use Rattle.or_command.specs.Lines.{source_line}
use Rattle.or_command_image.specs.Loaded.{image_check}
use Rattle.or_command_source.specs.Assembly.{IsFileOf}
use Rattle.or_command_image.specs.Opened.{head_of}
use Rattle.or_command_run.specs.declared.benching.TheConstants.{BUDGET}
use Rattle.or_command_run.specs.Recorded.{IsRecorded}

abbrev pub bench_loads : List Load
bench_loads = []

abbrev pub bench_source : Workload → List ℕ
bench_source numbers = workload numbers.seed numbers.cores numbers.rounds

-- the settings that a workload runs with: its cores, a budget that outlasts its rounds, and 1 MiB of RAM
unfoldable pub bench_config : Workload → Config
bench_config numbers = record { cores = numbers.cores; budget = BUDGET; ram = 1; latched = false }

-- what stands in place of a file's name where a check fails
abbrev pub bench_name : List ℕ
bench_name = codes "workload"

-- The source is in no file of the user's, so the sentence names no word of it.
abbrev pub workload_told : SourceFault → FailedCheck
workload_told refusal = record {
  status = 9;
  line = source_line bench_name (number_of_fault refusal.fault) refusal.line;
  sentence = codes "the workload does not assemble, which is a fault of or1k: please report it";
}

abbrev pub workload_check : Result (List Piece) SourceFault → Option FailedCheck
workload_check (Ok program) = None
workload_check (Err refusal) = Some (workload_told refusal)

-- the source has a program, and the program's file no fault
abbrev pub program_check : Workload → Result (List Piece) SourceFault → Option FailedCheck
program_check numbers (Ok program) = image_check bench_name (elf_fault (elf_text program) (ram_bytes (bench_config numbers)))
program_check numbers (Err refusal) = workload_check (Err refusal)

abbrev pub bench_check : Workload → List (List ℕ) → Option FailedCheck
bench_check numbers files = program_check numbers (source_of (bench_source numbers))

-- the text that tells of a bench: its words, and what the console has shown
unfoldable pub bench_text : Workload → List ℕ → List ℕ
bench_text numbers console =
    codes "bench " ++ decimal numbers.seed ++ codes " " ++ decimal numbers.cores ++ codes " " ++ decimal numbers.rounds ++ codes "\nrun " ++ console

-- a recorded run from a start, and the text that tells of it
pub record IsBenchFrom (first : Board) (head : Head) (numbers : Workload) (recording text : List ℕ) : Type 0 where
  pub console : List ℕ
  pub run : IsRecorded first head recording console
  pub told : text ≡ bench_text numbers console

-- the recording of a run of the workload's image without input is written, and the text goes to standard output
pub record BenchWrites (numbers : Workload) (schedule : List ℕ) (files : List (List ℕ)) (outs : List File) (console : List ℕ) : Type 0 where
  pub image : List ℕ
  pub is_image : IsFileOf false (bench_source numbers) image
  pub recording : List ℕ
  pub is_bench : IsBenchFrom (start (bench_config numbers) image []) (head_of (bench_config numbers) image []) numbers recording console
  pub outputs : outs ≡ record { name = schedule; text = recording } ∷ []
