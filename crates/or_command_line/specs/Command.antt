-- The commands and their words.
use Rattle.std.specs.Prelude.{ℕ, Bool, List, [], ◌∷◌, ◌&&◌, if◌then◌else◌, Option, Some, None, codes}
use Rattle.std.specs.Str.{bytes_eq}
use Rattle.or_words.specs.Settings.{Fits}
use Rattle.or_command_line.specs.declared.RunOptions.{RunOptions}
use Rattle.or_command_line.specs.declared.HuntOptions.{HuntOptions}
use Rattle.or_command_line.specs.declared.RaceOptions.{RaceOptions}
use Rattle.or_command_line.specs.declared.TraceOptions.{TraceOptions}
use Rattle.or_command_line.specs.declared.Workload.{Workload}
use Rattle.or_command_line.specs.declared.Command.{Command}
use Rattle.or_command_line.specs.declared.Command.TheVariants.{Run as IsRun, Hunt as IsHunt, Replay as IsReplay, Asm as IsAsm, Dis as IsDis, Debug as IsDebug, Gen as IsGen, Bench as IsBench, Back as IsBack, Race as IsRace, Prof as IsProf, Trace as IsTrace}
use Rattle.or_command_line.specs.Words.{is_name, differ, IsFileName}
use Rattle.or_command_line.specs.Names.{Names, Recorded, recorded_names, run_names, hunt_names, are_recorded, is_report, are_run_names, AreRecorded, IsReport, AreWritten, IsAssembly}
use Rattle.or_command_line.specs.Settings.{run_options_of, hunt_options_of, stay_alone_of, every_of, FitsStay, FitsHunt, FitsEvery, flag_alone_of, race_options_of, FitsTrace, trace_options_of}
use Rattle.or_command_line.specs.Workloads.{workload_of, FitsWorkload}

-- a command as contracts see it
pub data CommandModel : Type 0 where
  run : Names → RunOptions → CommandModel
  hunt : Names → HuntOptions → CommandModel
  replay : Recorded → List ℕ → CommandModel
  asm : List ℕ → List ℕ → Bool → CommandModel
  dis : List ℕ → CommandModel
  debug : Recorded → List ℕ → CommandModel
  gen : Workload → List ℕ → CommandModel
  bench : Workload → List ℕ → ℕ → CommandModel
  back : Recorded → List ℕ → ℕ → CommandModel
  race : Recorded → RaceOptions → CommandModel
  prof : Recorded → Bool → CommandModel
  trace : Recorded → TraceOptions → CommandModel

abbrev pub run_with : Names → Option RunOptions → Option CommandModel
run_with names None = None
run_with names (Some options) = Some (run names options)

-- `IMAGE INPUT SCHED REPORT [--cores N] [--budget N] [--ram N] [--pic latched] [--stay N] [--status]`
abbrev pub run_where : Names → List (List ℕ) → Option CommandModel
run_where names options = if are_run_names names then run_with names (run_options_of options) else None

unfoldable pub run_of : List (List ℕ) → Option CommandModel
run_of (image ∷ input ∷ schedule ∷ report ∷ options) = run_where (record { image = image; input = input; schedule = schedule; report = report }) options
run_of _ = None

abbrev pub hunt_with : Names → Option HuntOptions → Option CommandModel
hunt_with names None = None
hunt_with names (Some options) = Some (hunt names options)

-- `IMAGE INPUT SCHED REPORT [--cores N] [--budget N] [--ram N] [--pic latched] [--seed N] [--tries N]`
abbrev pub hunt_where : Names → List (List ℕ) → Option CommandModel
hunt_where names options = if are_run_names names then hunt_with names (hunt_options_of options) else None

unfoldable pub hunt_of : List (List ℕ) → Option CommandModel
hunt_of (image ∷ input ∷ schedule ∷ report ∷ options) = hunt_where (record { image = image; input = input; schedule = schedule; report = report }) options
hunt_of _ = None

-- `IMAGE INPUT SCHED REPORT`
abbrev pub replay_where : Recorded → List ℕ → Option CommandModel
replay_where files report = if are_recorded files && is_report files report then Some (replay files report) else None

unfoldable pub replay_of : List (List ℕ) → Option CommandModel
replay_of (image ∷ input ∷ schedule ∷ report ∷ []) = replay_where (record { image = image; input = input; schedule = schedule }) report
replay_of _ = None

-- `SRC IMAGE [--symbols]`
abbrev pub asm_where : List ℕ → List ℕ → Option Bool → Option CommandModel
asm_where source image None = None
asm_where source image (Some symbols) = if (is_name source && is_name image) && differ image source then Some (asm source image symbols) else None

unfoldable pub asm_of : List (List ℕ) → Option CommandModel
asm_of (source ∷ image ∷ options) = asm_where source image (flag_alone_of (codes "--symbols") options)
asm_of _ = None

-- `IMAGE`
unfoldable pub dis_of : List (List ℕ) → Option CommandModel
dis_of (image ∷ []) = if is_name image then Some (dis image) else None
dis_of _ = None

-- `IMAGE INPUT SCHED SCRIPT`
abbrev pub debug_where : Recorded → List ℕ → Option CommandModel
debug_where files script = if are_recorded files && is_name script then Some (debug files script) else None

unfoldable pub debug_of : List (List ℕ) → Option CommandModel
debug_of (image ∷ input ∷ schedule ∷ script ∷ []) = debug_where (record { image = image; input = input; schedule = schedule }) script
debug_of _ = None

-- `IMAGE INPUT SCHED SCRIPT [--every N]`
abbrev pub back_with : Recorded → List ℕ → Option ℕ → Option CommandModel
back_with files script None = None
back_with files script (Some every) = Some (back files script every)

abbrev pub back_where : Recorded → List ℕ → List (List ℕ) → Option CommandModel
back_where files script options = if are_recorded files && is_name script then back_with files script (every_of options) else None

unfoldable pub back_of : List (List ℕ) → Option CommandModel
back_of (image ∷ input ∷ schedule ∷ script ∷ options) = back_where (record { image = image; input = input; schedule = schedule }) script options
back_of _ = None

-- `IMAGE INPUT SCHED [--locks] [--where]`
abbrev pub race_with : Recorded → Option RaceOptions → Option CommandModel
race_with files None = None
race_with files (Some options) = Some (race files options)

abbrev pub race_where : Recorded → List (List ℕ) → Option CommandModel
race_where files options = if are_recorded files then race_with files (race_options_of options) else None

unfoldable pub race_of : List (List ℕ) → Option CommandModel
race_of (image ∷ input ∷ schedule ∷ options) = race_where (record { image = image; input = input; schedule = schedule }) options
race_of _ = None

-- `IMAGE INPUT SCHED [--core N] [--from T] [--to T]`
abbrev pub trace_with : Recorded → Option TraceOptions → Option CommandModel
trace_with files None = None
trace_with files (Some options) = Some (trace files options)

abbrev pub trace_where : Recorded → List (List ℕ) → Option CommandModel
trace_where files options = if are_recorded files then trace_with files (trace_options_of options) else None

unfoldable pub trace_of : List (List ℕ) → Option CommandModel
trace_of (image ∷ input ∷ schedule ∷ options) = trace_where (record { image = image; input = input; schedule = schedule }) options
trace_of _ = None

-- `IMAGE INPUT SCHED [--hot]`
abbrev pub prof_with : Recorded → Option Bool → Option CommandModel
prof_with files None = None
prof_with files (Some hot) = Some (prof files hot)

abbrev pub prof_where : Recorded → List (List ℕ) → Option CommandModel
prof_where files options = if are_recorded files then prof_with files (flag_alone_of (codes "--hot") options) else None

unfoldable pub prof_of : List (List ℕ) → Option CommandModel
prof_of (image ∷ input ∷ schedule ∷ options) = prof_where (record { image = image; input = input; schedule = schedule }) options
prof_of _ = None

-- `SEED CORES ROUNDS SRC`
abbrev pub gen_with : List ℕ → Option Workload → Option CommandModel
gen_with source None = None
gen_with source (Some workload) = if is_name source then Some (gen workload source) else None

unfoldable pub gen_of : List (List ℕ) → Option CommandModel
gen_of (seed ∷ cores ∷ rounds ∷ source ∷ []) = gen_with source (workload_of seed cores rounds)
gen_of _ = None

-- `SEED CORES ROUNDS SCHED [--stay N]`
abbrev pub bench_where : List ℕ → Workload → Option ℕ → Option CommandModel
bench_where schedule workload None = None
bench_where schedule workload (Some stay) = if is_name schedule then Some (bench workload schedule stay) else None

abbrev pub bench_with : List ℕ → Option Workload → List (List ℕ) → Option CommandModel
bench_with schedule None options = None
bench_with schedule (Some workload) options = bench_where schedule workload (stay_alone_of options)

unfoldable pub bench_of : List (List ℕ) → Option CommandModel
bench_of (seed ∷ cores ∷ rounds ∷ schedule ∷ options) = bench_with schedule (workload_of seed cores rounds) options
bench_of _ = None

-- the commands that run, write or read programs
abbrev pub program_command : List ℕ → List (List ℕ) → Option CommandModel
program_command verb words =
    if bytes_eq verb (codes "run") then run_of words else
    if bytes_eq verb (codes "hunt") then hunt_of words else
    if bytes_eq verb (codes "bench") then bench_of words else
    if bytes_eq verb (codes "gen") then gen_of words else
    if bytes_eq verb (codes "asm") then asm_of words else
    if bytes_eq verb (codes "dis") then dis_of words else
    None

-- the command that the words are, or none: one on a recorded run, or one on a program
unfoldable pub command_of : List (List ℕ) → Option CommandModel
command_of [] = None
command_of (verb ∷ words) =
    if bytes_eq verb (codes "replay") then replay_of words else
    if bytes_eq verb (codes "debug") then debug_of words else
    if bytes_eq verb (codes "back") then back_of words else
    if bytes_eq verb (codes "race") then race_of words else
    if bytes_eq verb (codes "prof") then prof_of words else
    if bytes_eq verb (codes "trace") then trace_of words else
    program_command verb words

-- what the code's commands show
abbrev pub shown_command : Command → CommandModel
shown_command (IsRun words) = run (run_names words) words.options
shown_command (IsHunt words) = hunt (hunt_names words) words.options
shown_command (IsReplay files report) = replay (recorded_names files) report.now
shown_command (IsAsm source image symbols) = asm source.now image.now symbols
shown_command (IsDis image) = dis image.now
shown_command (IsDebug files script) = debug (recorded_names files) script.now
shown_command (IsGen workload source) = gen workload source.now
shown_command (IsBench workload schedule stay) = bench workload schedule.now stay
shown_command (IsBack files script every) = back (recorded_names files) script.now every
shown_command (IsRace files options) = race (recorded_names files) options
shown_command (IsProf files hot) = prof (recorded_names files) hot
shown_command (IsTrace files options) = trace (recorded_names files) options

-- the names of a command are names of files, the written ones differ from each other one, and its numbers are in their ranges
abbrev pub AreNamesOf : CommandModel → Type 0
AreNamesOf (run names options) = AreWritten names × Fits options.config × FitsStay options.stay
AreNamesOf (hunt names options) = AreWritten names × Fits options.config × FitsHunt options
AreNamesOf (replay files report) = AreRecorded files × IsReport files report
AreNamesOf (asm source image symbols) = IsAssembly source image
AreNamesOf (dis image) = IsFileName image
AreNamesOf (debug files script) = AreRecorded files × IsFileName script
AreNamesOf (gen workload source) = FitsWorkload workload × IsFileName source
AreNamesOf (bench workload schedule stay) = FitsWorkload workload × IsFileName schedule × FitsStay stay
AreNamesOf (back files script every) = AreRecorded files × IsFileName script × FitsEvery every
AreNamesOf (race files options) = AreRecorded files
AreNamesOf (prof files hot) = AreRecorded files
AreNamesOf (trace files options) = AreRecorded files × FitsTrace options
