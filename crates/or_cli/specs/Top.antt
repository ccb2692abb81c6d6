-- What the top call says of each command.
use Rattle.std.specs.Prelude.{ℕ, List, Bool, true, false, Option, Some, None, if◌then◌else◌}
use Rattle.or_host.specs.HostState.{HostState}
use Rattle.or_command_line.specs.Command.{CommandModel, command_of}
use Rattle.or_command_line.specs.Command.CommandModel.{run, hunt, replay, asm, dis, debug, gen, bench, back, race, prof, trace}
use Rattle.or_command_line.specs.declared.TraceOptions.{TraceOptions}
use Rattle.or_command_line.specs.Usage.{usage_sentence}
use Rattle.or_command.specs.Lines.{usage_lines}
use Rattle.or_command.specs.Loads.{Load}
use Rattle.or_command.specs.Writes.{File}
use Rattle.or_command.specs.Ends.{FailedCheck}
use Rattle.or_command.specs.Said.{SaidLine}
use Rattle.or_command.specs.Outcomes.{LeavesAll}
use Rattle.or_command.specs.Answered.{Answers, AnswersBy, IsDecided, IsDecidedBy}
use Rattle.or_recorded.specs.declared.refused.OwnFault.{OwnFault}
use Rattle.or_recorded.specs.Command.{Run, Verdict, Writes, CommandLacks}
use Rattle.or_recorded.specs.Files.{Names, loads, run_alone, with_script, with_report}
use Rattle.or_recorded.specs.Replay.{replay_fault, IsReplayed}
use Rattle.or_recorded.specs.Debug.{debug_fault, MakesSession}
use Rattle.or_recorded.specs.Back.{back_fault, MakesBackSession}
use Rattle.or_recorded.specs.Race.{race_fault, MakesRaces}
use Rattle.or_recorded.specs.Prof.{prof_fault, MakesProfile}
use Rattle.or_recorded.specs.Trace.{trace_fault, MakesTrace, TraceLacks}
use Rattle.or_command_source.specs.Assembly.{asm_loads, asm_check, AsmWrites, AsmLacks}
use Rattle.or_command_source.specs.Listing.{dis_loads, dis_check, DisWrites, DisLacks}
use Rattle.or_command_source.specs.Generation.{gen_loads, gen_check, GenWrites}
use Rattle.or_command_run.specs.Run.{RunAnswers, RunDecided}
use Rattle.or_command_hunt.specs.Hunt.{HuntAnswers, HuntDecided}
use Rattle.or_command_run.specs.Bench.{bench_loads, bench_check, BenchWrites}

-- the commands that work cores on threads, and so wait
abbrev pub is_threaded : CommandModel → Bool
is_threaded (run names options) = true
is_threaded (bench workload schedule stay) = true
is_threaded _ = false

abbrev pub of_threads : Option CommandModel → Option CommandModel
of_threads None = None
of_threads (Some command) = if is_threaded command then Some command else None

abbrev pub of_one_thread : Option CommandModel → Option CommandModel
of_one_thread None = None
of_one_thread (Some command) = if is_threaded command then None else Some command

-- the command of a command line, if it runs cores on threads, and if it does not
abbrev pub threaded_command : List (List ℕ) → Option CommandModel
threaded_command words = of_threads (command_of words)

abbrev pub lone_command : List (List ℕ) → Option CommandModel
lone_command words = of_one_thread (command_of words)

-- the command line is not valid: that and why is said, and nothing else happens
pub record IsUsage (words : List (List ℕ)) (old new : HostState) : Type 0 where
  pub left : LeavesAll old new
  pub said : SaidLine (usage_lines (usage_sentence words)) old new

-- what is said of a command: what stands after it with a status, and when the files determine the status
pub record Told : Type 1 where
  pub Ends : ℕ → HostState → HostState → Type 0
  pub Decided : ℕ → HostState → HostState → Type 0

-- of a command by what it loads, its verdict, what it writes, and what it leaves where memory ran out
abbrev pub judged : List Load → (List (List ℕ) → Option FailedCheck → Type 0) → (List (List ℕ) → List File → List ℕ → Type 0) → (HostState → HostState → Type 0) → Told
judged loads Verdict Writes Lacks = record { Ends = AnswersBy loads Verdict Writes Lacks; Decided = IsDecidedBy loads Verdict Writes Lacks }

-- of a command on a recorded run by the check of its own, the texts that it makes, and the names of its files
abbrev pub on_a_run : (Run → Option OwnFault) → (Run → List ℕ → List ℕ → Type 0) → Names → Told
on_a_run fault Makes names = judged (loads names) (Verdict fault Makes names) (Writes fault Makes names) (CommandLacks names)

-- of a trace, which is written while it is made, so that a prefix of it may be left where memory ran out
abbrev pub on_a_trace : TraceOptions → Names → Told
on_a_trace options names =
    judged (loads names) (Verdict trace_fault (MakesTrace options) names) (Writes trace_fault (MakesTrace options) names) (TraceLacks options names)

-- what stands after a command with this status
abbrev pub CommandEnds : CommandModel → ℕ → HostState → HostState → Type 0
CommandEnds (run names options) status old new = RunAnswers names options status old new
CommandEnds (hunt names options) status old new = HuntAnswers names options status old new
CommandEnds (replay files report) status old new = (on_a_run replay_fault (IsReplayed report) (with_report files report)).Ends status old new
CommandEnds (debug files script) status old new = (on_a_run debug_fault MakesSession (with_script files script)).Ends status old new
CommandEnds (back files script every) status old new = (on_a_run back_fault MakesBackSession (with_script files script)).Ends status old new
CommandEnds (race files options) status old new = (on_a_run (race_fault options.places) (MakesRaces options.locks options.places) (run_alone files)).Ends status old new
CommandEnds (prof files hot) status old new = (on_a_run prof_fault (MakesProfile hot) (run_alone files)).Ends status old new
CommandEnds (trace files options) status old new = (on_a_trace options (run_alone files)).Ends status old new
CommandEnds (asm source image symbols) status old new = Answers (asm_loads source) (asm_check source) (AsmWrites image symbols) (AsmLacks source) status old new
CommandEnds (dis image) status old new = Answers (dis_loads image) (dis_check image) DisWrites (DisLacks image) status old new
CommandEnds (gen workload source) status old new = Answers gen_loads gen_check (GenWrites workload source) LeavesAll status old new
CommandEnds (bench workload schedule stay) status old new = Answers bench_loads (bench_check workload) (BenchWrites workload schedule) LeavesAll status old new

-- if no I/O error occurs, the file contents determine the status, unless memory runs out; of a run 15 may stand for 0 with --status
abbrev pub IsComplete : CommandModel → ℕ → HostState → HostState → Type 0
IsComplete (run names options) status old new = RunDecided names options status old new
IsComplete (hunt names options) status old new = HuntDecided names options status old new
IsComplete (replay files report) status old new = (on_a_run replay_fault (IsReplayed report) (with_report files report)).Decided status old new
IsComplete (debug files script) status old new = (on_a_run debug_fault MakesSession (with_script files script)).Decided status old new
IsComplete (back files script every) status old new = (on_a_run back_fault MakesBackSession (with_script files script)).Decided status old new
IsComplete (race files options) status old new = (on_a_run (race_fault options.places) (MakesRaces options.locks options.places) (run_alone files)).Decided status old new
IsComplete (prof files hot) status old new = (on_a_run prof_fault (MakesProfile hot) (run_alone files)).Decided status old new
IsComplete (trace files options) status old new = (on_a_trace options (run_alone files)).Decided status old new
IsComplete (asm source image symbols) status old new = IsDecided (asm_loads source) (asm_check source) (AsmWrites image symbols) (AsmLacks source) status old new
IsComplete (dis image) status old new = IsDecided (dis_loads image) (dis_check image) DisWrites (DisLacks image) status old new
IsComplete (gen workload source) status old new = IsDecided gen_loads gen_check (GenWrites workload source) LeavesAll status old new
IsComplete (bench workload schedule stay) status old new = IsDecided bench_loads (bench_check workload) (BenchWrites workload schedule) LeavesAll status old new
