-- What the command `run` loads, checks and writes.
use Rattle.std.specs.Prelude.{◌≡◌, ℕ, ◌==◌, List, Option, None, Bool, ◌&&◌, if◌then◌else◌, length}
use Rattle.or_words.specs.declared.Config.{Config}
use Rattle.or_words.specs.Settings.{ram_bytes}
use Rattle.or_elf.specs.Fault.{elf_fault}
use Rattle.or_sched.specs.declared.recording.Head.{Head}
use Rattle.or_model.specs.Turn.{Board}
use Rattle.or_replay.specs.Start.{start}
use Rattle.or_replay.specs.Failing.{some_core_fails}
use Rattle.or_replay.specs.Report.{report_text}
use Rattle.or_host.specs.HostState.{HostState}
use Rattle.or_command_line.specs.declared.RunOptions.{RunOptions}
use Rattle.or_command_line.specs.Names.{Names}
use Rattle.or_command.specs.Loads.{Load}
use Rattle.or_command.specs.Writes.{File}
use Rattle.or_command.specs.Ends.{FailedCheck}
use Rattle.or_command.specs.Outcomes.{LacksMemory}
use Rattle.or_command.specs.Answered.{Answers, IsDecided}
use Rattle.or_command_image.specs.Loaded.{image_loads, image_in, input_in, image_check}
use Rattle.or_command_image.specs.Opened.{head_of}
use Rattle.or_command_image.specs.Written.{made_for, written_files}
use Rattle.or_command_run.specs.Recorded.{IsRecorded}
use Rattle.or_command_run.specs.Budgets.{budget_lines, AreSaidBehind}

abbrev pub run_loads : Names → List Load
run_loads names = image_loads names.image names.input

-- the image has no fault for this size of RAM
abbrev pub run_check : Names → Config → List (List ℕ) → Option FailedCheck
run_check names config files = image_check names.image (elf_fault (image_in files) (ram_bytes config))

-- where memory ran out, the image has no fault, if it was read
abbrev pub RunLacks : Names → Config → HostState → HostState → Type 0
RunLacks names config = LacksMemory (run_loads names) (λ files. run_check names config files ≡ None)

-- a run of an image from a start, its recording and the report of the board to which it leads, each where it has a name, whether
-- a core failed, and the lines of the cores that used up their budget
pub record IsRunFrom (names : Names) (first : Board) (head : Head) (image recording report console : List ℕ) (failed : Bool) (lines : List ℕ) : Type 0 where
  pub whole : List ℕ
  pub run : IsRecorded first head whole console
  pub recorded : recording ≡ made_for names.schedule whole
  pub reported : report ≡ made_for names.report (report_text run.last (length run.schedule))
  pub failed_is : failed ≡ some_core_fails run.last.cores
  pub lines_are : lines ≡ budget_lines image head.config.budget run.last.cores

-- the same of the run of an image with an input
abbrev pub IsRun : Names → Config → List ℕ → List ℕ → List ℕ → List ℕ → List ℕ → Bool → List ℕ → Type 0
IsRun names config image input recording report console failed lines =
    IsRunFrom names (start config image input) (head_of config image input) image recording report console failed lines

-- the files and the console that a run of these settings on these files writes, where a core fails or none does, and the lines of
-- used-up budgets are these
pub record RunWrites (names : Names) (config : Config) (failed : Bool) (lines : List ℕ) (files : List (List ℕ)) (outs : List File) (console : List ℕ) : Type 0 where
  pub recording : List ℕ
  pub report : List ℕ
  pub is_run : IsRun names config (image_in files) (input_in files) recording report console failed lines
  pub outputs : outs ≡ written_files names.schedule recording names.report report

-- with `--status` 15 stands for 0 where a core failed
abbrev pub run_status : Bool → Bool → ℕ → ℕ
run_status asked failed status = if (asked && failed) && status == 0 then 15 else status

-- what the command answers, and what stands then; where all was done, the lines of used-up budgets are said behind that
pub record RunAnswers (names : Names) (options : RunOptions) (status : ℕ) (old new : HostState) : Type 0 where
  pub failed : Bool
  pub lines : List ℕ
  pub plain : ℕ
  pub status_is : status ≡ run_status options.status failed plain
  pub ended : HostState
  pub answers : Answers (run_loads names) (run_check names options.config) (RunWrites names options.config failed lines) (RunLacks names options.config) plain old ended
  pub told : AreSaidBehind plain lines ended new

-- if no I/O error occurs, the file contents determine the status, unless memory runs out; with `--status` 15 may stand for 0
pub record RunDecided (names : Names) (options : RunOptions) (status : ℕ) (old new : HostState) : Type 0 where
  pub failed : Bool
  pub lines : List ℕ
  pub plain : ℕ
  pub status_is : status ≡ run_status options.status failed plain
  pub decided : IsDecided (run_loads names) (run_check names options.config) (RunWrites names options.config failed lines) (RunLacks names options.config) plain old new
