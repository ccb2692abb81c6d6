-- Any command on a recorded run: what it checks, and what it writes.
use Rattle.std.specs.Prelude.{◌≡◌, ◌⊎◌, ℕ, List, Option, Some, None}
use Rattle.or_sched.specs.declared.recording.Head.{Head}
use Rattle.or_sched.specs.declared.recording.Mark.{Mark}
use Rattle.or_model.specs.Turn.{Board}
use Rattle.or_command.specs.Writes.{File}
use Rattle.or_command.specs.Ends.{FailedCheck}
use Rattle.or_command.specs.Outcomes.{LacksMemory}
use Rattle.or_host.specs.HostState.{HostState}
use Rattle.or_replay.specs.Start.{start}
use Rattle.or_recorded.specs.declared.checked.Recording.{Recording}
use Rattle.or_recorded.specs.declared.checked.RunFault.{RunFault}
use Rattle.or_recorded.specs.declared.refused.OwnFault.{OwnFault}
use Rattle.or_recorded.specs.declared.refused.Fault.{Fault}
use Rattle.or_recorded.specs.declared.refused.Fault.TheVariants.{OfRun, Own}
use Rattle.or_recorded.specs.Checked.{IsChecked, IsFirstFault, RunsShort}
use Rattle.or_recorded.specs.Files.{Names, Files, loads, files_in, outs_of}
use Rattle.or_recorded.specs.Refused.{fault_check, own_check, Fails}

-- a recorded run: the bytes of its files, and what its recording tells
pub record Run : Type 0 where
  pub files : Files
  pub head : Head
  pub turns : List ℕ
  pub marks : List Mark

abbrev pub run_of : Files → Recording → Run
run_of files recording = record { files = files; head = recording.head; turns = recording.turns.items; marks = recording.marks.items }

-- the board before the first turn
abbrev pub start_of : Run → Board
start_of run = start run.head.config run.files.image run.files.input

-- the run of these files; no check of a recorded run fails
pub record IsRunOf (files : Files) (run : Run) : Type 0 where
  pub of : run.files ≡ files
  pub checked : IsChecked run.files.image run.files.input run.files.recording run.head run.turns run.marks

-- a check of a recorded run fails
pub record FailsToRun (names : Names) (files : Files) (check : FailedCheck) : Type 0 where
  pub fault : RunFault
  pub first : IsFirstFault files.image files.input files.recording fault
  pub told : fault_check names.run fault ≡ Some check

-- memory ran out behind the loads of these files
abbrev pub FilesRunShort : Names → List (List ℕ) → Type 0
FilesRunShort names read = RunsShort (files_in names read).image (files_in names read).input (files_in names read).recording

-- what a command on a recorded run leaves where memory ran out
abbrev pub CommandLacks : Names → HostState → HostState → Type 0
CommandLacks names = LacksMemory (loads names) (FilesRunShort names)

-- A command is told by two things: `fault`, the check of its own that a run fails, behind all checks of a recorded run, or
-- none; and `Makes`, the texts that it makes of a run, of its report and of the console.
module _ (fault : Run → Option OwnFault) (Makes : Run → List ℕ → List ℕ → Type 0) where
  -- no check fails
  pub record Passes (files : Files) : Type 0 where
    pub run : Run
    pub is : IsRunOf files run
    pub sound : fault run ≡ None

  -- the texts that are made of these files
  pub record IsMade (files : Files) (report console : List ℕ) : Type 0 where
    pub run : Run
    pub is : IsRunOf files run
    pub sound : fault run ≡ None
    pub makes : Makes run report console

  -- a check of its own fails, or memory ran out
  pub record IsOwn (files : Files) (own : OwnFault) : Type 0 where
    pub run : Run
    pub is : IsRunOf files run
    pub fails : Fails own (fault run)

  -- why no texts are made of these files
  abbrev pub IsFault : Files → Fault → Type 0
  IsFault files (OfRun first) = IsFirstFault files.image files.input files.recording first
  IsFault files (Own own) = IsOwn files own

-- the same with names of the files
module _ (fault : Run → Option OwnFault) (Makes : Run → List ℕ → List ℕ → Type 0) (names : Names) where
  -- a check of its own fails
  pub record FailsItself (files : Files) (check : FailedCheck) : Type 0 where
    pub run : Run
    pub is : IsRunOf files run
    pub own : OwnFault
    pub fails : fault run ≡ Some own
    pub told : own_check names own ≡ Some check

  abbrev pub Judged : Files → Option FailedCheck → Type 0
  Judged files None = Passes fault Makes files
  Judged files (Some check) = FailsToRun names files check ⊎ FailsItself files check

  -- the first check that fails, or that none does
  abbrev pub Verdict : List (List ℕ) → Option FailedCheck → Type 0
  Verdict read found = Judged (files_in names read) found

  -- what is written: the report, where it has a name, and the console
  pub record Writes (read : List (List ℕ)) (outs : List File) (console : List ℕ) : Type 0 where
    pub report : List ℕ
    pub made : IsMade fault Makes (files_in names read) report console
    pub outputs : outs ≡ outs_of names.report report

-- the status and the line of the check that failed, unless memory ran out
abbrev pub told_check : Names → Fault → Option FailedCheck
told_check names (OfRun fault) = fault_check names.run fault
told_check names (Own own) = own_check names own
