-- Any command that loads files, checks them, and then writes.
use Rattle.std.specs.Prelude.{◌≡◌, ◌⊎◌, ℕ, List, [], ◌∷◌, length, nat_lt, if◌then◌else◌, Option, Some, None, ⊤}
use Rattle.or_host.specs.Counts.{Rose}
use Rattle.or_host.specs.HostState.{HostState}
use Rattle.or_command.specs.Leaves.{Untouched, NoFault}
use Rattle.or_command.specs.Writes.{File, IsOther, AllWritten, WriteStopped}
use Rattle.or_command.specs.Loads.{Load, AreRead, StopsUnread, StopsTooLong}
use Rattle.or_command.specs.Said.{SaidLine}
use Rattle.or_command.specs.Ends.{FailedCheck, CommandEnd, done, unread, too_long, refused, unwritten, no_memory, lines_of}

-- nothing is written or created, and no fault came
pub record LeavesAll (old new : HostState) : Type 0 where
  pub untouched : Untouched old new
  pub no_fault : NoFault old new

-- the files are read, and the checks that were made of them pass
pub record HavePassed (loads : List Load) (Passed : List (List ℕ) → Type 0) (new : HostState) : Type 0 where
  pub files : List (List ℕ)
  pub read : AreRead loads files new
  pub passed : Passed files

-- Memory ran out, and nothing is written or created: a load found none, which the host has counted, or all files are read and
-- the checks that were made before pass.
pub record LacksMemory (loads : List Load) (Passed : List (List ℕ) → Type 0) (old new : HostState) : Type 0 where
  pub left : LeavesAll old new
  pub cause : Rose old.lacks new.lacks ⊎ HavePassed loads Passed new

-- no file that is loaded is one of those that are written
abbrev pub AreApart : List Load → List File → Type 0
AreApart [] files = ⊤
AreApart (load ∷ loads) files = IsOther load.name files × AreApart loads files

-- the first file that holds more than its limit
abbrev pub first_long : List Load → List (List ℕ) → Option Load
first_long [] files = None
first_long (load ∷ loads) [] = None
first_long (load ∷ loads) (file ∷ files) = if nat_lt load.limit (length file) then Some load else first_long loads files

abbrev pub end_by : Option Load → Option FailedCheck → CommandEnd
end_by (Some load) fault = too_long load.name load.limit
end_by None (Some fault) = refused fault
end_by None None = done

-- the host tells what each of the files holds
abbrev pub AllTold : List Load → List (List ℕ) → HostState → Type 0
AllTold [] [] state = ⊤
AllTold [] (file ∷ files) state = ⊥
AllTold (load ∷ loads) [] state = ⊥
AllTold (load ∷ loads) (file ∷ files) state = (state.holds load.name ≡ Some (Some file)) × AllTold loads files state

-- A command is told by four things: the files that it loads, in order; `Verdict`, the first check of their bytes that fails,
-- or that none does; `Writes`, which texts and console it writes of these bytes; and `OnNoMemory`, what it leaves where memory
-- ran out.
module _ (loads : List Load) (Verdict : List (List ℕ) → Option FailedCheck → Type 0) (Writes : List (List ℕ) → List File → List ℕ → Type 0)
    (OnNoMemory : HostState → HostState → Type 0) where
  -- all is written
  pub record Finishes (old new : HostState) : Type 0 where
    pub files : List (List ℕ)
    pub read : AreRead loads files new
    pub sound : Verdict files None
    pub outs : List File
    pub console : List ℕ
    pub writes : Writes files outs console
    pub out : AllWritten outs console old new

  -- a check of the files fails
  pub record Refuses (fault : FailedCheck) (old new : HostState) : Type 0 where
    pub files : List (List ℕ)
    pub read : AreRead loads files new
    pub found : Verdict files (Some fault)
    pub untouched : Untouched old new
    pub no_fault : NoFault old new

  -- a write fails
  pub record WriteFailed (name : List ℕ) (old new : HostState) : Type 0 where
    pub files : List (List ℕ)
    pub read : AreRead loads files new
    pub sound : Verdict files None
    pub outs : List File
    pub console : List ℕ
    pub writes : Writes files outs console
    pub stopped : WriteStopped outs console name old new

  -- a file is not read; those before it are
  pub record ReadFailed (name : List ℕ) (old new : HostState) : Type 0 where
    pub before : List (List ℕ)
    pub stopped : StopsUnread loads name before old new

  -- a file is the first that holds more than its limit
  pub record LoadTooLong (name : List ℕ) (limit : ℕ) (old new : HostState) : Type 0 where
    pub before : List (List ℕ)
    pub stopped : StopsTooLong loads name limit before old new

  -- what stands after a command, by what it came to
  abbrev pub OutcomeBy : CommandEnd → HostState → HostState → Type 0
  OutcomeBy done old new = Finishes old new
  OutcomeBy (unread name) old new = ReadFailed name old new
  OutcomeBy (too_long name limit) old new = LoadTooLong name limit old new
  OutcomeBy (refused fault) old new = Refuses fault old new
  OutcomeBy (unwritten name) old new = WriteFailed name old new
  OutcomeBy no_memory old new = OnNoMemory old new

  -- the same, with the lines that were said of it
  pub record RunsBy (end : CommandEnd) (old new : HostState) : Type 0 where
    pub outcome : OutcomeBy end old new
    pub said : SaidLine (lines_of end) old new

  -- these files are told and fit: the check that fails decides, or none does
  pub record IsJudged (files : List (List ℕ)) (end : CommandEnd) : Type 0 where
    pub found : Option FailedCheck
    pub verdict : Verdict files found
    pub is_end : end ≡ end_by None found

  abbrev pub EndsBy : Option Load → List (List ℕ) → CommandEnd → Type 0
  EndsBy (Some load) files end = end ≡ too_long load.name load.limit
  EndsBy None files end = IsJudged files end

  -- what the files come to by themselves
  abbrev pub IsEndOf : List (List ℕ) → CommandEnd → Type 0
  IsEndOf files end = EndsBy (first_long loads files) files end

-- a verdict that is a function of the files
abbrev pub Computes : (List (List ℕ) → Option FailedCheck) → List (List ℕ) → Option FailedCheck → Type 0
Computes verdict files found = verdict files ≡ found

-- the same of a command with such a verdict
module _ (loads : List Load) (verdict : List (List ℕ) → Option FailedCheck) (Writes : List (List ℕ) → List File → List ℕ → Type 0)
    (OnNoMemory : HostState → HostState → Type 0) where
  abbrev pub CommandOutcome : CommandEnd → HostState → HostState → Type 0
  CommandOutcome end old new = OutcomeBy loads (Computes verdict) Writes OnNoMemory end old new

  abbrev pub CommandRuns : CommandEnd → HostState → HostState → Type 0
  CommandRuns end old new = RunsBy loads (Computes verdict) Writes OnNoMemory end old new

  abbrev pub end_of_files : List (List ℕ) → CommandEnd
  end_of_files files = end_by (first_long loads files) (verdict files)
