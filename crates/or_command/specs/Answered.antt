-- What a command answers, and what stands then.
use Rattle.std.specs.Prelude.{◌≡◌, ◌⊎◌, ◌≤◌, ◌<◌, ℕ, List, [], ◌∷◌, ◌++◌, length, Option, Some, None, ⊤}
use Rattle.or_host.specs.HostState.{HostState}
use Rattle.or_host.specs.Counts.{Rose}
use Rattle.or_command.specs.Writes.{File}
use Rattle.or_command.specs.Loads.{Load}
use Rattle.or_command.specs.Ends.{FailedCheck, CommandEnd, done, unread, too_long, refused, unwritten, no_memory, status_of}
use Rattle.or_command.specs.Outcomes.{AllTold, RunsBy, IsEndOf, Computes, end_of_files}
use Rattle.or_command.specs.Finishing.{EndsAfterLoad}

-- each of these files is within its limit
abbrev pub AllFit : List Load → List (List ℕ) → Type 0
AllFit [] files = ⊤
AllFit (load ∷ loads) [] = ⊤
AllFit (load ∷ loads) (file ∷ files) = (length file ≤ load.limit) × AllFit loads files

-- a file that the host tells to be the first that holds more than its limit
pub record TellsLong (loads : List Load) (new : HostState) : Type 0 where
  pub front : List Load
  pub load : Load
  pub rest : List Load
  pub order : loads ≡ front ++ load ∷ rest
  pub before : List (List ℕ)
  pub told : AllTold front before new
  pub fit : AllFit front before
  pub file : List ℕ
  pub held : new.holds load.name ≡ Some (Some file)
  pub over : load.limit < length file

-- a command stops behind its loads: by its first check that fails, or for want of memory, where none fails
abbrev pub Stops : Option FailedCheck → CommandEnd → Type 0
Stops verdict (refused fault) = verdict ≡ Some fault
Stops verdict no_memory = verdict ≡ None
Stops verdict done = ⊥
Stops verdict (unread name) = ⊥
Stops verdict (too_long name limit) = ⊥
Stops verdict (unwritten name) = ⊥

-- the same of a check that takes memory, so that it may run out where the check would fail
abbrev pub StopsInCheck : Option FailedCheck → CommandEnd → Type 0
StopsInCheck verdict (refused fault) = verdict ≡ Some fault
StopsInCheck verdict no_memory = ⊤
StopsInCheck verdict done = ⊥
StopsInCheck verdict (unread name) = ⊥
StopsInCheck verdict (too_long name limit) = ⊥
StopsInCheck verdict (unwritten name) = ⊥

-- A command as in Outcomes: its loads, its first check that fails, what it writes, and what it leaves where memory ran out.
module _ (loads : List Load) (Verdict : List (List ℕ) → Option FailedCheck → Type 0) (Writes : List (List ℕ) → List File → List ℕ → Type 0)
    (OnNoMemory : HostState → HostState → Type 0) where
  -- it came to an end of this status
  pub record AnswersBy (status : ℕ) (old new : HostState) : Type 0 where
    pub end : CommandEnd
    pub status_is : status ≡ status_of end
    pub runs : RunsBy loads Verdict Writes OnNoMemory end old new

  -- the files by themselves come to an end of this status
  pub record IsStatusOf (files : List (List ℕ)) (status : ℕ) : Type 0 where
    pub end : CommandEnd
    pub is_end : IsEndOf loads Verdict Writes OnNoMemory files end
    pub status_is : status ≡ status_of end

  -- where no fault came, the files decide the status, or memory ran out, and what it leaves then stands: all of them where they
  -- are told, and the first that is too long where those before it are told and fit
  pub record IsDecidedBy (status : ℕ) (old new : HostState) : Type 0 where
    pub by_files : (files : List (List ℕ)) → AllTold loads files new → ¬ Rose old.faults new.faults → IsStatusOf files status ⊎ ((status ≡ 7) × OnNoMemory old new)
    pub by_long : TellsLong loads new → ¬ Rose old.faults new.faults → (status ≡ 8) ⊎ ((status ≡ 7) × OnNoMemory old new)

-- the same of a command whose verdict is a function of its files
module _ (loads : List Load) (verdict : List (List ℕ) → Option FailedCheck) (Writes : List (List ℕ) → List File → List ℕ → Type 0)
    (OnNoMemory : HostState → HostState → Type 0) where
  abbrev pub Answers : ℕ → HostState → HostState → Type 0
  Answers status old new = AnswersBy loads (Computes verdict) Writes OnNoMemory status old new

  pub record IsDecided (status : ℕ) (old new : HostState) : Type 0 where
    pub by_files : (files : List (List ℕ)) → AllTold loads files new → ¬ Rose old.faults new.faults
        → (status ≡ status_of (end_of_files loads verdict Writes OnNoMemory files)) ⊎ ((status ≡ 7) × OnNoMemory old new)
    pub by_long : TellsLong loads new → ¬ Rose old.faults new.faults → (status ≡ 8) ⊎ ((status ≡ 7) × OnNoMemory old new)

-- how such a command ends behind its loads
module _ (verdict : List (List ℕ) → Option FailedCheck) (Writes : List (List ℕ) → List File → List ℕ → Type 0) where
  abbrev pub FinishEnds : List (List ℕ) → CommandEnd → HostState → HostState → Type 0
  FinishEnds files end old new = EndsAfterLoad (Computes verdict) Writes files end old new
