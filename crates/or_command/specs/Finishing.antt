-- How a command ends that goes on with the files that it has loaded.
use Rattle.std.specs.Prelude.{◌≡◌, ℕ, List, Option, Some, None, ⊤}
use Rattle.or_host.specs.HostState.{HostState}
use Rattle.or_command.specs.Writes.{File, AllWritten, WriteStopped}
use Rattle.or_command.specs.Ends.{FailedCheck, CommandEnd, done, unread, too_long, refused, unwritten, no_memory}

-- the outputs are written, or a write of them fails
abbrev pub WriteEnds : List File → List ℕ → CommandEnd → HostState → HostState → Type 0
WriteEnds files console done old new = AllWritten files console old new
WriteEnds files console (unwritten name) old new = WriteStopped files console name old new
WriteEnds files console (unread name) old new = ⊥
WriteEnds files console (too_long name limit) old new = ⊥
WriteEnds files console (refused fault) old new = ⊥
WriteEnds files console no_memory old new = ⊥

-- what a check comes to that fails, or that finds no memory
abbrev pub end_of_check : Option FailedCheck → CommandEnd
end_of_check None = no_memory
end_of_check (Some check) = refused check

-- this holds where memory ran out
abbrev pub IfNoMemory : CommandEnd → Type 0 → Type 0
IfNoMemory no_memory Fact = Fact
IfNoMemory done Fact = ⊤
IfNoMemory (unread name) Fact = ⊤
IfNoMemory (too_long name limit) Fact = ⊤
IfNoMemory (refused fault) Fact = ⊤
IfNoMemory (unwritten name) Fact = ⊤

-- a command as in Outcomes, by its verdict and by what it writes
module _ (Verdict : List (List ℕ) → Option FailedCheck → Type 0) (Writes : List (List ℕ) → List File → List ℕ → Type 0) where
  pub record WritesSoFar (files : List (List ℕ)) (end : CommandEnd) (old new : HostState) : Type 0 where
    pub sound : Verdict files None
    pub outs : List File
    pub console : List ℕ
    pub writes : Writes files outs console
    pub ends : WriteEnds outs console end old new

  abbrev pub EndsAfterLoad : List (List ℕ) → CommandEnd → HostState → HostState → Type 0
  EndsAfterLoad files done old new = WritesSoFar files done old new
  EndsAfterLoad files (unwritten name) old new = WritesSoFar files (unwritten name) old new
  EndsAfterLoad files (refused fault) old new = Verdict files (Some fault) × (new ≡ old)
  EndsAfterLoad files no_memory old new = new ≡ old
  EndsAfterLoad files (unread name) old new = ⊥
  EndsAfterLoad files (too_long name limit) old new = ⊥
