-- What is known of a recorded run where memory ran out.
use Rattle.std.proofs.Common.{◌≡◌, refl, sym, subst, ℕ, List, Option, Some, None, inl, inr}
use Rattle.or_sched.specs.declared.recording.Head.{Head}
use Rattle.or_sched.specs.declared.recording.Mark.{Mark}
use Rattle.or_sched.specs.declared.recording.RecFault.TheVariants.{BadHead, BadRun, Short, NoMemory as NoMemoryToRead}
use Rattle.or_command.specs.Ends.{FailedCheck, CommandEnd, done, unread, too_long, refused, unwritten, no_memory}
use Rattle.or_command.specs.Finishing.{IfNoMemory, end_of_check}
use Rattle.or_command_line.specs.Names.{Recorded}
use Rattle.or_recorded.specs.declared.checked.RunFault.{RunFault}
use Rattle.or_recorded.specs.declared.checked.RunFault.TheVariants.{Text, NoMemoryForText, Image, Input, Elf, Turns, NoMemory}
use Rattle.or_recorded.specs.declared.refused.OwnFault.{OwnFault}
use Rattle.or_recorded.specs.declared.refused.Fault.{Fault}
use Rattle.or_recorded.specs.declared.refused.Fault.TheVariants.{OfRun, Own}
use Rattle.or_recorded.specs.Checked.{IsFirstFault, IsChecked, RunsShort}
use Rattle.or_recorded.specs.Refused.{fault_check}
use Rattle.or_recorded.specs.Files.{Names, Files, files_in}
use Rattle.or_recorded.specs.Command.{Run, IsRunOf, IsFault, told_check, FilesRunShort}

-- what holds holds where memory ran out
if_no_memory : (end : CommandEnd) (Fact : Type 0) → Fact → IfNoMemory end Fact
if_no_memory done Fact holds = tt
if_no_memory (unread name) Fact holds = tt
if_no_memory (too_long name limit) Fact holds = tt
if_no_memory (refused fault) Fact holds = tt
if_no_memory (unwritten name) Fact holds = tt
if_no_memory no_memory Fact holds = holds

-- a run whose checks pass is sound
checked_short : (image input recording : List ℕ) (head : Head) (turns : List ℕ) (marks : List Mark) → IsChecked image input recording head turns marks
    → RunsShort image input recording
checked_short image input recording head turns marks is =
    inr (record { head = head; turns = turns; marks = marks; of_run = is.of_run; sound = is.sound })

-- a check that takes memory, and fails for want of it alone
pub fault_short : (image input recording : List ℕ) (names : Recorded) (fault : RunFault) → IsFirstFault image input recording fault → fault_check names fault ≡ None
    → RunsShort image input recording
fault_short image input recording names (Text (BadHead line)) is none = absurd (let b : ⊥ = cc in b)
fault_short image input recording names (Text (BadRun at)) is none = absurd (let b : ⊥ = cc in b)
fault_short image input recording names (Text Short) is none = absurd (let b : ⊥ = cc in b)
fault_short image input recording names (Text NoMemoryToRead) is none = absurd is
fault_short image input recording names NoMemoryForText is none = inl is
fault_short image input recording names (Image digests) is none = absurd (let b : ⊥ = cc in b)
fault_short image input recording names (Input digests) is none = absurd (let b : ⊥ = cc in b)
fault_short image input recording names (Elf fault) is none = absurd (let b : ⊥ = cc in b)
fault_short image input recording names (Turns fault) is none = absurd (let b : ⊥ = cc in b)
fault_short image input recording names NoMemory is none = inr is

-- where a check ends a command for want of memory, it found none
ended_short : (found : Option FailedCheck) (end : CommandEnd) (Fact : Type 0) → (found ≡ None → Fact) → end ≡ end_of_check found → IfNoMemory end Fact
ended_short None end Fact none is = if_no_memory end Fact (none refl)
ended_short (Some check) end Fact none is = subst (λ (e : CommandEnd). IfNoMemory e Fact) (sym is) tt

-- the checks of a command on a recorded run
module _ (fault : Run → Option OwnFault) (Makes : Run → List ℕ → List ℕ → Type 0) where
  of_run : (files : Files) (run : Run) → IsRunOf files run → RunsShort files.image files.input files.recording
  of_run files run is =
      subst (λ (x : Files). RunsShort x.image x.input x.recording) is.of
      (checked_short run.files.image run.files.input run.files.recording run.head run.turns run.marks is.checked)

  found_short : (names : Names) (files : Files) (f : Fault) → IsFault fault Makes files f → told_check names f ≡ None → RunsShort files.image files.input files.recording
  found_short names files (OfRun first) is none = fault_short files.image files.input files.recording names.run first is none
  found_short names files (Own own) is none = of_run files is.run is.is

  pub command_short : (names : Names) (read : List (List ℕ)) (files : Files) (f : Fault) (end : CommandEnd) → files ≡ files_in names read
      → IsFault fault Makes files f → end ≡ end_of_check (told_check names f) → IfNoMemory end (FilesRunShort names read)
  command_short names read files f end same is ends =
      ended_short (told_check names f) end (FilesRunShort names read)
      (found_short names (files_in names read) f (subst (λ (x : Files). IsFault fault Makes x f) same is)) ends
