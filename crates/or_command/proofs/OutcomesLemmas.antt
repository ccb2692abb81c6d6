-- From the parts of a command to its outcome, and from its outcome to what the files come to by themselves.
use Rattle.std.proofs.Common.{◌≡◌, ◌∙◌, sym, subst, ℕ, List, [], ◌∷◌, ◌++◌, Option, Some, None, inl, inr, ◌⊎◌}
use Rattle.or_host.specs.Bytes.{Adds, AddsPrefix}
use Rattle.or_host.specs.Told.{TellsSame, IsPrefixOfFile}
use Rattle.or_host.specs.Counts.{Rose}
use Rattle.or_host.specs.HostState.{HostState}
use Rattle.or_host.specs.Calls.{dash}
use Rattle.or_host.specs.declared.host.Operation.{Operation}
use Rattle.or_host.specs.declared.host.Operation.TheVariants.{Write, Load as Loading}
use Rattle.or_command.specs.declared.loading.LoadStop.{LoadStop}
use Rattle.or_command.specs.declared.loading.LoadStop.TheVariants.{Unread, TooLong, NoMemory}
use Rattle.or_command.specs.Leaves.{Untouched, NoFault, FaultOf, Silent}
use Rattle.or_command.specs.Writes.{File, AllHold, IsOther, AllWritten, WriteStopped}
use Rattle.or_command.specs.Loads.{Load, AreRead, AllRead, StopsLoading}
use Rattle.or_command.specs.Said.{OnlySays, SaidLine}
use Rattle.or_command.specs.Ends.{FailedCheck, CommandEnd, done, unread, too_long, refused, unwritten, no_memory, lines_of}
use Rattle.or_command.specs.Outcomes.{LeavesAll, HavePassed, LacksMemory, AreApart, OutcomeBy, RunsBy, Computes, CommandOutcome, CommandRuns}
use Rattle.or_command.proofs.TellsLemmas.{same_then, told_then, same_then_step, step_then_same, same_then_part, part_then_same, rose_after, untouched_then, no_fault_then}
use Rattle.or_command.proofs.SaysLemmas.{line_after_silence}

-- what was read stays read where no name changes
pub read_stays : (loads : List Load) (files : List (List ℕ)) (b c : HostState) → ((name : List ℕ) → TellsSame (b.holds name) (c.holds name)) → AreRead loads files b → AreRead loads files c
read_stays [] [] b c same read = tt
read_stays [] (file ∷ files) b c same read = absurd read
read_stays (load ∷ loads) [] b c same read = absurd read
read_stays (load ∷ loads) (file ∷ files) b c same read =
    (told_then (λ content. content ≡ Some file) (b.holds load.name) (c.holds load.name) (same load.name) read.0, read.1, read_stays loads files b c same read.2)

-- what was read stays read where other files are written
read_apart : (loads : List Load) (files : List (List ℕ)) (outs : List File) (b c : HostState) → AreApart loads outs
    → ((name : List ℕ) → IsOther name outs → TellsSame (b.holds name) (c.holds name)) → AreRead loads files b → AreRead loads files c
read_apart [] [] outs b c apart same read = tt
read_apart [] (file ∷ files) outs b c apart same read = absurd read
read_apart (load ∷ loads) [] outs b c apart same read = absurd read
read_apart (load ∷ loads) (file ∷ files) outs b c apart same read =
    (told_then (λ content. content ≡ Some file) (b.holds load.name) (c.holds load.name) (same load.name apart.0) read.0, read.1, read_apart loads files outs b c apart.1 same read.2)

split_other : (name : List ℕ) (front : List File) (failed : File) (rest : List File) → IsOther name (front ++ failed ∷ rest) → IsOther name front × (name ≡ failed.name → ⊥)
split_other name [] failed rest h = (tt, h.0)
split_other name (f ∷ front) failed rest h = let later = split_other name front failed rest h.1 in ((h.0, later.0), later.1)

fault_after : (name : List ℕ) (a b c : HostState) → NoFault a b → FaultOf Write name b c → FaultOf Write name a c
fault_after name a b c ab bc = record { rose = rose_after a.faults b.faults c.faults (sym ab.faults) bc.rose; blame = bc.blame }

stopped_same : (outs : List File) (console name : List ℕ) (b c : HostState) → WriteStopped outs console name b c → (other : List ℕ) → IsOther other outs → TellsSame (b.holds other) (c.holds other)
stopped_same outs console name b c (inl at) other is_other =
    let apart = split_other other at.front at.failed at.rest (subst (IsOther other) at.order is_other) in at.others other apart.0 apart.1
stopped_same outs console name b c (inr at) other is_other = at.1.others other is_other

written_after : (outs : List File) (console : List ℕ) (a b c : HostState) → (Untouched a b × NoFault a b) → AllWritten outs console b c → AllWritten outs console a c
written_after outs console a b c ab bc = record {
  whole = bc.whole;
  others = λ name other. same_then (a.holds name) (b.holds name) (c.holds name) (ab.0.names name) (bc.others name other);
  written = same_then_step (Adds console) a.written b.written c.written ab.0.written bc.written;
  no_fault = no_fault_then a b c ab.1 bc.no_fault;
}

stopped_after : (outs : List File) (console name : List ℕ) (a b c : HostState) → (Untouched a b × NoFault a b) → WriteStopped outs console name b c → WriteStopped outs console name a c
stopped_after outs console name a b c ab (inl at) = inl (record {
  front = at.front;
  failed = at.failed;
  rest = at.rest;
  order = at.order;
  named = at.named;
  whole = at.whole;
  part = same_then_part at.failed.text (a.holds at.failed.name) (b.holds at.failed.name) (c.holds at.failed.name) (ab.0.names at.failed.name) at.part;
  others = λ other x y. same_then (a.holds other) (b.holds other) (c.holds other) (ab.0.names other) (at.others other x y);
  written = same_then a.written b.written c.written ab.0.written at.written;
  cause = fault_after at.failed.name a b c ab.1 at.cause;
})
stopped_after outs console name a b c ab (inr at) = inr (
  at.0,
  record {
    whole = at.1.whole;
    others = λ other x. same_then (a.holds other) (b.holds other) (c.holds other) (ab.0.names other) (at.1.others other x);
    written = same_then_step (AddsPrefix console) a.written b.written c.written ab.0.written at.1.written;
    cause = fault_after dash a b c ab.1 at.1.cause;
  },
)

-- what a stop of the loads comes to
abbrev pub end_of_stop : LoadStop → CommandEnd
end_of_stop (Unread name) = unread name.now
end_of_stop (TooLong name limit) = too_long name.now limit
end_of_stop NoMemory = no_memory

-- a command that stops at its loads
pub stop_by : (loads : List Load) (Verdict : List (List ℕ) → Option FailedCheck → Type 0) (Writes : List (List ℕ) → List File → List ℕ → Type 0)
    (OnNoMemory : HostState → HostState → Type 0) (stop : LoadStop) (before : List (List ℕ)) (a b : HostState)
    → (LeavesAll a b → Rose a.lacks b.lacks → OnNoMemory a b) → StopsLoading loads stop before a b → OutcomeBy loads Verdict Writes OnNoMemory (end_of_stop stop) a b
stop_by loads Verdict Writes OnNoMemory (Unread name) before a b lacking stops = record { before = before; stopped = stops }
stop_by loads Verdict Writes OnNoMemory (TooLong name limit) before a b lacking stops = record { before = before; stopped = stops }
stop_by loads Verdict Writes OnNoMemory NoMemory before a b lacking stops = lacking (record { untouched = stops.untouched; no_fault = stops.no_fault }) stops.lacked

-- a command that refuses what it loaded
pub refusal_by : (loads : List Load) (Verdict : List (List ℕ) → Option FailedCheck → Type 0) (Writes : List (List ℕ) → List File → List ℕ → Type 0)
    (OnNoMemory : HostState → HostState → Type 0) (files : List (List ℕ)) (fault : FailedCheck) (a b : HostState)
    → AllRead loads files a b → Verdict files (Some fault) → OutcomeBy loads Verdict Writes OnNoMemory (refused fault) a b
refusal_by loads Verdict Writes OnNoMemory files fault a b all found =
    record { files = files; read = all.read; found = found; untouched = all.untouched; no_fault = all.no_fault }

-- a command that finds no memory behind its loads
pub memory_by : (loads : List Load) (Verdict : List (List ℕ) → Option FailedCheck → Type 0) (Writes : List (List ℕ) → List File → List ℕ → Type 0)
    (files : List (List ℕ)) (a b : HostState) → AllRead loads files a b → OutcomeBy loads Verdict Writes LeavesAll no_memory a b
memory_by loads Verdict Writes files a b all = record { untouched = all.untouched; no_fault = all.no_fault }

-- a command that writes all
pub done_by : (loads : List Load) (Verdict : List (List ℕ) → Option FailedCheck → Type 0) (Writes : List (List ℕ) → List File → List ℕ → Type 0)
    (OnNoMemory : HostState → HostState → Type 0) (files : List (List ℕ)) (outs : List File) (console : List ℕ) (a b c : HostState)
    → AreApart loads outs → AllRead loads files a b → Verdict files None → Writes files outs console → AllWritten outs console b c
    → OutcomeBy loads Verdict Writes OnNoMemory done a c
done_by loads Verdict Writes OnNoMemory files outs console a b c apart all sound writes out = record {
  files = files;
  read = read_apart loads files outs b c apart out.others all.read;
  sound = sound;
  outs = outs;
  console = console;
  writes = writes;
  out = written_after outs console a b c (all.untouched, all.no_fault) out;
}

-- a command whose write fails
pub unwritten_by : (loads : List Load) (Verdict : List (List ℕ) → Option FailedCheck → Type 0) (Writes : List (List ℕ) → List File → List ℕ → Type 0)
    (OnNoMemory : HostState → HostState → Type 0) (files : List (List ℕ)) (outs : List File) (console name : List ℕ) (a b c : HostState)
    → AreApart loads outs → AllRead loads files a b → Verdict files None → Writes files outs console → WriteStopped outs console name b c
    → OutcomeBy loads Verdict Writes OnNoMemory (unwritten name) a c
unwritten_by loads Verdict Writes OnNoMemory files outs console name a b c apart all sound writes stopped = record {
  files = files;
  read = read_apart loads files outs b c apart (stopped_same outs console name b c stopped) all.read;
  sound = sound;
  outs = outs;
  console = console;
  writes = writes;
  stopped = stopped_after outs console name a b c (all.untouched, all.no_fault) stopped;
}

said_untouched : (a b c : HostState) → Untouched a b → OnlySays b c → Untouched a c
said_untouched a b c ab bc = untouched_then a b c ab (record { names = bc.names; written = bc.written })

said_no_fault : (a b c : HostState) → NoFault a b → OnlySays b c → NoFault a c
said_no_fault a b c ab bc = record { faults = bc.faults ∙ ab.faults; blame = bc.blame ∙ ab.blame }

said_fault : (operation : Operation) (name : List ℕ) (a b c : HostState) → FaultOf operation name a b → OnlySays b c → FaultOf operation name a c
said_fault operation name a b c ab bc = record {
  rose = subst (λ (n : ℕ). Rose a.faults n) (sym bc.faults) ab.rose;
  blame = bc.blame ∙ ab.blame;
}

-- nothing of what a command leaves alone is touched by what is said
pub said_leaves_all : (a b c : HostState) → LeavesAll a b → OnlySays b c → LeavesAll a c
said_leaves_all a b c ab bc = record { untouched = said_untouched a b c ab.untouched bc; no_fault = said_no_fault a b c ab.no_fault bc }

passed_then : (loads : List Load) (Passed : List (List ℕ) → Type 0) (a b c : HostState) → OnlySays b c → Rose a.lacks b.lacks ⊎ HavePassed loads Passed b
    → Rose a.lacks c.lacks ⊎ HavePassed loads Passed c
passed_then loads Passed a b c only (inl rose) = inl (subst (λ (n : ℕ). Rose a.lacks n) (sym only.lacks) rose)
passed_then loads Passed a b c only (inr have) =
    inr (record { files = have.files; read = read_stays loads have.files b c only.names have.read; passed = have.passed })

-- nor is what it leaves where memory ran out
pub said_lacks : (loads : List Load) (Passed : List (List ℕ) → Type 0) (a b c : HostState) → LacksMemory loads Passed a b → OnlySays b c
    → LacksMemory loads Passed a c
said_lacks loads Passed a b c lacks only =
    record { left = said_leaves_all a b c lacks.left only; cause = passed_then loads Passed a b c only lacks.cause }

-- a load that found no memory
pub load_lacks : (loads : List Load) (Passed : List (List ℕ) → Type 0) (a b : HostState) → LeavesAll a b → Rose a.lacks b.lacks → LacksMemory loads Passed a b
load_lacks loads Passed a b left rose = record { left = left; cause = inl rose }

said_hold : (files : List File) (b c : HostState) → OnlySays b c → AllHold b files → AllHold c files
said_hold [] b c only whole = tt
said_hold (file ∷ files) b c only whole =
    (told_then (λ content. content ≡ Some file.text) (b.holds file.name) (c.holds file.name) (only.names file.name) whole.0, said_hold files b c only whole.1)

said_written : (outs : List File) (console : List ℕ) (a b c : HostState) → AllWritten outs console a b → OnlySays b c → AllWritten outs console a c
said_written outs console a b c ab bc = record {
  whole = said_hold outs b c bc ab.whole;
  others = λ name other. same_then (a.holds name) (b.holds name) (c.holds name) (ab.others name other) (bc.names name);
  written = step_then_same (Adds console) a.written b.written c.written ab.written bc.written;
  no_fault = said_no_fault a b c ab.no_fault bc;
}

said_stopped : (outs : List File) (console name : List ℕ) (a b c : HostState) → WriteStopped outs console name a b → OnlySays b c → WriteStopped outs console name a c
said_stopped outs console name a b c (inl at) bc = inl (record {
  front = at.front;
  failed = at.failed;
  rest = at.rest;
  order = at.order;
  named = at.named;
  whole = said_hold at.front b c bc at.whole;
  part = part_then_same at.failed.text (a.holds at.failed.name) (b.holds at.failed.name) (c.holds at.failed.name) at.part (bc.names at.failed.name);
  others = λ other x y. same_then (a.holds other) (b.holds other) (c.holds other) (at.others other x y) (bc.names other);
  written = same_then a.written b.written c.written at.written bc.written;
  cause = said_fault Write at.failed.name a b c at.cause bc;
})
said_stopped outs console name a b c (inr at) bc = inr (
  at.0,
  record {
    whole = said_hold outs b c bc at.1.whole;
    others = λ other x. same_then (a.holds other) (b.holds other) (c.holds other) (at.1.others other x) (bc.names other);
    written = step_then_same (AddsPrefix console) a.written b.written c.written at.1.written bc.written;
    cause = said_fault Write dash a b c at.1.cause bc;
  },
)

-- what an outcome says stays true where only something is said
said_outcome : (loads : List Load) (Verdict : List (List ℕ) → Option FailedCheck → Type 0) (Writes : List (List ℕ) → List File → List ℕ → Type 0)
    (OnNoMemory : HostState → HostState → Type 0) (end : CommandEnd) (a b c : HostState) → (OnNoMemory a b → OnNoMemory a c)
    → OutcomeBy loads Verdict Writes OnNoMemory end a b → OnlySays b c → OutcomeBy loads Verdict Writes OnNoMemory end a c
said_outcome loads Verdict Writes OnNoMemory done a b c lacking outcome bc = record {
  files = outcome.files;
  read = read_stays loads outcome.files b c bc.names outcome.read;
  sound = outcome.sound;
  outs = outcome.outs;
  console = outcome.console;
  writes = outcome.writes;
  out = said_written outcome.outs outcome.console a b c outcome.out bc;
}
said_outcome loads Verdict Writes OnNoMemory (unread name) a b c lacking outcome bc = record {
  before = outcome.before;
  stopped = record {
    front = outcome.stopped.front;
    load = outcome.stopped.load;
    rest = outcome.stopped.rest;
    order = outcome.stopped.order;
    named = outcome.stopped.named;
    read = read_stays outcome.stopped.front outcome.before b c bc.names outcome.stopped.read;
    cause = said_fault Loading outcome.stopped.load.name a b c outcome.stopped.cause bc;
    untouched = said_untouched a b c outcome.stopped.untouched bc;
  };
}
said_outcome loads Verdict Writes OnNoMemory (too_long name limit) a b c lacking outcome bc = record {
  before = outcome.before;
  stopped = record {
    front = outcome.stopped.front;
    load = outcome.stopped.load;
    rest = outcome.stopped.rest;
    order = outcome.stopped.order;
    named = outcome.stopped.named;
    limited = outcome.stopped.limited;
    read = read_stays outcome.stopped.front outcome.before b c bc.names outcome.stopped.read;
    taken = outcome.stopped.taken;
    long = outcome.stopped.long;
    told = told_then (IsPrefixOfFile outcome.stopped.taken) (b.holds outcome.stopped.load.name) (c.holds outcome.stopped.load.name) (bc.names outcome.stopped.load.name) outcome.stopped.told;
    untouched = said_untouched a b c outcome.stopped.untouched bc;
    no_fault = said_no_fault a b c outcome.stopped.no_fault bc;
  };
}
said_outcome loads Verdict Writes OnNoMemory (refused fault) a b c lacking outcome bc = record {
  files = outcome.files;
  read = read_stays loads outcome.files b c bc.names outcome.read;
  found = outcome.found;
  untouched = said_untouched a b c outcome.untouched bc;
  no_fault = said_no_fault a b c outcome.no_fault bc;
}
said_outcome loads Verdict Writes OnNoMemory (unwritten name) a b c lacking outcome bc = record {
  files = outcome.files;
  read = read_stays loads outcome.files b c bc.names outcome.read;
  sound = outcome.sound;
  outs = outcome.outs;
  console = outcome.console;
  writes = outcome.writes;
  stopped = said_stopped outcome.outs outcome.console name a b c outcome.stopped bc;
}
said_outcome loads Verdict Writes OnNoMemory no_memory a b c lacking outcome bc = lacking outcome

-- a command's work, which says nothing, and then its line
pub concluded_by : (loads : List Load) (Verdict : List (List ℕ) → Option FailedCheck → Type 0) (Writes : List (List ℕ) → List File → List ℕ → Type 0)
    (OnNoMemory : HostState → HostState → Type 0) (end : CommandEnd) (a b c : HostState) → (OnNoMemory a b → OnNoMemory a c)
    → OutcomeBy loads Verdict Writes OnNoMemory end a b → Silent a b → SaidLine (lines_of end) b c → OnlySays b c → RunsBy loads Verdict Writes OnNoMemory end a c
concluded_by loads Verdict Writes OnNoMemory end a b c lacking outcome silent line only = record {
  outcome = said_outcome loads Verdict Writes OnNoMemory end a b c lacking outcome only;
  said = line_after_silence (lines_of end) a b c silent line;
}

-- the same of a command whose verdict is a function of its files
module _ (loads : List Load) (verdict : List (List ℕ) → Option FailedCheck) (Writes : List (List ℕ) → List File → List ℕ → Type 0) where
  pub stop_outcome : (OnNoMemory : HostState → HostState → Type 0) (stop : LoadStop) (before : List (List ℕ)) (a b : HostState)
      → (LeavesAll a b → Rose a.lacks b.lacks → OnNoMemory a b) → StopsLoading loads stop before a b → CommandOutcome loads verdict Writes OnNoMemory (end_of_stop stop) a b
  stop_outcome OnNoMemory stop before a b lacking stops = stop_by loads (Computes verdict) Writes OnNoMemory stop before a b lacking stops

  pub refusal_outcome : (OnNoMemory : HostState → HostState → Type 0) (files : List (List ℕ)) (fault : FailedCheck) (a b : HostState)
      → AllRead loads files a b → verdict files ≡ Some fault → CommandOutcome loads verdict Writes OnNoMemory (refused fault) a b
  refusal_outcome OnNoMemory files fault a b all found = refusal_by loads (Computes verdict) Writes OnNoMemory files fault a b all found

  pub memory_outcome : (files : List (List ℕ)) (a b : HostState) → AllRead loads files a b → CommandOutcome loads verdict Writes LeavesAll no_memory a b
  memory_outcome files a b all = memory_by loads (Computes verdict) Writes files a b all

  pub done_outcome : (OnNoMemory : HostState → HostState → Type 0) (files : List (List ℕ)) (outs : List File) (console : List ℕ) (a b c : HostState)
      → AreApart loads outs → AllRead loads files a b → verdict files ≡ None → Writes files outs console → AllWritten outs console b c
      → CommandOutcome loads verdict Writes OnNoMemory done a c
  done_outcome OnNoMemory files outs console a b c apart all sound writes out =
      done_by loads (Computes verdict) Writes OnNoMemory files outs console a b c apart all sound writes out

  pub unwritten_outcome : (OnNoMemory : HostState → HostState → Type 0) (files : List (List ℕ)) (outs : List File) (console name : List ℕ) (a b c : HostState)
      → AreApart loads outs → AllRead loads files a b → verdict files ≡ None → Writes files outs console → WriteStopped outs console name b c
      → CommandOutcome loads verdict Writes OnNoMemory (unwritten name) a c
  unwritten_outcome OnNoMemory files outs console name a b c apart all sound writes stopped =
      unwritten_by loads (Computes verdict) Writes OnNoMemory files outs console name a b c apart all sound writes stopped

  pub concluded : (OnNoMemory : HostState → HostState → Type 0) (end : CommandEnd) (a b c : HostState) → (OnNoMemory a b → OnNoMemory a c)
      → CommandOutcome loads verdict Writes OnNoMemory end a b → Silent a b → SaidLine (lines_of end) b c → OnlySays b c → CommandRuns loads verdict Writes OnNoMemory end a c
  concluded OnNoMemory end a b c lacking outcome silent line only = concluded_by loads (Computes verdict) Writes OnNoMemory end a b c lacking outcome silent line only
