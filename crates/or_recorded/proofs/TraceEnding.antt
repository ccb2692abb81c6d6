-- From how `trace` ends behind its loads to what it comes to.
use Rattle.std.proofs.Common.{◌≡◌, ◌∙◌, refl, sym, ap, subst, ℕ, ◌+◌, ◌<◌, ◌^◌, List, [], ◌++◌, Option, Some, None, inl, inr, length, arith}
use Rattle.std.proofs.Math.Nat.{mul-le-mul}
use Rattle.or_words.specs.declared.Config.{Config}
use Rattle.or_words.specs.Settings.{Fits}
use Rattle.or_sched.specs.declared.recording.Head.{Head}
use Rattle.or_sched.specs.declared.recording.Mark.{Mark}
use Rattle.or_sched.specs.Recording.{IsRecording}
use Rattle.or_sched.specs.Schedule.{IsSchedule}
use Rattle.or_host.specs.HostState.{HostState}
use Rattle.or_host.specs.Bytes.{AddsPrefix}
use Rattle.or_command.specs.Loads.{AllRead, LoadsAll}
use Rattle.or_command.specs.Said.{OnlySays}
use Rattle.or_command.specs.Ends.{FailedCheck, CommandEnd, done, unread, too_long, refused, unwritten, no_memory}
use Rattle.or_command.specs.Finishing.{end_of_check}
use Rattle.or_command.specs.Outcomes.{OutcomeBy}
use Rattle.or_command.proofs.TellsLemmas.{same_then, same_then_step, step_then_same, no_fault_then}
use Rattle.or_command.proofs.OutcomesLemmas.{read_stays, done_by, unwritten_by, refusal_by, said_lacks}
use Rattle.or_command_line.specs.Names.{Recorded}
use Rattle.or_command_line.specs.declared.TraceOptions.{TraceOptions}
use Rattle.or_recorded.specs.declared.checked.Recording.{Recording}
use Rattle.or_recorded.specs.declared.checked.RunFault.{RunFault}
use Rattle.or_recorded.specs.declared.checked.Checked.{Checked}
use Rattle.or_recorded.specs.Checked.{IsChecked, IsRunChecked, IsFirstFault}
use Rattle.or_recorded.specs.Refused.{fault_check}
use Rattle.or_recorded.specs.Command.{run_of, Verdict, Writes, FilesRunShort}
use Rattle.or_recorded.specs.Files.{Names, Files, files_in, loads, run_alone}
use Rattle.or_recorded.specs.Trace.{trace_text, trace_fault, MakesTrace, TraceLacks}
use Rattle.or_recorded.specs.Tracing.{IsTextOf, TraceEnds}
use Rattle.or_recorded.proofs.Short.{fault_short}
use Rattle.or_recorded.proofs.Commands.{apart_none}

-- a recorded run has fewer than 2^32 turns
few_in : (config : Config) (turns : List ℕ) → Fits config → IsSchedule config turns → length turns + 1 < 2 ^ 32
few_in config turns fits is = omega (arith, is.few_turns, mul-le-mul fits.few_cores fits.few_steps)

pub few_turns : (text : List ℕ) (head : Head) (turns : List ℕ) (marks : List Mark) → Fits head.config → IsRecording text head turns marks → length turns + 1 < 2 ^ 32
few_turns text head turns marks fits (inl first) = few_in head.config turns fits first.0.schedule
few_turns text head turns marks fits (inr second) = few_in head.config turns fits second.schedule

-- the checks of a run that was followed have passed
pub checked_is : (image input text : List ℕ) (run : Checked) (recording : Recording) → recording ≡ run.recording → IsRunChecked image input text run
    → IsChecked image input text recording.head recording.turns.items recording.marks.items
checked_is image input text run recording same is =
    subst (λ (r : Recording). IsChecked image input text r.head r.turns.items r.marks.items) (sym same) is.checked

-- the text of a run whose checks have passed
pub text_of_run : (options : TraceOptions) (files : Files) (recording : Recording) (Written : List ℕ → Type 0)
    → IsChecked files.image files.input files.recording recording.head recording.turns.items recording.marks.items
    → Written (trace_text options (run_of files recording)) → IsTextOf options files Written
text_of_run options files recording Written checked written = record {
  text = trace_text options (run_of files recording);
  made = record { run = run_of files recording; is = record { of = refl; checked = checked }; sound = refl; makes = refl };
  written = written;
}

-- a check that fails
check_ends : (options : TraceOptions) (names : Names) (files : Files) (fault : RunFault) (found : Option FailedCheck) (end : CommandEnd) (b : HostState) → fault_check names.run fault ≡ found
    → IsFirstFault files.image files.input files.recording fault → end ≡ end_of_check found → TraceEnds options names files end b b
check_ends options names files fault None end b told is ends =
    subst (λ (e : CommandEnd). TraceEnds options names files e b b) (sym ends) (inl (fault_short files.image files.input files.recording names.run fault is told, refl))
check_ends options names files fault (Some check) end b told is ends =
    subst (λ (e : CommandEnd). TraceEnds options names files e b b) (sym ends) (record { fault = fault; first = is; told = told }, refl)

pub fault_ends : (options : TraceOptions) (names : Names) (files : Files) (fault : RunFault) (end : CommandEnd) (b : HostState)
    → IsFirstFault files.image files.input files.recording fault → end ≡ end_of_check (fault_check names.run fault) → TraceEnds options names files end b b
fault_ends options names files fault end b is ends = check_ends options names files fault (fault_check names.run fault) end b refl is ends

-- the command on files that were loaded
module _ (options : TraceOptions) (run : Recorded) where
  abbrev pub names : Names
  names = run_alone run

  finished : (read : List (List ℕ)) (end : CommandEnd) (a b c : HostState) → AllRead (loads names) read a b → TraceEnds options names (files_in names read) end b c
      → OutcomeBy (loads names) (Verdict trace_fault (MakesTrace options) names) (Writes trace_fault (MakesTrace options) names) (TraceLacks options names) end a c
  finished read done a b c all ends =
      done_by (loads names) (Verdict trace_fault (MakesTrace options) names) (Writes trace_fault (MakesTrace options) names) (TraceLacks options names) read [] ends.text a b c
      (apart_none (loads names)) all (record { run = ends.made.run; is = ends.made.is; sound = ends.made.sound }) (record { report = []; made = ends.made; outputs = refl })
      (record { whole = tt; others = λ name _. ends.written.names name; written = ends.written.written; no_fault = ends.written.no_fault })
  finished read (unwritten name) a b c all ends =
      unwritten_by (loads names) (Verdict trace_fault (MakesTrace options) names) (Writes trace_fault (MakesTrace options) names) (TraceLacks options names) read [] ends.1.text name a b c
      (apart_none (loads names)) all (record { run = ends.1.made.run; is = ends.1.made.is; sound = ends.1.made.sound }) (record { report = []; made = ends.1.made; outputs = refl })
      (inr (ends.0, record { whole = tt; others = λ other _. ends.1.written.names other; written = ends.1.written.written; cause = ends.1.written.cause }))
  finished read (refused check) a b c all ends =
      subst (λ (s : HostState). OutcomeBy (loads names) (Verdict trace_fault (MakesTrace options) names) (Writes trace_fault (MakesTrace options) names) (TraceLacks options names) (refused check) a s) (sym ends.1)
      (refusal_by (loads names) (Verdict trace_fault (MakesTrace options) names) (Writes trace_fault (MakesTrace options) names) (TraceLacks options names) read check a b all (inl ends.0))
  finished read no_memory a b c all (inl short) = subst (TraceLacks options names a) (sym short.1) (inl (record {
    left = record { untouched = all.untouched; no_fault = all.no_fault };
    cause = inr (record { files = read; read = all.read; passed = short.0 });
  }))
  finished read no_memory a b c all (inr part) = inr (record {
    files = read;
    read = read_stays (loads names) read b c part.written.names all.read;
    text = part.text;
    made = part.made;
    wrote = record {
      names = λ name. same_then (a.holds name) (b.holds name) (c.holds name) (all.untouched.names name) (part.written.names name);
      written = same_then_step (AddsPrefix part.text) a.written b.written c.written all.untouched.written part.written.written;
      no_fault = no_fault_then a b c all.no_fault part.written.no_fault;
    };
  })
  finished read (unread name) a b c all ends = absurd ends
  finished read (too_long name limit) a b c all ends = absurd ends

  pub trace_goes_on : (held kept : List (List ℕ)) (files : Files) (end : CommandEnd) (a b c : HostState) → held ≡ [] → LoadsAll (loads names) held kept a b → files ≡ files_in names kept
      → TraceEnds options names files end b c
      → OutcomeBy (loads names) (Verdict trace_fault (MakesTrace options) names) (Writes trace_fault (MakesTrace options) names) (TraceLacks options names) end a c
  trace_goes_on held kept files end a b c none all of ends =
      let same : kept ≡ all.files = all.stands ∙ ap (λ (l : List (List ℕ)). l ++ all.files) none in
      finished all.files end a b c all.all (subst (λ (f : Files). TraceEnds options names f end b c) (of ∙ ap (files_in names) same) ends)

-- what is said changes none of it
pub trace_lacks_said : (options : TraceOptions) (names : Names) (a b c : HostState) → TraceLacks options names a b → OnlySays b c → TraceLacks options names a c
trace_lacks_said options names a b c (inl lacks) only = inl (said_lacks (loads names) (FilesRunShort names) a b c lacks only)
trace_lacks_said options names a b c (inr part) only = inr (record {
  files = part.files;
  read = read_stays (loads names) part.files b c only.names part.read;
  text = part.text;
  made = part.made;
  wrote = record {
    names = λ name. same_then (a.holds name) (b.holds name) (c.holds name) (part.wrote.names name) (only.names name);
    written = step_then_same (AddsPrefix part.text) a.written b.written c.written part.wrote.written only.written;
    no_fault = record { faults = only.faults ∙ part.wrote.no_fault.faults; blame = only.blame ∙ part.wrote.no_fault.blame };
  };
})
