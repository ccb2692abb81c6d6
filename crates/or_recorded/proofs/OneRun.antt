-- The files of a recorded run are those of one run, so that what a command makes of them is made of one run.
use Rattle.std.proofs.Common.{◌≡◌, ◌∙◌, refl, sym, ap, subst, ℕ, Bool, List, Option, Some, length}
use Rattle.or_sched.specs.Recording.{IsRecording}
use Rattle.or_sched.proofs.Unique.{unique}
use Rattle.or_command.specs.Writes.{File}
use Rattle.or_command_line.specs.declared.RaceOptions.{RaceOptions}
use Rattle.or_command_line.specs.Names.{Recorded}
use Rattle.or_elf.specs.Symbols.{symbols_of}
use Rattle.or_parts.specs.Devices.{console_of}
use Rattle.or_model.specs.Turn.{Board}
use Rattle.or_replay.specs.Report.{report_text}
use Rattle.or_race.proofs.OneReport.{one_text as one_race}
use Rattle.or_prof.proofs.OneText.{one_text as one_prof}
use Rattle.or_recorded.specs.declared.refused.OwnFault.{OwnFault}
use Rattle.or_recorded.specs.Files.{Names, Files, files_in, outs_of, run_alone, with_script}
use Rattle.or_recorded.specs.Command.{Run, IsRunOf, start_of, Writes}
use Rattle.or_recorded.specs.Back.{back_fault, MakesBackSession}
use Rattle.or_recorded.specs.Debug.{debug_fault, MakesSession}
use Rattle.or_recorded.specs.Events.{events_of}
use Rattle.or_recorded.specs.Prof.{prof_fault, MakesProfile}
use Rattle.or_recorded.specs.Race.{symbols_for, race_fault, MakesRaces}
use Rattle.or_command_image.specs.Written.{made_for}
use Rattle.or_recorded.specs.Replay.{replay_fault, IsReplayed}
use Rattle.or_command_line.specs.declared.TraceOptions.{TraceOptions}
use Rattle.or_recorded.specs.Trace.{trace_fault, MakesTrace}
use Rattle.or_recorded.specs.Traces.{traces}

pub one_run : (files : Files) (run other : Run) → IsRunOf files run → IsRunOf files other → run ≡ other
one_run files run other is also =
    let files_are : run.files ≡ other.files = is.of ∙ sym also.of in
    let text : IsRecording other.files.recording run.head run.turns run.marks =
    subst (λ (t : List ℕ). IsRecording t run.head run.turns run.marks) (ap (λ (f : Files). f.recording) files_are) is.checked.of_run.text in
    let same = unique other.files.recording run.head other.head run.turns other.turns run.marks other.marks text also.checked.of_run.text in
    λ i. record { files = files_are i; head = same.0 i; turns = same.1 i; marks = same.2 i }

-- a command that makes one text of a run writes one thing
pub one_output : (fault : Run → Option OwnFault) (Makes : Run → List ℕ → List ℕ → Type 0) (names : Names)
    → ((run : Run) (report also_report console also : List ℕ) → Makes run report console → Makes run also_report also
    → (outs_of names.report report ≡ outs_of names.report also_report) × (console ≡ also))
    → (read : List (List ℕ)) (outs others : List File) (console other : List ℕ) → Writes fault Makes names read outs console
    → Writes fault Makes names read others other → (outs ≡ others) × (console ≡ other)
one_output fault Makes names one read outs others console other is also =
    let same = one_run (files_in names read) is.made.run also.made.run is.made.is also.made.is in
    let both = one also.made.run is.report also.report console other (subst (λ (run : Run). Makes run is.report console) same is.made.makes) also.made.makes in
    (is.outputs ∙ both.0 ∙ sym also.outputs, both.1)

-- a recorded run has one replay
one_end : (names : Names) (name : List ℕ) (run : Run) (report also_report console also : List ℕ) → IsReplayed name run report console → IsReplayed name run also_report also
    → (outs_of names.report report ≡ outs_of names.report also_report) × (console ≡ also)
one_end names name run report also_report console other is also =
    let ends : Some is.last ≡ Some also.last = sym is.reached ∙ also.reached in
    let last : is.last ≡ also.last = cc in (
      ap (outs_of names.report) (is.reported ∙ ap (λ (board : Board). made_for name (report_text board (length run.turns))) last ∙ sym also.reported),
      is.shown ∙ ap (λ (board : Board). console_of board.world.devices) last ∙ sym also.shown,
    )

pub one_replay : (names : Names) (name : List ℕ) (read : List (List ℕ)) (outs others : List File) (console other : List ℕ) → Writes replay_fault (IsReplayed name) names read outs console
    → Writes replay_fault (IsReplayed name) names read others other → (outs ≡ others) × (console ≡ other)
one_replay names name = one_output replay_fault (IsReplayed name) names (one_end names name)

-- one race report
pub one_race_report : (run : Recorded) (options : RaceOptions) (read : List (List ℕ)) (outs others : List File) (console other : List ℕ)
    → Writes (race_fault options.places) (MakesRaces options.locks options.places) (run_alone run) read outs console
    → Writes (race_fault options.places) (MakesRaces options.locks options.places) (run_alone run) read others other → (outs ≡ others) × (console ≡ other)
one_race_report run options =
    one_output (race_fault options.places) (MakesRaces options.locks options.places) (run_alone run)
    (λ r report also_report console other is also. (refl, one_race options.locks (symbols_for options.places r.files.image) (events_of (start_of r) r.turns) console other is also))

-- one profile
pub one_profile : (hot : Bool) (run : Recorded) (read : List (List ℕ)) (outs others : List File) (console other : List ℕ) → Writes prof_fault (MakesProfile hot) (run_alone run) read outs console
    → Writes prof_fault (MakesProfile hot) (run_alone run) read others other → (outs ≡ others) × (console ≡ other)
one_profile hot run =
    one_output prof_fault (MakesProfile hot) (run_alone run)
    (λ r report also_report console other is also. (refl, one_prof hot r.head.config.cores (symbols_of r.files.image) (traces (start_of r) r.turns) console other is also))

-- with a script, one session
pub one_session : (run : Recorded) (script : List ℕ) (read : List (List ℕ)) (outs others : List File) (console other : List ℕ)
    → Writes debug_fault MakesSession (with_script run script) read outs console → Writes debug_fault MakesSession (with_script run script) read others other
    → (outs ≡ others) × (console ≡ other)
one_session run script = one_output debug_fault MakesSession (with_script run script) (λ r report also_report console other is also. (refl, is ∙ sym also))

pub one_back_session : (run : Recorded) (script : List ℕ) (read : List (List ℕ)) (outs others : List File) (console other : List ℕ)
    → Writes back_fault MakesBackSession (with_script run script) read outs console → Writes back_fault MakesBackSession (with_script run script) read others other
    → (outs ≡ others) × (console ≡ other)
one_back_session run script = one_output back_fault MakesBackSession (with_script run script) (λ r report also_report console other is also. (refl, is ∙ sym also))

-- one trace
pub one_trace : (run : Recorded) (options : TraceOptions) (read : List (List ℕ)) (outs others : List File) (console other : List ℕ)
    → Writes trace_fault (MakesTrace options) (run_alone run) read outs console → Writes trace_fault (MakesTrace options) (run_alone run) read others other
    → (outs ≡ others) × (console ≡ other)
one_trace run options = one_output trace_fault (MakesTrace options) (run_alone run) (λ r report also_report console other is also. (refl, is ∙ sym also))
