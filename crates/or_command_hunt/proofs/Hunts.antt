-- From the parts of a hunt to its outcome.
use Rattle.std.proofs.Common.{◌≡◌, ◌∙◌, ℕ, zero, suc, ◌+◌, ◌<◌, ◌≤◌, List, [], ◌∷◌, ◌++◌, length, Some, None, true, refl, sym, ap, subst, inl, inr, arith}
use Rattle.std.specs.Prelude.{Option}
use Rattle.std.specs.List.{All}
use Rattle.or_words.specs.declared.Config.{Config}
use Rattle.or_words.specs.Settings.{Fits, ram_bytes}
use Rattle.or_elf.specs.Fault.{elf_fault}
use Rattle.or_sched.specs.Schedule.{IsSchedule, AreMarks}
use Rattle.or_sched.specs.declared.recording.Head.{Head}
use Rattle.or_sched.specs.RecText.{rec_text2}
use Rattle.or_model.specs.Core.{Core}
use Rattle.or_bus.specs.State.{BusState}
use Rattle.or_bus.specs.Represents.{Represents}
use Rattle.or_replay.specs.Marks.{marks}
use Rattle.or_replay.specs.Report.{report_text}
use Rattle.or_hunt.specs.declared.made.Made.{Made}
use Rattle.or_hunt.specs.Making.{IsDrawn}
use Rattle.or_model.specs.Turn.{Board, replay}
use Rattle.or_replay.specs.Start.{start}
use Rattle.or_replay.specs.Board.{all_stopped}
use Rattle.or_replay.proofs.Schedules.{start_marks, some_turn}
use Rattle.or_turn.specs.declared.view.Settings.{Settings}
use Rattle.or_turn.specs.Schedules.{reached, board_of, IsDefined}
use Rattle.or_turn.proofs.Steps.{entries_below, few_turns}
use Rattle.or_turn.proofs.Lengths.{AllBelow}
use Rattle.or_host.specs.HostState.{HostState}
use Rattle.or_command_line.specs.declared.HuntOptions.{HuntOptions}
use Rattle.or_command_line.specs.Names.{Names, AreWritten}
use Rattle.or_command.specs.Carried.{IsCarriedOut}
use Rattle.or_command.specs.Leaves.{Silent}
use Rattle.or_command.specs.declared.loading.LoadStop.{LoadStop}
use Rattle.or_command.specs.Loads.{AllRead, LoadsAll, LoadsSome}
use Rattle.or_command.specs.Writes.{File}
use Rattle.or_command.specs.Ends.{FailedCheck, CommandEnd, done, unread, too_long, refused, unwritten, no_memory}
use Rattle.or_command.specs.Answered.{Stops}
use Rattle.or_command.specs.Finishing.{WriteEnds, IfNoMemory}
use Rattle.or_command.specs.Outcomes.{AreApart, OutcomeBy}
use Rattle.or_command.specs.Said.{OnlySays}
use Rattle.or_command.proofs.TellsLemmas.{same_refl}
use Rattle.or_command.proofs.OutcomesLemmas.{read_stays, end_of_stop, stop_by, load_lacks}
use Rattle.or_command.proofs.FinishingLemmas.{loaded_goes_behind}
use Rattle.or_command_image.specs.Loaded.{image_in, input_in, image_check}
use Rattle.or_command_image.specs.Opened.{head_of}
use Rattle.or_command_image.specs.Written.{made_for, written_files}
use Rattle.or_command_image.proofs.Images.{image_status, written_apart}
use Rattle.or_hunt.specs.Failing.{NoneFails}
use Rattle.or_command_hunt.specs.Tries.{IsHeard}
use Rattle.or_command_hunt.specs.Hunt.{hunt_loads, hunt_image_check, HuntVerdict, HuntWrites, HuntLacks, AllPass, IsHunted, hunt_start, hunt_text, no_failure}
use Rattle.or_command_hunt.specs.Finishing.{IsFound, HuntGoesOn, HuntEnds}
use Rattle.or_command_hunt.proofs.Heard.{heard_behind, heard_none, silent_none}

all_below : (n : ℕ) (turns : List ℕ) → AllBelow n turns → All (λ turn. turn < n) turns
all_below n [] below k d inside = absurd (omega (arith, inside))
all_below n (turn ∷ turns) below zero d inside = below.0
all_below n (turn ∷ turns) below (suc k) d inside = all_below n turns below.1 k d (omega (arith, inside))

-- a schedule that stops every core is one that a recording can have
pub drawn_schedule : (config : Config) (image input turns : List ℕ) (last : Board) → Fits config → replay (start config image input) turns ≡ Some last
    → all_stopped last.cores ≡ true → IsSchedule config turns
unfolding IsDefined board_of
drawn_schedule config image input turns last fits replayed stopped =
    let st : Settings = record { config = config; image = image; input = input } in
    let defined : IsDefined st turns = replayed ∙ ap (λ b. Some (reached b)) (sym replayed) in
    record {
      some_turn = some_turn config image input turns last fits replayed stopped;
      few_turns = few_turns st fits turns defined;
      cores = all_below config.cores turns (entries_below st fits turns defined);
    }

pub drawn_marks : (config : Config) (image input turns : List ℕ) (kept : List Rattle.or_sched.specs.declared.recording.Mark.Mark)
    → kept ≡ Rattle.or_replay.specs.Marks.marks (start config image input) turns → AreMarks turns kept
drawn_marks config image input turns kept is = subst (AreMarks turns) (sym is) (start_marks config image input turns)

-- what a hunt writes is none of what it loads
apart_of : (names : Names) (options : HuntOptions) → AreWritten names → (files : List (List ℕ)) (outs : List File) (console : List ℕ)
    → HuntWrites names options files outs console → AreApart (hunt_loads names) outs
apart_of names options written files outs console writes =
    subst (AreApart (hunt_loads names)) (sym writes.outputs)
    (written_apart names.image names.input names.schedule writes.recording names.report writes.report written.schedule.image written.schedule.input written.report.image written.report.input)

-- the files that were read are read where only something was said since
read_still : (names : Names) (files : List (List ℕ)) (a b c : HostState) → AllRead (hunt_loads names) files a b → OnlySays b c → AllRead (hunt_loads names) files c c
read_still names files a b c all only = record {
  read = read_stays (hunt_loads names) files b c only.names all.read;
  untouched = record { names = λ name. same_refl (c.holds name); written = same_refl c.written };
  no_fault = record { faults = refl; blame = refl };
  lacks = refl;
}

-- a hunt goes on with the files that it has loaded into an empty list
pub hunt_goes_on : (names : Names) (options : HuntOptions) → AreWritten names → (held kept : List (List ℕ)) (end : CommandEnd) (a b c : HostState)
    → held ≡ [] → LoadsAll (hunt_loads names) held kept a b → Silent a b → HuntGoesOn names options kept end b c → HuntEnds names options end a c
hunt_goes_on names options written held kept end a b c none all silent ends =
    let same : kept ≡ all.files = all.stands ∙ ap (λ l. l ++ all.files) none in
    record {
      heard = ends.heard;
      tries = heard_behind options.tries a b ends.heard all.all.untouched all.all.no_fault all.all.lacks silent ends.tries;
      outcome = loaded_goes_behind (hunt_loads names) (HuntVerdict names options) (HuntWrites names options) (apart_of names options written)
          (λ files. hunt_image_check names options files ≡ None) [] all.files end ends.heard ends.heard c refl
          (record { files = all.files; stands = refl; all = read_still names all.files a b ends.heard all.all ends.tries.only })
          (subst (λ (files : List (List ℕ)). Rattle.or_command.specs.Finishing.EndsAfterLoad (HuntVerdict names options) (HuntWrites names options) files end ends.heard c) same ends.ends)
          (subst (λ (files : List (List ℕ)). IfNoMemory end (hunt_image_check names options files ≡ None)) same ends.passed);
      silent = ends.silent;
    }

-- no check of a hunt has status 2 or 16
pub hunt_carried : (names : Names) (options : HuntOptions) (files : List (List ℕ)) (fault : FailedCheck) → HuntVerdict names options files (Some fault) → IsCarriedOut fault.status
hunt_carried names options files fault (inl of_image) =
    let three = image_status names.image (elf_fault (image_in files) (ram_bytes options.config)) fault of_image in (λ two. absurd (omega (arith, three, two)), λ same. absurd (omega (arith, three, same)))
hunt_carried names options files fault (inr pass) =
    let status : fault.status ≡ 14 = ap (λ (f : FailedCheck). f.status) pass.1.told in (λ two. absurd (omega (arith, status, two)), λ same. absurd (omega (arith, status, same)))

-- a hunt that stops at its loads
pub hunt_stops : (names : Names) (options : HuntOptions) (stop : LoadStop) (held kept : List (List ℕ)) (a b : HostState) → LoadsSome (hunt_loads names) stop held kept a b
    → Silent a b → HuntEnds names options (end_of_stop stop) a b
hunt_stops names options stop held kept a b some silent = record {
  heard = a;
  tries = heard_none options.tries a;
  outcome = stop_by (hunt_loads names) (HuntVerdict names options) (HuntWrites names options) (HuntLacks names options) stop some.files a b
      (load_lacks (hunt_loads names) (λ files. hunt_image_check names options files ≡ None) a b) some.stops;
  silent = silent;
}

-- a hunt that ends behind its loads where the host is as it was
pub hunt_stays : (names : Names) (options : HuntOptions) (files : List (List ℕ)) (end : CommandEnd) (a b : HostState) → IsHeard options.tries a b
    → Rattle.or_command.specs.Finishing.EndsAfterLoad (HuntVerdict names options) (HuntWrites names options) files end b b
    → IfNoMemory end (hunt_image_check names options files ≡ None) → HuntGoesOn names options files end a b
hunt_stays names options files end a b tries ends passed = record { heard = b; tries = tries; ends = ends; passed = passed; silent = silent_none b }

-- the image has a fault, or memory ran out before the first try
pub hunt_refused : (names : Names) (options : HuntOptions) (files : List (List ℕ)) (end : CommandEnd) (a : HostState) → Stops (hunt_image_check names options files) end
    → HuntGoesOn names options files end a a
hunt_refused names options files (refused fault) a stops = hunt_stays names options files (refused fault) a a (heard_none options.tries a) (inl stops, refl) tt
hunt_refused names options files no_memory a stops = hunt_stays names options files no_memory a a (heard_none options.tries a) refl stops
hunt_refused names options files done a stops = absurd stops
hunt_refused names options files (unread name) a stops = absurd stops
hunt_refused names options files (too_long name limit) a stops = absurd stops
hunt_refused names options files (unwritten name) a stops = absurd stops

-- no seed of the range fails
pub hunt_fails_not : (names : Names) (options : HuntOptions) (files : List (List ℕ)) (a b : HostState) → hunt_image_check names options files ≡ None
    → IsHeard options.tries a b → NoneFails (hunt_start options files) options.seed options.tries
    → HuntGoesOn names options files (refused (no_failure options.tries)) a b
hunt_fails_not names options files a b sound tries none =
    hunt_stays names options files (refused (no_failure options.tries)) a b tries (inr (sound, record { none = none; told = refl }), refl) tt

-- some seed of the range fails, and its texts are written, or a write of them fails
pub hunt_found : (names : Names) (options : HuntOptions) (files : List (List ℕ)) (recording report text : List ℕ) (end : CommandEnd) (a b c : HostState)
    → hunt_image_check names options files ≡ None → IsHeard options.tries a b → IsFound names options (image_in files) (input_in files) recording report text
    → WriteEnds (written_files names.schedule recording names.report report) text end b c → Silent b c → HuntGoesOn names options files end a c
hunt_found names options files recording report text done a b c sound tries found ends silent = record {
  heard = b;
  tries = tries;
  ends = record {
    sound = (sound, record { seed = found.seed; least = found.least });
    outs = written_files names.schedule recording names.report report;
    console = text;
    writes = record { seed = found.seed; least = found.least; recording = recording; report = report; hunted = found.hunted; outputs = refl };
    ends = ends;
  };
  passed = tt;
  silent = silent;
}
hunt_found names options files recording report text (unwritten name) a b c sound tries found ends silent = record {
  heard = b;
  tries = tries;
  ends = record {
    sound = (sound, record { seed = found.seed; least = found.least });
    outs = written_files names.schedule recording names.report report;
    console = text;
    writes = record { seed = found.seed; least = found.least; recording = recording; report = report; hunted = found.hunted; outputs = refl };
    ends = ends;
  };
  passed = tt;
  silent = silent;
}
hunt_found names options files recording report text (unread name) a b c sound tries found ends silent = absurd ends
hunt_found names options files recording report text (too_long name limit) a b c sound tries found ends silent = absurd ends
hunt_found names options files recording report text (refused fault) a b c sound tries found ends silent = absurd ends
hunt_found names options files recording report text no_memory a b c sound tries found ends silent = absurd ends

-- an image without a fault passes its check
pub sound_check : (names : Names) (options : HuntOptions) (files : List (List ℕ)) → elf_fault (image_in files) (ram_bytes options.config) ≡ None → hunt_image_check names options files ≡ None
sound_check names options files sound = ap (image_check names.image) sound

pub head_config : (config : Config) (image input : List ℕ) → (head_of config image input).config ≡ config
unfolding head_of
head_config config image input = refl

-- what is written of the schedule of a seed
pub hunted_by : (names : Names) (start : Board) (head : Head) (from count seed : ℕ) (made : Made) (cores : List Core) (bus : BusState) (recording report text : List ℕ)
    → IsDrawn start seed made cores bus → from + count ≡ seed + 1 → recording ≡ made_for names.schedule (rec_text2 head made.turns.items made.marks.items)
    → ((board : Board) → cores ≡ board.cores → Represents bus board.world → report ≡ made_for names.report (report_text board (length made.turns.items)))
    → text ≡ hunt_text seed count (length made.turns.items) cores → IsHunted names start head from seed recording report text
hunted_by names start head from count seed made cores bus recording report text is counted recorded reported told = record {
  last = is.last;
  replayed = ap (replay start) (sym is.whole) ∙ is.is_made.reached;
  stopped = is.stopped;
  recorded = recorded ∙ (λ i. made_for names.schedule (rec_text2 head (is.whole i) ((is.is_made.marked ∙ ap (marks start) is.whole) i)));
  reported = reported is.last is.is_made.is.same_cores is.is_made.is.represents ∙ ap (λ (turns : List ℕ). made_for names.report (report_text is.last (length turns))) is.whole;
  count = count;
  counted = counted;
  told = told ∙ (λ i. hunt_text seed count (length (is.whole i)) (is.is_made.is.same_cores i));
}
