-- The files of a command on a recorded run have one verdict.
use Rattle.std.proofs.Common.{◌≡◌, ◌≢◌, ℕ, List, [], Option, Some, None, refl, ap, sym, ◌∙◌, subst, take, append-nil}
use Rattle.std.specs.Prelude.{◌⊎◌, Err}
use Rattle.std.proofs.Common.{inl, inr, arith}
use Rattle.sha2.specs.Sha256.{sha256}
use Rattle.or_words.specs.Settings.{ram_bytes}
use Rattle.or_elf.specs.declared.fault.ElfFault.{ElfFault}
use Rattle.or_elf.specs.Fault.{elf_fault}
use Rattle.or_sched.specs.declared.recording.Head.{Head}
use Rattle.or_sched.specs.declared.recording.Mark.{Mark}
use Rattle.or_sched.specs.declared.recording.RecFault.{RecFault}
use Rattle.or_sched.specs.declared.recording.RecFault.TheVariants.{BadHead, BadRun, Short, NoMemory as NoMemoryToRead}
use Rattle.or_sched.specs.Recording.{IsRecording, Begins, fault_name}
use Rattle.or_sched.specs.Reading.{IsShort}
use Rattle.or_sched.proofs.Unique.{unique}
use Rattle.or_sched.proofs.Faults.{one_fault, no_fault}
use Rattle.or_command.specs.declared.refusal.Digests.{Digests}
use Rattle.or_command.specs.Ends.{FailedCheck}
use Rattle.or_command_line.specs.Names.{Recorded}
use Rattle.or_replay.specs.Start.{start}
use Rattle.or_replay.specs.declared.follow.TurnFault.{TurnFault}
use Rattle.or_replay.specs.Following.{Followed, IsFollowable}
use Rattle.or_replay.proofs.Followable.{followed_exactly}
use Rattle.or_replay.proofs.FirstRefusal.{followed_in_one_way}
use Rattle.or_recorded.specs.declared.checked.RunFault.{RunFault}
use Rattle.or_recorded.specs.declared.checked.RunFault.TheVariants.{Text, NoMemoryForText, Image, Input, Elf, Turns, NoMemory}
use Rattle.or_recorded.specs.Checked.{IsTextFault, IsFirstFault, IsOtherImage, IsOtherInput, IsOfRun, IsImageFault, IsTurnFault, IsChecked}
use Rattle.or_recorded.specs.declared.refused.OwnFault.{OwnFault}
use Rattle.or_recorded.specs.Command.{Run, IsRunOf, FailsToRun, FailsItself, Judged, Verdict}
use Rattle.or_recorded.specs.Files.{Names, Files, files_in}
use Rattle.or_recorded.specs.Refused.{fault_check, own_check}
use Rattle.or_recorded.proofs.OneRun.{one_run}
use Rattle.or_recorded.proofs.Recorded.{marks_fit}

some_none : {T : Type 0} (found : Option T) (x : T) → found ≡ None → found ≡ Some x → ⊥
some_none found x none some = let e : None ≡ Some x = sym none ∙ some in cc

-- the files of a recorded run
module _ (image input text : List ℕ) where
  begun : (head : Head) (turns : List ℕ) (marks : List Mark) → IsRecording text head turns marks → Begins text
  begun head turns marks is = record {
    rest = [];
    head = head;
    turns = turns;
    marks = marks;
    is = subst (λ (l : List ℕ). IsRecording l head turns marks) (sym (append-nil text)) is;
  }

  -- a text with a fault is no recording
  no_recording : (fault : RecFault) (head : Head) (turns : List ℕ) (marks : List Mark) → IsFirstFault image input text (Text fault) → IsRecording text head turns marks → ⊥
  no_recording (BadHead line) head turns marks is whole = no_fault text is.place (begun head turns marks whole) is.at
  no_recording (BadRun at) head turns marks is whole = no_fault text is.place (begun head turns marks whole) is.at
  no_recording Short head turns marks is whole = is.none head turns marks whole
  no_recording NoMemoryToRead head turns marks is whole = is

  one_name : (fault other : RecFault) → IsTextFault text fault → IsTextFault text other → fault ≡ other
  one_name fault other is also = is.name ∙ ap (λ place. fault_name (take place text)) (one_fault text is.place also.place is.at also.at) ∙ sym also.name

  not_short : (fault : RecFault) → IsTextFault text fault → IsShort text → ⊥
  not_short fault is short = no_fault text is.place short.begins is.at

  one_text : (fault other : RecFault) → IsFirstFault image input text (Text fault) → IsFirstFault image input text (Text other) → fault ≡ other
  one_text (BadHead line) (BadHead l) is also = one_name (BadHead line) (BadHead l) is also
  one_text (BadHead line) (BadRun a) is also = one_name (BadHead line) (BadRun a) is also
  one_text (BadHead line) Short is also = absurd (not_short (BadHead line) is also)
  one_text (BadHead line) NoMemoryToRead is also = absurd also
  one_text (BadRun at) (BadHead l) is also = one_name (BadRun at) (BadHead l) is also
  one_text (BadRun at) (BadRun a) is also = one_name (BadRun at) (BadRun a) is also
  one_text (BadRun at) Short is also = absurd (not_short (BadRun at) is also)
  one_text (BadRun at) NoMemoryToRead is also = absurd also
  one_text Short (BadHead l) is also = absurd (not_short (BadHead l) also is)
  one_text Short (BadRun a) is also = absurd (not_short (BadRun a) also is)
  one_text Short Short is also = refl
  one_text Short NoMemoryToRead is also = absurd also
  one_text NoMemoryToRead other is also = absurd is

  one_head : (head other : Head) (turns others : List ℕ) (marks other_marks : List Mark) → IsRecording text head turns marks → IsRecording text other others other_marks → head ≡ other
  one_head head other turns others marks other_marks is also = (unique text head other turns others marks other_marks is also).0

  -- the image that the recording is of, or another one
  image_is : (head other : Head) (turns others : List ℕ) (marks other_marks : List Mark) → IsRecording text head turns marks → IsRecording text other others other_marks
      → head.image ≡ sha256 image → other.image ≢ sha256 image → ⊥
  image_is head other turns others marks other_marks is also same differ =
      differ (ap (λ (h : Head). h.image) (sym (one_head head other turns others marks other_marks is also)) ∙ same)

  input_is : (head other : Head) (turns others : List ℕ) (marks other_marks : List Mark) → IsRecording text head turns marks → IsRecording text other others other_marks
      → head.input ≡ sha256 input → other.input ≢ sha256 input → ⊥
  input_is head other turns others marks other_marks is also same differ =
      differ (ap (λ (h : Head). h.input) (sym (one_head head other turns others marks other_marks is also)) ∙ same)

  sound_is : (head other : Head) (turns others : List ℕ) (marks other_marks : List Mark) (fault : ElfFault) → IsRecording text head turns marks → IsRecording text other others other_marks
      → elf_fault image (ram_bytes head.config) ≡ None → elf_fault image (ram_bytes other.config) ≡ Some fault → ⊥
  sound_is head other turns others marks other_marks fault is also sound found =
      some_none (elf_fault image (ram_bytes other.config)) fault
      (ap (λ (h : Head). elf_fault image (ram_bytes h.config)) (sym (one_head head other turns others marks other_marks is also)) ∙ sound) found

  same_digests : (one other : Digests) → one.recorded ≡ other.recorded → one.found ≡ other.found → one ≡ other
  same_digests one other recorded found =
      let e : ◌≡◌ {A = Digests} (record { recorded = one.recorded; found = one.found }) (record { recorded = other.recorded; found = other.found }) = cc in e

  one_image : (digests other : Digests) → IsOtherImage image text digests → IsOtherImage image text other → digests ≡ other
  one_image digests other is also =
      let head = one_head is.head also.head is.turns also.turns is.marks also.marks is.text also.text in
      same_digests digests other (is.recorded ∙ ap (λ (h : Head). h.image) head ∙ sym also.recorded) (is.found ∙ sym also.found)

  one_input : (digests other : Digests) → IsOtherInput image input text digests → IsOtherInput image input text other → digests ≡ other
  one_input digests other is also =
      let head = one_head is.head also.head is.turns also.turns is.marks also.marks is.text also.text in
      same_digests digests other (is.recorded ∙ ap (λ (h : Head). h.input) head ∙ sym also.recorded) (is.found ∙ sym also.found)

  one_elf : (fault other : ElfFault) → IsImageFault image input text fault → IsImageFault image input text other → fault ≡ other
  one_elf fault other is also =
      let head = one_head is.head also.head is.turns also.turns is.marks also.marks is.of_run.text also.of_run.text in
      let e : Some fault ≡ Some other = sym is.fault_is ∙ ap (λ (h : Head). elf_fault image (ram_bytes h.config)) head ∙ also.fault_is in cc

  one_turns : (fault other : TurnFault) → IsTurnFault image input text fault → IsTurnFault image input text other → fault ≡ other
  one_turns fault other is also =
      let same = unique text also.head is.head also.turns is.turns also.marks is.marks also.of_run.text is.of_run.text in
      let followed : Followed 65536 (start is.head.config image input) is.turns is.marks (Err other) also.refused.last =
      subst (λ (m : List Mark). Followed 65536 (start is.head.config image input) is.turns m (Err other) also.refused.last) same.2
      (subst (λ (t : List ℕ). Followed 65536 (start is.head.config image input) t also.marks (Err other) also.refused.last) same.1
      (subst (λ (h : Head). Followed 65536 (start h.config image input) also.turns also.marks (Err other) also.refused.last) same.0 also.refused.followed)) in
      let both = followed_in_one_way 65536 (omega arith) (start is.head.config image input) is.turns is.marks (Err fault) (Err other) is.refused.last also.refused.last
      is.refused.followed followed in
      let e : Err fault ≡ Err other = both.0 in cc

  -- a run whose checks pass has no fault
  no_turn_fault : (head : Head) (turns : List ℕ) (marks : List Mark) (fault : TurnFault) → IsChecked image input text head turns marks → IsTurnFault image input text fault → ⊥
  no_turn_fault head turns marks fault checked is =
      let same = unique text head is.head turns is.turns marks is.marks checked.of_run.text is.of_run.text in
      let followable : IsFollowable (start is.head.config image input) is.turns is.marks =
      subst (λ (m : List Mark). IsFollowable (start is.head.config image input) is.turns m) same.2
      (subst (λ (t : List ℕ). IsFollowable (start is.head.config image input) t marks) same.1
      (subst (λ (h : Head). IsFollowable (start h.config image input) turns marks) same.0 checked.followable)) in
      followed_exactly (start is.head.config image input) is.turns is.marks (Err fault) is.refused.last (marks_fit text is.head is.turns is.marks is.of_run.text) is.refused.followed
      followable

  sound_or_refused : (head : Head) (turns : List ℕ) (marks : List Mark) (names : Recorded) (fault : RunFault) (check : FailedCheck) → IsChecked image input text head turns marks
      → IsFirstFault image input text fault → fault_check names fault ≡ Some check → ⊥
  sound_or_refused head turns marks names (Text fault) check checked first told = no_recording fault head turns marks first checked.of_run.text
  sound_or_refused head turns marks names (Image digests) check checked first told =
      image_is head first.head turns first.turns marks first.marks checked.of_run.text first.text checked.of_run.same_image first.differ
  sound_or_refused head turns marks names (Input digests) check checked first told =
      input_is head first.head turns first.turns marks first.marks checked.of_run.text first.text checked.of_run.same_input first.differ
  sound_or_refused head turns marks names (Elf fault) check checked first told =
      sound_is head first.head turns first.turns marks first.marks fault checked.of_run.text first.of_run.text checked.sound first.fault_is
  sound_or_refused head turns marks names (Turns fault) check checked first told = no_turn_fault head turns marks fault checked first
  sound_or_refused head turns marks names NoMemory check checked first told = let b : ⊥ = cc in b
  sound_or_refused head turns marks names NoMemoryForText check checked first told = let b : ⊥ = cc in b

  image_first : (digests : Digests) (head : Head) (turns : List ℕ) (marks : List Mark) → IsOtherImage image text digests → IsRecording text head turns marks → head.image ≡ sha256 image → ⊥
  image_first digests head turns marks is whole same = image_is head is.head turns is.turns marks is.marks whole is.text same is.differ

  input_first : (digests : Digests) (head : Head) (turns : List ℕ) (marks : List Mark) → IsOtherInput image input text digests → IsOfRun image input text head turns marks → ⊥
  input_first digests head turns marks is of_run = input_is head is.head turns is.turns marks is.marks of_run.text is.text of_run.same_input is.differ

  elf_first : (fault : ElfFault) (turn_fault : TurnFault) → IsImageFault image input text fault → IsTurnFault image input text turn_fault → ⊥
  elf_first fault turn_fault is also =
      sound_is also.head is.head also.turns is.turns also.marks is.marks fault also.of_run.text is.of_run.text also.sound is.fault_is

  -- the first check that fails is one
  one_check : (names : Recorded) (fault other : RunFault) (check : FailedCheck) → IsFirstFault image input text fault → IsFirstFault image input text other
      → fault_check names fault ≡ Some check → fault_check names other ≡ Some check ⊎ (fault_check names other ≡ None)
  one_check names (Text fault) (Text other) check is also told = inl (ap (λ f. fault_check names (Text f)) (sym (one_text fault other is also)) ∙ told)
  one_check names (Text fault) (Image digests) check is also told = absurd (no_recording fault also.head also.turns also.marks is also.text)
  one_check names (Text fault) (Input digests) check is also told = absurd (no_recording fault also.head also.turns also.marks is also.text)
  one_check names (Text fault) (Elf elf) check is also told = absurd (no_recording fault also.head also.turns also.marks is also.of_run.text)
  one_check names (Text fault) (Turns turn) check is also told = absurd (no_recording fault also.head also.turns also.marks is also.of_run.text)
  one_check names (Image digests) (Text other) check is also told = absurd (no_recording other is.head is.turns is.marks also is.text)
  one_check names (Image digests) (Image others) check is also told = inl (ap (λ (d : Digests). fault_check names (Image d)) (sym (one_image digests others is also)) ∙ told)
  one_check names (Image digests) (Input others) check is also told = absurd (image_first digests also.head also.turns also.marks is also.text also.same_image)
  one_check names (Image digests) (Elf elf) check is also told = absurd (image_first digests also.head also.turns also.marks is also.of_run.text also.of_run.same_image)
  one_check names (Image digests) (Turns turn) check is also told = absurd (image_first digests also.head also.turns also.marks is also.of_run.text also.of_run.same_image)
  one_check names (Input digests) (Text other) check is also told = absurd (no_recording other is.head is.turns is.marks also is.text)
  one_check names (Input digests) (Image others) check is also told = absurd (image_first others is.head is.turns is.marks also is.text is.same_image)
  one_check names (Input digests) (Input others) check is also told = inl (ap (λ (d : Digests). fault_check names (Input d)) (sym (one_input digests others is also)) ∙ told)
  one_check names (Input digests) (Elf elf) check is also told = absurd (input_first digests also.head also.turns also.marks is also.of_run)
  one_check names (Input digests) (Turns turn) check is also told = absurd (input_first digests also.head also.turns also.marks is also.of_run)
  one_check names (Elf elf) (Text other) check is also told = absurd (no_recording other is.head is.turns is.marks also is.of_run.text)
  one_check names (Elf elf) (Image others) check is also told = absurd (image_first others is.head is.turns is.marks also is.of_run.text is.of_run.same_image)
  one_check names (Elf elf) (Input others) check is also told = absurd (input_first others is.head is.turns is.marks also is.of_run)
  one_check names (Elf elf) (Elf other) check is also told = inl (ap (λ (f : ElfFault). fault_check names (Elf f)) (sym (one_elf elf other is also)) ∙ told)
  one_check names (Elf elf) (Turns turn) check is also told = absurd (elf_first elf turn is also)
  one_check names (Turns turn) (Text other) check is also told = absurd (no_recording other is.head is.turns is.marks also is.of_run.text)
  one_check names (Turns turn) (Image others) check is also told = absurd (image_first others is.head is.turns is.marks also is.of_run.text is.of_run.same_image)
  one_check names (Turns turn) (Input others) check is also told = absurd (input_first others is.head is.turns is.marks also is.of_run)
  one_check names (Turns turn) (Elf elf) check is also told = absurd (elf_first elf turn also is)
  one_check names (Turns turn) (Turns other) check is also told = inl (ap (λ (f : TurnFault). fault_check names (Turns f)) (sym (one_turns turn other is also)) ∙ told)
  one_check names NoMemory other check is also told = absurd (let b : ⊥ = cc in b)
  one_check names NoMemoryForText other check is also told = absurd (let b : ⊥ = cc in b)
  one_check names (Text fault) NoMemory check is also told = inr refl
  one_check names (Text fault) NoMemoryForText check is also told = inr refl
  one_check names (Image digests) NoMemory check is also told = inr refl
  one_check names (Image digests) NoMemoryForText check is also told = inr refl
  one_check names (Input digests) NoMemory check is also told = inr refl
  one_check names (Input digests) NoMemoryForText check is also told = inr refl
  one_check names (Elf elf) NoMemory check is also told = inr refl
  one_check names (Elf elf) NoMemoryForText check is also told = inr refl
  one_check names (Turns turn) NoMemory check is also told = inr refl
  one_check names (Turns turn) NoMemoryForText check is also told = inr refl

  checks_agree : (names : Recorded) (other : RunFault) (check also_check : FailedCheck) → (fault_check names other ≡ Some check) ⊎ (fault_check names other ≡ None)
      → fault_check names other ≡ Some also_check → check ≡ also_check
  checks_agree names other check also_check (inl told) also = let e : Some check ≡ Some also_check = sym told ∙ also in cc
  checks_agree names other check also_check (inr none) also =
      absurd (some_none (fault_check names other) also_check none also)

  -- checks of a run that fail agree
  pub one_failure : (names : Recorded) (fault other : RunFault) (check also_check : FailedCheck) → IsFirstFault image input text fault → IsFirstFault image input text other
      → fault_check names fault ≡ Some check → fault_check names other ≡ Some also_check → check ≡ also_check
  one_failure names fault other check also_check is also told also_told =
      checks_agree names other check also_check (one_check names fault other check is also told) also_told

-- a command on a recorded run
module _ (fault : Run → Option OwnFault) (Makes : Run → List ℕ → List ℕ → Type 0) (names : Names) where
  -- a check of the run fails only where the run has a fault
  run_or_failure : (files : Files) (run : Run) (check : FailedCheck) → IsRunOf files run → FailsToRun names files check → ⊥
  run_or_failure files run check is fails =
      let checked = subst (λ (f : Files). IsChecked f.image f.input f.recording run.head run.turns run.marks) is.of is.checked in
      sound_or_refused files.image files.input files.recording run.head run.turns run.marks names.run fails.fault check checked fails.first fails.told

  one_own : (files : Files) (run other : Run) (found also : Option OwnFault) → IsRunOf files run → IsRunOf files other → fault run ≡ found → fault other ≡ also → found ≡ also
  one_own files run other found also is is_other here there = sym here ∙ ap fault (one_run files run other is is_other) ∙ there

  none_some : (own : OwnFault) → ◌≡◌ {A = Option OwnFault} None (Some own) → ⊥
  none_some own e = let b : ⊥ = cc in b

  same_own : (files : Files) (check other : FailedCheck) → FailsItself fault Makes names files check → FailsItself fault Makes names files other → Some check ≡ Some other
  same_own files check other is also =
      let owns : Some is.own ≡ Some also.own = one_own files is.run also.run (Some is.own) (Some also.own) is.is also.is is.fails also.fails in
      let same : is.own ≡ also.own = cc in
      sym is.told ∙ ap (own_check names) same ∙ also.told

  -- the checks of a command find one thing
  one_judged : (files : Files) (found other : Option FailedCheck) → Judged fault Makes names files found → Judged fault Makes names files other → found ≡ other
  one_judged files None None is also = refl
  one_judged files None (Some check) is (inl refused) = absurd (run_or_failure files is.run check is.is refused)
  one_judged files None (Some check) is (inr refused) =
      absurd (none_some refused.own (one_own files is.run refused.run None (Some refused.own) is.is refused.is is.sound refused.fails))
  one_judged files (Some check) None (inl refused) also = absurd (run_or_failure files also.run check also.is refused)
  one_judged files (Some check) None (inr refused) also =
      absurd (none_some refused.own (one_own files also.run refused.run None (Some refused.own) also.is refused.is also.sound refused.fails))
  one_judged files (Some check) (Some other) (inl is) (inl also) =
      ap Some (one_failure files.image files.input files.recording names.run is.fault also.fault check other is.first also.first is.told also.told)
  one_judged files (Some check) (Some other) (inl is) (inr also) = absurd (run_or_failure files also.run check also.is is)
  one_judged files (Some check) (Some other) (inr is) (inl also) = absurd (run_or_failure files is.run other is.is also)
  one_judged files (Some check) (Some other) (inr is) (inr also) = same_own files check other is also

  pub one_verdict : (read : List (List ℕ)) (found other : Option FailedCheck) → Verdict fault Makes names read found → Verdict fault Makes names read other → found ≡ other
  one_verdict read found other is also = one_judged (files_in names read) found other is also
