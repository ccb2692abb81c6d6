-- What a reader tells of a recording that it has read to its end.
use Rattle.std.proofs.Common.{◌≡◌, ◌∙◌, sym, ap, subst, ℕ, List, [], ◌++◌, length, Option, Some, None}
use Rattle.std.specs.Prelude.{Ok, Err}
use Rattle.std.proofs.Common.{inl, inr}
use Rattle.or_words.specs.Settings.{Fits}
use Rattle.or_sched.specs.declared.recording.Head.{Head}
use Rattle.or_sched.specs.declared.recording.Mark.{Mark}
use Rattle.or_sched.specs.declared.recording.RecFault.{RecFault}
use Rattle.or_sched.specs.declared.recording.RecFault.TheVariants.{BadHead, BadRun, Short, NoMemory}
use Rattle.or_sched.specs.declared.reader.Reader.{Reader}
use Rattle.or_sched.specs.Recording.{IsRecording}
use Rattle.or_sched.specs.declared.state.State.{State}
use Rattle.or_sched.specs.declared.state.State.TheVariants.{Failed}
use Rattle.or_sched.specs.Reading.{StateRead, HasRead, Fed, FinishIs, IsWhole}
use Rattle.std.proofs.Common.{arith}
use Rattle.std.proofs.lemmas.List.{take_all}
use Rattle.or_words.specs.Settings.{ram_bytes}
use Rattle.or_elf.specs.Fault.{elf_fault}
use Rattle.or_model.specs.Turn.{Board, replay}
use Rattle.or_replay.specs.Start.{start}
use Rattle.or_replay.specs.Following.{IsFollowable, IsFollowed}
use Rattle.or_recorded.specs.declared.checked.Recording.{Recording}
use Rattle.or_recorded.specs.declared.checked.Checked.{Checked}
use Rattle.or_recorded.specs.Checked.{IsReadInPart, TextFault, AreOfBlocks, IsOfRun, IsChecked, IsEndOf, LeadsToEnd, IsRunChecked}

-- the reader has been fed the whole text
pub fed_whole : (old new : Reader) (text out_old out_new : List ℕ) (marks_old marks_new : List Mark) → HasRead old [] [] [] → out_old ≡ [] → marks_old ≡ []
    → Fed old new text out_old out_new marks_old marks_new → HasRead new text out_new marks_new
fed_whole old new text out_old out_new marks_old marks_new begun no_turns no_marks fed =
    let turns_are : out_new ≡ fed.turns = fed.turns_are ∙ ap (λ l. l ++ fed.turns) no_turns in
    let marks_are : marks_new ≡ fed.marks = fed.marks_are ∙ ap (λ (l : List Mark). l ++ fed.marks) no_marks in
    subst (λ (m : List Mark). HasRead new text out_new m) (sym marks_are)
    (subst (λ (t : List ℕ). HasRead new text t fed.marks) (sym turns_are) (fed.reads [] [] [] begun))

pub head_fits : (text : List ℕ) (head : Head) (turns : List ℕ) (marks : List Mark) → IsRecording text head turns marks → Fits head.config
head_fits text head turns marks (inl is) = is.0.is_head.settings
head_fits text head turns marks (inr is) = is.is_head.settings

pub marks_fit : (text : List ℕ) (head : Head) (turns : List ℕ) (marks : List Mark) → IsRecording text head turns marks → AreOfBlocks turns marks
marks_fit text head turns marks (inl is) = inl is.1
marks_fit text head turns marks (inr is) = inr is.are_marks.whole_blocks

-- a reader that found no memory has read the whole head of a recording, and no fault
read_in_part : (head : Option Head) (state : State) (text turns : List ℕ) (marks : List Mark) → StateRead head state text turns marks → state ≡ Failed NoMemory
    → IsReadInPart text
read_in_part head state text turns marks read is =
    let failed = subst (λ (s : State). StateRead head s text turns marks) is read in
    let behind = failed.1 in
    record { front = behind.front; is_front = behind.is_front; begins = behind.begins; lines = behind.lines }

-- the fault at the end is that of the text
pub fault_of_text : (reader : Reader) (text turns : List ℕ) (marks : List Mark) (fault : RecFault) → HasRead reader text turns marks
    → FinishIs reader text turns marks (Err fault) → TextFault text fault
fault_of_text reader text turns marks (BadHead line) read is = record { place = is.1.place; at = is.1.is; name = is.1.name }
fault_of_text reader text turns marks (BadRun at) read is = record { place = is.1.place; at = is.1.is; name = is.1.name }
fault_of_text reader text turns marks Short read is = is
fault_of_text reader text turns marks NoMemory read is = read_in_part reader.head reader.state text turns marks read is

pub whole_head : (kept head : Option Head) (found : Head) (text turns : List ℕ) (marks : List Mark) → IsWhole kept text turns marks → head ≡ kept → head ≡ Some found
    → IsRecording text found turns marks
whole_head kept head found text turns marks whole same is =
    let e : Some found ≡ Some whole.the_head = sym is ∙ same ∙ whole.head_is in
    let f : whole.the_head ≡ found = cc in
    subst (λ (h : Head). IsRecording text h turns marks) f whole.is

-- the board at the end, and that the turns lead there
pub led_to_end : (first : Board) (recording : Recording) (run : Checked) (turns : List ℕ) (marks : List Mark) → run.recording ≡ recording
    → turns ≡ recording.turns.items → marks ≡ recording.marks.items → IsFollowable first turns marks
    → IsFollowed 65536 first turns marks (Ok tt) run.board.cores run.board.bus → LeadsToEnd first recording run
led_to_end first recording run turns marks same turns_are marks_are followable followed = record {
  same = same;
  followable = subst (λ (t : List ℕ). IsFollowable first t recording.marks.items) turns_are (subst (λ (m : List Mark). IsFollowable first turns m) marks_are followable);
  ended = record {
    last = followed.last;
    reached = ap (replay first) (sym turns_are ∙ sym (take_all (length turns) turns (omega arith))) ∙ followed.followed.0.reached;
    is = followed.is;
  };
}

pub run_checked : (image input text : List ℕ) (recording : Recording) (run : Checked) → IsOfRun image input text recording.head recording.turns.items recording.marks.items
    → elf_fault image (ram_bytes recording.head.config) ≡ None → LeadsToEnd (start recording.head.config image input) recording run
    → IsRunChecked image input text run
run_checked image input text recording run of_run sound leads =
    let checked : IsChecked image input text recording.head recording.turns.items recording.marks.items =
    record { of_run = of_run; sound = sound; followable = leads.followable } in
    record {
      checked = subst (λ (r : Recording). IsChecked image input text r.head r.turns.items r.marks.items) (sym leads.same) checked;
      ended = subst (λ (r : Recording). IsEndOf (start r.head.config image input) r.turns.items run.board.cores run.board.bus) (sym leads.same) leads.ended;
    }

pub ruleset recorded = (head_fits, marks_fit)
