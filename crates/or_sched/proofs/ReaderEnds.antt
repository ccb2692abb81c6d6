-- What a reader tells: its head, what was read to the end, and the end of the text.
use Rattle.std.proofs.Common.{◌≡◌, ◌∙◌, sym, ap, subst, ℕ, List, ◌++◌, [], ◌≤◌, ◌<◌, append_assoc, append-nil, arith, refl, length, length-append, inl, inr, ◌⊎◌, Option, Some, None, take, drop, true, false}
use Rattle.std.specs.Prelude.{map}
use Rattle.std.proofs.lemmas.Bool.{cases_lt}
use Rattle.std.proofs.lemmas.List.{take_at, take-append-drop, take-append-le}
use Rattle.or_sched.specs.declared.recording.Head.{Head}
use Rattle.or_sched.specs.declared.recording.Mark.{Mark}
use Rattle.or_sched.specs.declared.recording.RecFault.TheVariants.{BadHead, BadRun, Short, NoMemory}
use Rattle.or_sched.specs.declared.places.Limits.{Limits}
use Rattle.or_sched.specs.declared.places.Place.{Place}
use Rattle.or_sched.specs.declared.state.Heading.{Heading}
use Rattle.or_sched.specs.declared.state.State.{State}
use Rattle.or_sched.specs.declared.state.State.TheVariants.{Head as HeadState, Body as BodyState, Failed}
use Rattle.or_sched.specs.Runs.{runs, block_text}
use Rattle.or_sched.specs.Blocks.{Item, run_item, blocks_items, blocks_text, turns_of, marks_of}
use Rattle.or_sched.specs.Places.{Completes, IsSound, ends_at}
use Rattle.or_sched.specs.Recording.{IsRecording1, IsRecording2, IsRecording, Begins, FaultAt, Ended, IsReadable, line_feeds}
use Rattle.or_sched.specs.Reading.{HeadIs, HeadingRead, BodyRead, BehindHead, StateRead, IsReading, ReadAll, IsWhole, IsShort, head_of, first_of, limits_of}
use Rattle.or_sched.proofs.Faults.{no_fault, fault_less}
use Rattle.or_sched.proofs.Ends.{not_end, is_end, nothing_more, block_some, blocks_some}
use Rattle.or_sched.proofs.Wholes.{known_of, says1, says2}
use Rattle.or_sched.proofs.HeadReading.{line_feeds_append, head_begins, head_ended, few_lines, within_place}
use Rattle.or_sched.proofs.BodyReading.{body_begins, body_ended, body_head, goes_on1, goes_on2, on_from, whole_of}

pub read_all : (head : Option Head) (state : State) (bytes turns : List ℕ) (marks : List Mark) → IsReading state → StateRead head state bytes turns marks → ReadAll bytes turns marks
read_all head (HeadState heading) bytes turns marks is read = record {
  begins = head_begins bytes heading.known heading.place read.read heading.sound;
  ended = subst (λ t. Ended bytes t marks) (sym read.no_turns) (subst (λ m. Ended bytes [] m) (sym read.no_marks) (head_ended bytes heading.known heading.place read.read));
}
read_all head (BodyState body) bytes turns marks is read = record {
  begins = body_begins head body.limits body.place body.count bytes turns marks read body.sound;
  ended = body_ended head body.limits body.place body.count bytes turns marks read body.sound;
}
read_all head (Failed fault) bytes turns marks is read = absurd is

-- what begins a recording is readable to its end
all_readable : (bytes front : List ℕ) → Begins bytes → IsReadable bytes front → bytes ≡ front
all_readable bytes front begins readable = go readable.longest
  where
    go : (readable.rest ≡ []) ⊎ FaultAt bytes (length front) → bytes ≡ front
    go (inl none) = readable.parts ∙ ap (λ r. front ++ r) none ∙ append-nil front
    go (inr fault) = absurd (no_fault bytes (length front) begins fault)

fault_head : (head : Option Head) (bytes front : List ℕ) (place : ℕ) → FaultAt bytes place → ((p : ℕ) → FaultAt bytes p → HeadIs head (take p bytes)) → IsReadable bytes front → HeadIs head front
fault_head head bytes front place fault is readable = go readable.longest
  where
    go : (readable.rest ≡ []) ⊎ FaultAt bytes (length front) → HeadIs head front
    go (inl none) =
        let all : bytes ≡ front = readable.parts ∙ ap (λ r. front ++ r) none ∙ append-nil front in
        absurd (no_fault bytes place (subst Begins (sym all) readable.begins) fault)
    go (inr other) =
        subst (HeadIs head) (ap (take (length front)) readable.parts ∙ take_at front readable.rest (length front) refl) (is (length front) other)

-- a beginning that begins a recording stands in the readable part
within_readable : (bytes part front : List ℕ) (more : List ℕ) → bytes ≡ part ++ more → Begins part → IsReadable bytes front → length part ≤ length front
within_readable bytes part front more parts begins readable = go (cases_lt (length front) (length part)) readable.longest
  where
    go : (length front < length part) ⊎ (length part ≤ length front) → (readable.rest ≡ []) ⊎ FaultAt bytes (length front) → length part ≤ length front
    go (inr le) longest = le
    go (inl lt) (inl none) =
        absurd (omega (arith, ap length parts, ap length readable.parts, ap length none, length-append part more, length-append front readable.rest))
    go (inl lt) (inr fault) = absurd (no_fault part (length front) begins (fault_less part more (length front) (subst (λ b. FaultAt b (length front)) parts fault) lt))

head_later : (head : Option Head) (part more : List ℕ) → 4 ≤ line_feeds part → HeadIs head part → HeadIs head (part ++ more)
head_later None part more lines is = absurd (omega (arith, lines, is))
head_later (Some head) part more lines is = (
  omega (arith, lines, line_feeds_append part more),
  λ rest other turns marks recording. is.1 (more ++ rest) other turns marks (subst (λ t. IsRecording t other turns marks) (append_assoc part more rest) recording),
)

part_head : (head : Option Head) (bytes front : List ℕ) → BehindHead head bytes → IsReadable bytes front → HeadIs head front
part_head head bytes front behind readable =
    let fits : length behind.front ≤ length front =
    within_readable bytes behind.front front behind.is_front.rest behind.is_front.parts behind.begins readable in
    let same : take (length behind.front) front ≡ behind.front =
    sym (take-append-le (length behind.front) front readable.rest fits) ∙ ap (take (length behind.front)) (sym readable.parts ∙ behind.is_front.parts)
    ∙ take_at behind.front behind.is_front.rest (length behind.front) refl in
    let whole : behind.front ++ drop (length behind.front) front ≡ front =
    ap (λ t. t ++ drop (length behind.front) front) (sym same) ∙ take-append-drop (length behind.front) front in
    subst (HeadIs head) whole (head_later head behind.front (drop (length behind.front) front) behind.lines behind.head_is)

pub head_told : (head : Option Head) (state : State) (bytes turns front : List ℕ) (marks : List Mark) → StateRead head state bytes turns marks → IsReadable bytes front → HeadIs head front
head_told head (HeadState heading) bytes turns front marks read readable =
    subst (HeadIs head) (all_readable bytes front (head_begins bytes heading.known heading.place read.read heading.sound) readable)
    (subst (λ h. HeadIs h bytes) (sym read.no_head) (few_lines bytes heading.known heading.place read.read heading.more))
head_told head (BodyState body) bytes turns front marks read readable =
    subst (HeadIs head) (all_readable bytes front (body_begins head body.limits body.place body.count bytes turns marks read body.sound) readable)
    (body_head head body.limits body.place body.count bytes turns marks read body.sound)
head_told head (Failed (BadHead line)) bytes turns front marks read readable = fault_head head bytes front read.0.place read.0.is read.1 readable
head_told head (Failed (BadRun at)) bytes turns front marks read readable = fault_head head bytes front read.0.place read.0.is read.1 readable
head_told head (Failed Short) bytes turns front marks read readable = absurd read.0
head_told head (Failed NoMemory) bytes turns front marks read readable = part_head head bytes front read.1 readable

-- the end of the text in the head
pub head_short_of : (head : Option Head) (heading : Heading) (bytes turns : List ℕ) (marks : List Mark) → HeadingRead head heading bytes turns marks → IsShort bytes
head_short_of head heading bytes turns marks read = record {
  begins = head_begins bytes heading.known heading.place read.read heading.sound;
  none = λ other all all_marks is. none other all all_marks is;
}
  where
    none1 : (other : Head) (all : List ℕ) → IsRecording1 bytes other all → ⊥
    none1 other all is =
        omega (
          arith,
          block_some all is.schedule.some_turn,
          within_place (known_of 1 other) (block_text all) heading.known heading.place []
              (read.read.keeps (known_of 1 other) (block_text all) [] (says1 (bytes ++ []) other all (subst (λ t. IsRecording1 t other all) (sym (append-nil bytes)) is))),
        )

    none2 : (other : Head) (all : List ℕ) (all_marks : List Mark) → IsRecording2 bytes other all all_marks → ⊥
    none2 other all all_marks is =
        omega (
          arith,
          blocks_some all_marks all is.schedule.some_turn,
          within_place (known_of 2 other) (blocks_text 65536 all_marks all) heading.known heading.place []
              (read.read.keeps (known_of 2 other) (blocks_text 65536 all_marks all) [] (says2 (bytes ++ []) other all all_marks (subst (λ t. IsRecording2 t other all all_marks) (sym (append-nil bytes)) is))),
        )

    none : (other : Head) (all : List ℕ) (all_marks : List Mark) → IsRecording bytes other all all_marks → ⊥
    none other all all_marks (inl is) = none1 other all is.0
    none other all all_marks (inr is) = none2 other all all_marks is

module _ (head : Option Head) (limits : Limits) (place : Place) (count : ℕ) (bytes turns : List ℕ) (marks : List Mark)
    (read : BodyRead head limits place count bytes turns marks) (sound : IsSound limits place) where
  -- what completes the place, where nothing follows
  record AtEnd (items : List Item) : Type 0 where
    others : List Item
    parts : items ≡ read.decoded ++ others
    completes : Completes limits place [] others

  at_end : (items : List Item) → Completes (limits_of read.known) (first_of read.known) (read.body ++ []) items → AtEnd items
  at_end items c =
      let o : (others : List Item) × (items ≡ read.decoded ++ others) × Completes limits place [] others =
      on_from head limits place count bytes turns marks read sound [] items c in
      record { others = o.0; parts = o.1; completes = o.2 }

  longer1 : (other : Head) (all : List ℕ) → IsRecording1 bytes other all → IsRecording1 (bytes ++ []) other all
  longer1 other all is = subst (λ t. IsRecording1 t other all) (sym (append-nil bytes)) is

  longer2 : (other : Head) (all : List ℕ) (all_marks : List Mark) → IsRecording2 bytes other all all_marks → IsRecording2 (bytes ++ []) other all all_marks
  longer2 other all all_marks is = subst (λ t. IsRecording2 t other all all_marks) (sym (append-nil bytes)) is

  pub body_short_of : ends_at place ≡ false → IsShort bytes
  body_short_of more = record {
    begins = body_begins head limits place count bytes turns marks read sound;
    none = λ other all all_marks is. none other all all_marks is;
  }
    where
      none : (other : Head) (all : List ℕ) (all_marks : List Mark) → IsRecording bytes other all all_marks → ⊥
      none other all all_marks (inl is) =
          let e : AtEnd (map run_item (runs all)) =
          at_end (map run_item (runs all)) (goes_on1 head limits place count bytes turns marks read sound [] other all (longer1 other all is.0)).completes in
          not_end limits place e.others sound more e.completes
      none other all all_marks (inr is) =
          let e : AtEnd (blocks_items 65536 all_marks all) =
          at_end (blocks_items 65536 all_marks all) (goes_on2 head limits place count bytes turns marks read sound [] other all all_marks (longer2 other all all_marks is)).completes in
          not_end limits place e.others sound more e.completes

  pub body_whole : ends_at place ≡ true → IsWhole head bytes turns marks
  body_whole ends = record {
    the_head = head_of read.known;
    head_is = read.is_head;
    is = whole;
    only = λ other all all_marks is. only other all all_marks is;
  }
    where
      whole : IsRecording bytes (head_of read.known) turns marks
      whole =
          let w : IsRecording (bytes ++ []) (head_of read.known) (turns_of (read.decoded ++ [])) (marks_of (read.decoded ++ [])) =
          whole_of head limits place count bytes turns marks read sound [] [] (is_end limits place sound ends) in
          subst (λ t. IsRecording bytes (head_of read.known) t marks) (ap turns_of (append-nil read.decoded) ∙ sym read.turns_are)
          (subst (λ m. IsRecording bytes (head_of read.known) (turns_of (read.decoded ++ [])) m) (ap marks_of (append-nil read.decoded) ∙ sym read.marks_are)
          (subst (λ b. IsRecording b (head_of read.known) (turns_of (read.decoded ++ [])) (marks_of (read.decoded ++ []))) (append-nil bytes) w))

      same_items : (items : List Item) → AtEnd items → items ≡ read.decoded
      same_items items e =
          e.parts ∙ ap (λ o. read.decoded ++ o) (nothing_more limits place e.others sound ends e.completes) ∙ append-nil read.decoded

      only : (other : Head) (all : List ℕ) (all_marks : List Mark) → IsRecording bytes other all all_marks → (other ≡ head_of read.known) × (all ≡ turns) × (all_marks ≡ marks)
      only other all all_marks (inl is) =
          let b = goes_on1 head limits place count bytes turns marks read sound [] other all (longer1 other all is.0) in
          let same : map run_item (runs all) ≡ read.decoded = same_items (map run_item (runs all)) (at_end (map run_item (runs all)) b.completes) in
          (b.head_is, sym b.turns_are ∙ ap turns_of same ∙ sym read.turns_are, is.1 ∙ sym b.marks_are ∙ ap marks_of same ∙ sym read.marks_are)
      only other all all_marks (inr is) =
          let b = goes_on2 head limits place count bytes turns marks read sound [] other all all_marks (longer2 other all all_marks is) in
          let same : blocks_items 65536 all_marks all ≡ read.decoded = same_items (blocks_items 65536 all_marks all) (at_end (blocks_items 65536 all_marks all) b.completes) in
          (b.head_is, sym b.turns_are ∙ ap turns_of same ∙ sym read.turns_are, sym b.marks_are ∙ ap marks_of same ∙ sym read.marks_are)
