-- What the bytes behind a head tell.
use Rattle.std.proofs.Common.{◌≡◌, ◌∙◌, sym, ap, subst, ℕ, List, ◌++◌, ◌∷◌, [], ◌+◌, ◌-◌, ◌*◌, ◌%◌, ◌^◌, ◌≤◌, ◌<◌, append_assoc, append-nil, arith, refl, length, length-append, inl, inr, ◌⊎◌, Option, Some}
use Rattle.std.proofs.Math.Nat.{mul-le-mul}
use Rattle.std.specs.Prelude.{map, replicate}
use Rattle.std.proofs.lemmas.List.{take_at, take_all}
use Rattle.std.proofs.lemmas.Bool.{cases_lt}
use Rattle.or_sched.specs.declared.recording.Head.{Head}
use Rattle.or_sched.specs.declared.recording.Mark.{Mark}
use Rattle.or_sched.specs.declared.head.Known.{Known}
use Rattle.or_sched.specs.declared.head.HeadPlace.TheVariants.{Behind}
use Rattle.or_sched.specs.declared.places.Limits.{Limits}
use Rattle.or_sched.specs.declared.places.Place.{Place}
use Rattle.or_sched.specs.HeadText.{head_text1, head_text2}
use Rattle.or_sched.specs.HeadLines.{KnownFits}
use Rattle.or_sched.specs.Runs.{runs}
use Rattle.or_sched.specs.Blocks.{Item, run_item, blocks_items, turns_of, marks_of}
use Rattle.or_sched.specs.BlockRests.{behind_of}
use Rattle.or_sched.specs.Ended.{Passed, PlaceAt, ended_in}
use Rattle.or_sched.specs.Places.{Completes, IsSound, AreLimits, StepKeeps, StepRefuses, IsNumberBelow}
use Rattle.or_sched.specs.Recording.{IsRecording1, IsRecording2, IsRecording, Begins, FaultAt, Ended, AreEnded, line_feeds}
use Rattle.or_sched.specs.Reading.{HeadRead, HasReached, BodyRead, HeadIs, head_of, limits_of, first_of, first_block_of}
use Rattle.or_sched.proofs.EndedLemmas.{Counted, are_ended, passed_more, passed_then}
use Rattle.or_sched.proofs.Lengths.{text_length}
use Rattle.or_sched.proofs.Witness.{completion, Completion}
use Rattle.or_sched.proofs.PlaceLemmas.{behind_whole, behind_part}
use Rattle.or_sched.proofs.HeadReading.{line_feeds_append, head_short}
use Rattle.or_sched.proofs.Wholes.{Behind1, Behind2, behind1, behind2, recording_of, head_text_of, are_limits, first1, first2}

-- nothing is read yet
pub reached_none : (limits : Limits) (start : Place) → IsSound limits start → PlaceAt start 16 0 → HasReached limits (Completes limits start) [] [] start
reached_none limits start sound at =
    let keeps : (rest : List ℕ) (decoded : List Item) → Completes limits start ([] ++ rest) decoded → (others : List Item) × (decoded ≡ [] ++ others) × Completes limits start rest others =
    λ rest decoded r. (decoded, refl, r) in
    record {
      keeps = keeps;
      back = λ rest others r. r;
      room = 16;
      behind = 0;
      passed = (refl, refl);
      place_at = at;
      ended = are_ended limits (Completes limits start) [] [] start 16 0 sound keeps (refl, refl) at;
    }

module _ (limits : Limits) (IsText : List ℕ → List Item → Type 0) where
  pub reached_moves : (bytes : List ℕ) (ended decoded : List Item) (byte : ℕ) (place next : Place) → IsSound limits next
      → HasReached limits IsText bytes ended place → StepKeeps limits place byte decoded next → ((room n : ℕ) → PlaceAt place room n → Counted decoded next room n)
      → HasReached limits IsText (bytes ++ byte ∷ []) (ended ++ decoded) next
  reached_moves bytes ended decoded byte place next sound has moves counts =
      let counted : Counted decoded next has.room has.behind = counts has.room has.behind has.place_at in
      let long : length bytes + 1 ≡ length (bytes ++ byte ∷ []) = omega (arith, length-append bytes (byte ∷ [])) in
      let passed : Passed 16 (length (bytes ++ byte ∷ [])) (ended ++ decoded) counted.room_next counted.behind =
      subst (λ k. Passed 16 k (ended ++ decoded) counted.room_next counted.behind) long
      (passed_then ended decoded 16 (length bytes + 1) has.room (has.behind + 1) counted.room_next counted.behind
      (passed_more ended 16 (length bytes) has.room has.behind has.passed) counted.passed) in
      let keeps : (rest : List ℕ) (all : List Item) → IsText ((bytes ++ byte ∷ []) ++ rest) all → (others : List Item) × (all ≡ (ended ++ decoded) ++ others) × Completes limits next rest others =
      λ rest all text.
      let one : (others : List Item) × (all ≡ ended ++ others) × Completes limits place (byte ∷ rest) others =
      has.keeps (byte ∷ rest) all (subst (λ t. IsText t all) (append_assoc bytes (byte ∷ []) rest) text) in
      let two : (others : List Item) × (one.0 ≡ decoded ++ others) × Completes limits next rest others = moves.keeps rest one.0 one.2 in
      (two.0, one.1 ∙ ap (λ t. ended ++ t) two.1 ∙ sym (append_assoc ended decoded two.0), two.2) in
      record {
        keeps = keeps;
        back = λ rest others r.
            let text : IsText (bytes ++ byte ∷ rest) (ended ++ (decoded ++ others)) = has.back (byte ∷ rest) (decoded ++ others) (moves.back rest others r) in
            subst (λ t. IsText t ((ended ++ decoded) ++ others)) (sym (append_assoc bytes (byte ∷ []) rest))
            (subst (λ t. IsText (bytes ++ byte ∷ rest) t) (sym (append_assoc ended decoded others)) text);
        ended = are_ended limits IsText (bytes ++ byte ∷ []) (ended ++ decoded) next counted.room_next counted.behind sound keeps passed counted.place_at;
        room = counted.room_next;
        behind = counted.behind;
        passed = passed;
        place_at = counted.place_at;
      }

behind_below : (limits : Limits) (total : ℕ) → total ≤ limits.turns → IsNumberBelow (behind_of limits total) limits.turns
behind_below limits total fits = go (cases_lt total limits.block)
  where
    go : (total < limits.block) ⊎ (limits.block ≤ total) → IsNumberBelow (behind_of limits total) limits.turns
    go (inl lt) = subst (λ o. IsNumberBelow o limits.turns) (sym (behind_part limits total lt)) tt
    go (inr le) = subst (λ o. IsNumberBelow o limits.turns) (sym (behind_whole limits total le)) (omega arith)

pub first_sound : (known : Known) → KnownFits known → IsSound (limits_of known) (first_of known)
first_sound known fits = go fits.version
  where
    some : 1 ≤ known.cores * known.budget
    some = omega (arith, mul-le-mul fits.cores.0 fits.budget.0)

    go : (known.version ≡ 1) ⊎ (known.version ≡ 2) → IsSound (limits_of known) (first_of known)
    go (inl one) = subst (IsSound (limits_of known)) (sym (first1 known one)) (some, (omega arith, tt))
    go (inr two) = subst (IsSound (limits_of known)) (sym (first2 known two))
        (omega (arith, some), (omega arith, behind_below (limits_of known) (limits_of known).turns (omega arith)))

fits_of : (known : Known) (front : List ℕ) → HeadRead front known Behind → KnownFits known
fits_of known front read = (head_text_of known front [] read).fits

-- the first place behind the head
pub body_none : (known : Known) (count : ℕ) (front : List ℕ) → HeadRead front known Behind → count ≡ length front
    → BodyRead (Some (head_of known)) (limits_of known) (first_of known) count front [] []
body_none known count front read is = record {
  known = known;
  front = front;
  body = [];
  decoded = [];
  parts = sym (append-nil front);
  heading = read;
  is_head = refl;
  is_limits = refl;
  reached = reached_none (limits_of known) (first_of known) (first_sound known (fits_of known front read)) (refl, refl);
  is_count = is;
  turns_are = refl;
  marks_are = refl;
}

pub turns_of_append : (a b : List Item) → turns_of (a ++ b) ≡ turns_of a ++ turns_of b
turns_of_append [] b = refl
turns_of_append (inl run ∷ a) b =
    ap (λ t. replicate run.1 run.0 ++ t) (turns_of_append a b) ∙ sym (append_assoc (replicate run.1 run.0) (turns_of a) (turns_of b))
turns_of_append (inr mark ∷ a) b = turns_of_append a b

pub marks_of_append : (a b : List Item) → marks_of (a ++ b) ≡ marks_of a ++ marks_of b
marks_of_append [] b = refl
marks_of_append (inl run ∷ a) b = marks_of_append a b
marks_of_append (inr mark ∷ a) b = ap (λ t. mark ∷ t) (marks_of_append a b)

module _ (head : Option Head) (limits : Limits) (place : Place) (count : ℕ) (bytes turns : List ℕ) (marks : List Mark)
    (read : BodyRead head limits place count bytes turns marks) (sound : IsSound limits place) where
  limits_are : AreLimits limits
  limits_are = subst AreLimits (sym read.is_limits) (are_limits read.known (fits_of read.known read.front read.heading))

  -- what goes on from the place is a recording's
  pub whole_of : (rest : List ℕ) (others : List Item) → Completes limits place rest others
      → IsRecording (bytes ++ rest) (head_of read.known) (turns_of (read.decoded ++ others)) (marks_of (read.decoded ++ others))
  whole_of rest others c =
      let text : Completes limits (first_of read.known) (read.body ++ rest) (read.decoded ++ others) = read.reached.back rest others c in
      let all : IsRecording (read.front ++ (read.body ++ rest)) (head_of read.known) (turns_of (read.decoded ++ others)) (marks_of (read.decoded ++ others)) =
      recording_of read.known read.front (read.body ++ rest) (read.decoded ++ others) read.heading
      (subst (λ l. Completes l (first_of read.known) (read.body ++ rest) (read.decoded ++ others)) read.is_limits text) in
      subst (λ t. IsRecording t (head_of read.known) (turns_of (read.decoded ++ others)) (marks_of (read.decoded ++ others)))
      (sym (append_assoc read.front read.body rest) ∙ ap (λ t. t ++ rest) (sym read.parts)) all

  pub body_begins : Begins bytes
  body_begins =
      let w : Completion limits place = completion limits place limits_are sound in
      record {
        rest = w.rest;
        head = head_of read.known;
        turns = turns_of (read.decoded ++ w.decoded);
        marks = marks_of (read.decoded ++ w.decoded);
        is = whole_of w.rest w.decoded w.rests;
      }

  moved : (rest : List ℕ) → bytes ++ rest ≡ read.front ++ (read.body ++ rest)
  moved rest = ap (λ t. t ++ rest) read.parts ∙ append_assoc read.front read.body rest

  -- each recording that begins so goes on from the place
  pub goes_on1 : (rest : List ℕ) (other : Head) (all : List ℕ) → IsRecording1 (bytes ++ rest) other all
      → Behind1 read.known read.front (read.body ++ rest) other all
  goes_on1 rest other all is = behind1 read.known read.front (read.body ++ rest) other all read.heading (subst (λ t. IsRecording1 t other all) (moved rest) is)

  pub goes_on2 : (rest : List ℕ) (other : Head) (all : List ℕ) (all_marks : List Mark) → IsRecording2 (bytes ++ rest) other all all_marks
      → Behind2 read.known read.front (read.body ++ rest) other all all_marks
  goes_on2 rest other all all_marks is =
      behind2 read.known read.front (read.body ++ rest) other all all_marks read.heading (subst (λ t. IsRecording2 t other all all_marks) (moved rest) is)

  pub on_from : (rest : List ℕ) (items : List Item) → Completes (limits_of read.known) (first_of read.known) (read.body ++ rest) items
      → (others : List Item) × (items ≡ read.decoded ++ others) × Completes limits place rest others
  on_from rest items c =
      read.reached.keeps rest items (subst (λ l. Completes l (first_of read.known) (read.body ++ rest) items) (sym read.is_limits) c)

  pub body_fault : (byte : ℕ) → StepRefuses limits place byte → FaultAt (bytes ++ byte ∷ []) (length bytes)
  body_fault byte refused = record {
    within = omega (arith, length-append bytes (byte ∷ []));
    before = subst Begins (sym (take_at bytes (byte ∷ []) (length bytes) refl)) body_begins;
    here = λ b. here (subst Begins (take_all (length bytes + 1) (bytes ++ byte ∷ []) (omega (arith, length-append bytes (byte ∷ [])))) b);
  }
    where
      no_text : (rest : List ℕ) (items : List Item) → Completes (limits_of read.known) (first_of read.known) (read.body ++ byte ∷ rest) items → ⊥
      no_text rest items c = refused rest (on_from (byte ∷ rest) items c).0 (on_from (byte ∷ rest) items c).2

      none : (rest : List ℕ) (other : Head) (all : List ℕ) (all_marks : List Mark) → IsRecording (bytes ++ byte ∷ rest) other all all_marks → ⊥
      none rest other all all_marks (inl is) = no_text rest (map run_item (runs all)) (goes_on1 (byte ∷ rest) other all is.0).completes
      none rest other all all_marks (inr is) = no_text rest (blocks_items 65536 all_marks all) (goes_on2 (byte ∷ rest) other all all_marks is).completes

      here : Begins (bytes ++ byte ∷ []) → ⊥
      here b = none b.rest b.head b.turns b.marks (subst (λ t. IsRecording t b.head b.turns b.marks) (append_assoc bytes (byte ∷ []) b.rest) b.is)

  ended_as : (rest : List ℕ) (items : List Item) (head_length : ℕ) → length read.front ≡ head_length
      → Completes (limits_of read.known) (first_of read.known) (read.body ++ rest) items → AreEnded (length bytes - head_length) items turns marks
  ended_as rest items head_length long c =
      let same : length bytes - head_length ≡ length read.body = omega (arith, ap length read.parts, length-append read.front read.body) in
      let items_are : ended_in 16 (length read.body) items ≡ read.decoded =
      read.reached.ended rest items (subst (λ l. Completes l (first_of read.known) (read.body ++ rest) items) (sym read.is_limits) c) in
      subst (λ k. AreEnded k items turns marks) (sym same) (record {
        turns_are = read.turns_are ∙ ap turns_of (sym items_are);
        marks_are = read.marks_are ∙ ap marks_of (sym items_are);
      })

  pub body_ended : Ended bytes turns marks
  body_ended = record {
    version1 = λ rest other all is. ended_as rest (map run_item (runs all)) (length (head_text1 other)) (goes_on1 rest other all is).long (goes_on1 rest other all is).completes;
    version2 = λ rest other all all_marks is. ended_as rest (blocks_items 65536 all_marks all) (length (head_text2 other)) (goes_on2 rest other all all_marks is).long (goes_on2 rest other all all_marks is).completes;
  }

  -- the head is that of each recording that begins so
  one_head : (rest : List ℕ) (other : Head) (all : List ℕ) (all_marks : List Mark) → IsRecording (bytes ++ rest) other all all_marks → other ≡ head_of read.known
  one_head rest other all all_marks (inl is) = (goes_on1 rest other all is.0).head_is
  one_head rest other all all_marks (inr is) = (goes_on2 rest other all all_marks is).head_is

  pub body_lines : 4 ≤ line_feeds bytes
  body_lines = omega (arith, read.heading.lines, ap line_feeds read.parts, line_feeds_append read.front read.body)

  pub body_head : HeadIs head bytes
  body_head = subst (λ h. HeadIs h bytes) (sym read.is_head) (body_lines, one_head)

  -- the text so far is short, so the count doesn't wrap
  pub body_short : length bytes < 2 ^ 50
  body_short =
      let w : Completion limits place = completion limits place limits_are sound in
      let text : Completes limits (first_of read.known) (read.body ++ w.rest) (read.decoded ++ w.decoded) = read.reached.back w.rest w.decoded w.rests in
      let fits : KnownFits read.known = fits_of read.known read.front read.heading in
      let long : length (read.body ++ w.rest) < 2 ^ 40 =
      text_length limits (first_block_of read.known.version (read.known.cores * read.known.budget)) (read.body ++ w.rest) (read.decoded ++ w.decoded) limits_are
      (subst (λ l. IsSound l (first_of read.known)) (sym read.is_limits) (first_sound read.known fits)) text in
      omega (arith, long, head_short read.front read.known Behind read.heading tt, ap length read.parts, length-append read.front read.body, length-append read.body w.rest)

  pub body_moves : (byte after : ℕ) (decoded : List Item) (next : Place) → after ≡ (count + 1) % 2 ^ 64 → IsSound limits next
      → StepKeeps limits place byte decoded next → ((room n : ℕ) → PlaceAt place room n → Counted decoded next room n)
      → BodyRead head limits next after (bytes ++ byte ∷ []) (turns ++ turns_of decoded) (marks ++ marks_of decoded)
  body_moves byte after decoded next is_after next_sound keeps counts = record {
    known = read.known;
    front = read.front;
    body = read.body ++ byte ∷ [];
    decoded = read.decoded ++ decoded;
    parts = ap (λ t. t ++ byte ∷ []) read.parts ∙ append_assoc read.front read.body (byte ∷ []);
    heading = read.heading;
    is_head = read.is_head;
    is_limits = read.is_limits;
    reached = reached_moves limits (Completes limits (first_of read.known)) read.body read.decoded decoded byte place next next_sound read.reached keeps counts;
    is_count = omega (arith, is_after, read.is_count, body_short, length-append bytes (byte ∷ []));
    turns_are = ap (λ t. t ++ turns_of decoded) read.turns_are ∙ sym (turns_of_append read.decoded decoded);
    marks_are = ap (λ t. t ++ marks_of decoded) read.marks_are ∙ sym (marks_of_append read.decoded decoded);
  }
