-- What a byte, or a piece, makes of what a reader has read.
use Rattle.std.proofs.Common.{◌≡◌, ◌∙◌, sym, ap, subst, ℕ, List, ◌++◌, ◌∷◌, [], ◌+◌, ◌%◌, ◌^◌, ◌≤◌, ◌<◌, append_assoc, append-nil, arith, refl, length, length-append, Option, Some, take}
use Rattle.std.proofs.lemmas.List.{take_at, take-append-le}
use Rattle.or_sched.specs.declared.recording.Head.{Head}
use Rattle.or_sched.specs.declared.recording.Mark.{Mark}
use Rattle.or_sched.specs.declared.recording.RecFault.{RecFault}
use Rattle.or_sched.specs.declared.recording.RecFault.TheVariants.{BadHead, BadRun, Short, NoMemory}
use Rattle.or_sched.specs.declared.head.Known.{Known}
use Rattle.or_sched.specs.declared.head.HeadPlace.TheVariants.{Behind}
use Rattle.or_sched.specs.declared.places.Limits.{Limits}
use Rattle.or_sched.specs.declared.places.Place.{Place}
use Rattle.or_sched.specs.declared.state.Heading.{Heading}
use Rattle.or_sched.specs.declared.state.Body.{Body}
use Rattle.or_sched.specs.declared.state.State.{State}
use Rattle.or_sched.specs.declared.state.State.TheVariants.{Head as HeadState, Body as BodyState, Failed}
use Rattle.or_sched.specs.declared.reader.Reader.{Reader}
use Rattle.or_sched.specs.Blocks.{Item, turns_of, marks_of}
use Rattle.or_sched.specs.Ended.{PlaceAt}
use Rattle.or_sched.specs.Places.{IsSound, StepKeeps, StepRefuses}
use Rattle.or_sched.specs.HeadPlaces.{HeadCompletes, HeadStepKeeps, AreDigests, line_of, feed}
use Rattle.or_sched.specs.Recording.{FaultAt, Ended, line_feeds, fault_name}
use Rattle.or_sched.specs.Reading.{HeadIs, HeadingRead, BodyRead, FaultRead, IsFront, StateRead, HasRead, HasFailed, Fed, IsAt, head_of, limits_of, first_of}
use Rattle.or_sched.proofs.EndedLemmas.{Counted}
use Rattle.or_sched.proofs.Faults.{one_fault, fault_more, name_head, name_run}
use Rattle.or_sched.proofs.HeadReading.{head_read_moves, head_fault, head_ended, few_lines, head_short}
use Rattle.or_sched.proofs.BodyReading.{body_none, body_begins, body_fault, body_ended, body_lines, body_head, body_moves}

module _ (head : Option Head) (heading : Heading) (byte : ℕ) (bytes turns : List ℕ) (marks : List Mark) (read : HeadingRead head heading bytes turns marks) where
  next_count : (count : ℕ) → count ≡ (heading.count + 1) % 2 ^ 64 → count ≡ length (bytes ++ byte ∷ [])
  next_count count is =
      omega (arith, is, read.is_count, head_short bytes heading.known heading.place read.read heading.sound, length-append bytes (byte ∷ []))

  pub heading_moves : (next : Heading) → (AreDigests heading.known → HeadStepKeeps heading.known heading.place byte next.known next.place × AreDigests next.known)
      → line_of next.place ≡ line_of heading.place + feed byte → next.count ≡ (heading.count + 1) % 2 ^ 64 → HeadingRead head next (bytes ++ byte ∷ []) turns marks
  heading_moves next step lines is = record {
    read = head_read_moves bytes heading.known next.known heading.place next.place byte read.read (step read.read.digests).0 (step read.read.digests).1 lines;
    is_count = next_count next.count is;
    no_head = read.no_head;
    no_turns = read.no_turns;
    no_marks = read.no_marks;
  }

  pub heading_ends : (known : Known) (count : ℕ) → (AreDigests heading.known → HeadStepKeeps heading.known heading.place byte known Behind × AreDigests known)
      → line_of Behind ≡ line_of heading.place + feed byte → count ≡ (heading.count + 1) % 2 ^ 64
      → BodyRead (Some (head_of known)) (limits_of known) (first_of known) count (bytes ++ byte ∷ []) turns marks
  heading_ends known count step lines is =
      subst (λ t. BodyRead (Some (head_of known)) (limits_of known) (first_of known) count (bytes ++ byte ∷ []) t marks) (sym read.no_turns)
      (subst (λ m. BodyRead (Some (head_of known)) (limits_of known) (first_of known) count (bytes ++ byte ∷ []) [] m) (sym read.no_marks)
      (body_none known count (bytes ++ byte ∷ [])
      (head_read_moves bytes heading.known known heading.place Behind byte read.read (step read.read.digests).0 (step read.read.digests).1 lines) (next_count count is)))

  pub heading_refused : (line : ℕ) → line ≡ line_of heading.place
      → (AreDigests heading.known → (final : Known) (end rest : List ℕ) → HeadCompletes final end heading.known heading.place (byte ∷ rest) → ⊥)
      → StateRead head (Failed (BadHead line)) (bytes ++ byte ∷ []) turns marks
  heading_refused line is_line refused =
      let fault : FaultAt (bytes ++ byte ∷ []) (length bytes) = head_fault bytes heading.known heading.place byte read.read heading.sound (refused read.read.digests) in
      let front : take (length bytes) (bytes ++ byte ∷ []) ≡ bytes = take_at bytes (byte ∷ []) (length bytes) refl in
      let few : line_feeds bytes < 4 = few_lines bytes heading.known heading.place read.read heading.more in
      let same : line ≡ line_feeds bytes + 1 = omega (arith, is_line, read.read.lines) in
      let none : HeadIs head bytes = subst (λ h. HeadIs h bytes) (sym read.no_head) few in (
        record {
          place = length bytes;
          is = fault;
          name = ap BadHead same ∙ sym (name_head bytes few) ∙ sym (ap fault_name front);
          ended = subst (λ f. Ended f turns marks) (sym front)
              (subst (λ t. Ended bytes t marks) (sym read.no_turns) (subst (λ m. Ended bytes [] m) (sym read.no_marks) (head_ended bytes heading.known heading.place read.read)));
        },
        λ place other. subst (λ p. HeadIs head (take p (bytes ++ byte ∷ []))) (one_fault (bytes ++ byte ∷ []) (length bytes) place fault other)
            (subst (HeadIs head) (sym front) none),
      )

module _ (head : Option Head) (body : Body) (byte : ℕ) (bytes turns : List ℕ) (marks : List Mark)
    (read : BodyRead head body.limits body.place body.count bytes turns marks) where
  pub body_refused : StepRefuses body.limits body.place byte → StateRead head (Failed (BadRun body.count)) (bytes ++ byte ∷ []) turns marks
  body_refused refused =
      let fault : FaultAt (bytes ++ byte ∷ []) (length bytes) = body_fault head body.limits body.place body.count bytes turns marks read body.sound byte refused in
      let front : take (length bytes) (bytes ++ byte ∷ []) ≡ bytes = take_at bytes (byte ∷ []) (length bytes) refl in
      let many : 4 ≤ line_feeds bytes = body_lines head body.limits body.place body.count bytes turns marks read body.sound in (
        record {
          place = length bytes;
          is = fault;
          name = ap BadRun read.is_count ∙ sym (name_run bytes many) ∙ sym (ap fault_name front);
          ended = subst (λ f. Ended f turns marks) (sym front) (body_ended head body.limits body.place body.count bytes turns marks read body.sound);
        },
        λ place other. subst (λ p. HeadIs head (take p (bytes ++ byte ∷ []))) (one_fault (bytes ++ byte ∷ []) (length bytes) place fault other)
            (subst (HeadIs head) (sym front) (body_head head body.limits body.place body.count bytes turns marks read body.sound)),
      )

-- memory ran out where these turns and marks ended
pub part_of : (head : Option Head) (limits : Limits) (place : Place) (count : ℕ) (bytes turns part : List ℕ) (marks some : List Mark)
    → BodyRead head limits place count bytes turns marks → IsSound limits place → IsFront part turns → IsFront some marks
    → StateRead head (Failed NoMemory) bytes part some
part_of head limits place count bytes turns part marks some read sound turns_front marks_front = (
  record {
    front = bytes;
    is_front = record { rest = []; parts = sym (append-nil bytes) };
    begins = body_begins head limits place count bytes turns marks read sound;
    all_turns = turns;
    all_marks = marks;
    ended = body_ended head limits place count bytes turns marks read sound;
    turns_are = turns_front;
    marks_are = marks_front;
  },
  record {
    front = bytes;
    is_front = record { rest = []; parts = sym (append-nil bytes) };
    begins = body_begins head limits place count bytes turns marks read sound;
    head_is = body_head head limits place count bytes turns marks read sound;
    lines = body_lines head limits place count bytes turns marks read sound;
  },
)

pub at_read : (head : Option Head) (state : State) (limits : Limits) (place : Place) (count : ℕ) (bytes turns : List ℕ) (marks : List Mark)
    → IsAt state limits place count → BodyRead head limits place count bytes turns marks → StateRead head state bytes turns marks
at_read head (HeadState heading) limits place count bytes turns marks at read = absurd at
at_read head (BodyState body) limits place count bytes turns marks at read =
    subst (λ l. BodyRead head l body.place body.count bytes turns marks) (sym at.0)
    (subst (λ p. BodyRead head limits p body.count bytes turns marks) (sym at.1) (subst (λ c. BodyRead head limits place c bytes turns marks) (sym at.2) read))
at_read head (Failed fault) limits place count bytes turns marks at read = absurd at

-- after a failure nothing changes
front_more : (A : Type 0) (front bytes more : List A) → IsFront front bytes → IsFront front (bytes ++ more)
front_more A front bytes more is = record { rest = is.rest ++ more; parts = ap (λ t. t ++ more) is.parts ∙ append_assoc front is.rest more }

fault_read_more : (fault : RecFault) (bytes more turns : List ℕ) (marks : List Mark) → FaultRead fault bytes turns marks → FaultRead fault (bytes ++ more) turns marks
fault_read_more fault bytes more turns marks read =
    let same : take read.place (bytes ++ more) ≡ take read.place bytes = take-append-le read.place bytes more (omega (arith, read.is.within)) in
    record {
      place = read.place;
      is = fault_more bytes more read.place read.is;
      name = read.name ∙ sym (ap fault_name same);
      ended = subst (λ f. Ended f turns marks) (sym same) read.ended;
    }

fault_head_more : (head : Option Head) (bytes more : List ℕ) (place : ℕ) → FaultAt bytes place → ((p : ℕ) → FaultAt bytes p → HeadIs head (take p bytes))
    → (p : ℕ) → FaultAt (bytes ++ more) p → HeadIs head (take p (bytes ++ more))
fault_head_more head bytes more place fault is p other =
    let same : place ≡ p = one_fault (bytes ++ more) place p (fault_more bytes more place fault) other in
    subst (λ q. HeadIs head (take q (bytes ++ more))) same
    (subst (HeadIs head) (sym (take-append-le place bytes more (omega (arith, fault.within)))) (is place fault))

pub failed_more : (head : Option Head) (fault : RecFault) (bytes more turns : List ℕ) (marks : List Mark)
    → StateRead head (Failed fault) bytes turns marks → StateRead head (Failed fault) (bytes ++ more) turns marks
failed_more head (BadHead line) bytes more turns marks read =
    (fault_read_more (BadHead line) bytes more turns marks read.0, fault_head_more head bytes more read.0.place read.0.is read.1)
failed_more head (BadRun at) bytes more turns marks read =
    (fault_read_more (BadRun at) bytes more turns marks read.0, fault_head_more head bytes more read.0.place read.0.is read.1)
failed_more head Short bytes more turns marks read = absurd read.0
failed_more head NoMemory bytes more turns marks read = (
  record {
    front = read.0.front;
    is_front = front_more ℕ read.0.front bytes more read.0.is_front;
    begins = read.0.begins;
    all_turns = read.0.all_turns;
    all_marks = read.0.all_marks;
    ended = read.0.ended;
    turns_are = read.0.turns_are;
    marks_are = read.0.marks_are;
  },
  record {
    front = read.1.front;
    is_front = front_more ℕ read.1.front bytes more read.1.is_front;
    begins = read.1.begins;
    head_is = read.1.head_is;
    lines = read.1.lines;
  },
)

-- a reader that appended nothing
pub fed_same : (old new : Reader) (bytes out : List ℕ) (marks : List Mark)
    → ((front before : List ℕ) (marks_before : List Mark) → HasRead old front before marks_before → HasRead new (front ++ bytes) before marks_before)
    → Fed old new bytes out out marks marks
fed_same old new bytes out marks reads = record {
  turns = [];
  marks = [];
  turns_are = sym (append-nil out);
  marks_are = sym (append-nil marks);
  reads = λ front before marks_before r.
      subst (λ t. HasRead new (front ++ bytes) t (marks_before ++ [])) (sym (append-nil before))
      (subst (λ m. HasRead new (front ++ bytes) before m) (sym (append-nil marks_before)) (reads front before marks_before r));
}

pub fed_failed : (reader : Reader) (fault : RecFault) (bytes out : List ℕ) (marks : List Mark) → HasFailed reader fault → Fed reader reader bytes out out marks marks
fed_failed reader fault bytes out marks is = fed_same reader reader bytes out marks (λ front before marks_before r.
    subst (λ s. StateRead reader.head s (front ++ bytes) before marks_before) (sym is)
    (failed_more reader.head fault front bytes before marks_before (subst (λ s. StateRead reader.head s front before marks_before) is r)))

pub fed_none : (reader : Reader) (out : List ℕ) (marks : List Mark) → Fed reader reader [] out out marks marks
fed_none reader out marks = fed_same reader reader [] out marks (λ front before marks_before r.
    subst (λ b. HasRead reader b before marks_before) (sym (append-nil front)) r)

pub fed_then : (a b c : Reader) (xs ys : List ℕ) (out_a out_b out_c : List ℕ) (marks_a marks_b marks_c : List Mark)
    → Fed a b xs out_a out_b marks_a marks_b → Fed b c ys out_b out_c marks_b marks_c → Fed a c (xs ++ ys) out_a out_c marks_a marks_c
fed_then a b c xs ys out_a out_b out_c marks_a marks_b marks_c one two = record {
  turns = one.turns ++ two.turns;
  marks = one.marks ++ two.marks;
  turns_are = two.turns_are ∙ ap (λ t. t ++ two.turns) one.turns_are ∙ append_assoc out_a one.turns two.turns;
  marks_are = two.marks_are ∙ ap (λ t. t ++ two.marks) one.marks_are ∙ append_assoc marks_a one.marks two.marks;
  reads = λ front before marks_before r.
      let all : HasRead c ((front ++ xs) ++ ys) ((before ++ one.turns) ++ two.turns) ((marks_before ++ one.marks) ++ two.marks) =
      two.reads (front ++ xs) (before ++ one.turns) (marks_before ++ one.marks) (one.reads front before marks_before r) in
      subst (λ t. HasRead c t (before ++ (one.turns ++ two.turns)) (marks_before ++ (one.marks ++ two.marks))) (append_assoc front xs ys)
      (subst (λ t. HasRead c ((front ++ xs) ++ ys) t (marks_before ++ (one.marks ++ two.marks))) (append_assoc before one.turns two.turns)
      (subst (λ m. HasRead c ((front ++ xs) ++ ys) ((before ++ one.turns) ++ two.turns) m) (append_assoc marks_before one.marks two.marks) all));
}

-- after a failure the rest of the piece changes nothing
pub fed_stopped : (a b : Reader) (fault : RecFault) (xs ys whole : List ℕ) (out_a out_b : List ℕ) (marks_a marks_b : List Mark) → HasFailed b fault → xs ++ ys ≡ whole
    → Fed a b xs out_a out_b marks_a marks_b → Fed a b whole out_a out_b marks_a marks_b
fed_stopped a b fault xs ys whole out_a out_b marks_a marks_b is all one =
    subst (λ w. Fed a b w out_a out_b marks_a marks_b) all
    (fed_then a b b xs ys out_a out_b out_b marks_a marks_b marks_b one (fed_failed b fault ys out_b marks_b is))

-- a step behind the head
module _ (old new : Reader) (body : Body) (byte : ℕ) (is : old.state ≡ BodyState body) (head : new.head ≡ old.head) (decoded : List Item) (next : Place)
    (sound : IsSound body.limits next) (keeps : StepKeeps body.limits body.place byte decoded next)
    (counts : (room n : ℕ) → PlaceAt body.place room n → Counted decoded next room n) where
  moved : (front before : List ℕ) (marks_before : List Mark) → HasRead old front before marks_before
      → BodyRead new.head body.limits next ((body.count + 1) % 2 ^ 64) (front ++ byte ∷ []) (before ++ turns_of decoded) (marks_before ++ marks_of decoded)
  moved front before marks_before r =
      let b : BodyRead old.head body.limits body.place body.count front before marks_before = subst (λ s. StateRead old.head s front before marks_before) is r in
      subst (λ h. BodyRead h body.limits next ((body.count + 1) % 2 ^ 64) (front ++ byte ∷ []) (before ++ turns_of decoded) (marks_before ++ marks_of decoded)) (sym head)
      (body_moves old.head body.limits body.place body.count front before marks_before b body.sound byte ((body.count + 1) % 2 ^ 64) decoded next refl sound keeps counts)

  pub fed_moves : (out_old out_new : List ℕ) (marks_old marks_new : List Mark) → IsAt new.state body.limits next ((body.count + 1) % 2 ^ 64)
      → out_new ≡ out_old ++ turns_of decoded → marks_new ≡ marks_old ++ marks_of decoded → Fed old new (byte ∷ []) out_old out_new marks_old marks_new
  fed_moves out_old out_new marks_old marks_new at turns marks = record {
    turns = turns_of decoded;
    marks = marks_of decoded;
    turns_are = turns;
    marks_are = marks;
    reads = λ front before marks_before r.
        at_read new.head new.state body.limits next ((body.count + 1) % 2 ^ 64) (front ++ byte ∷ []) (before ++ turns_of decoded) (marks_before ++ marks_of decoded) at
        (moved front before marks_before r);
  }

  -- where memory runs out, a part of them is appended
  pub fed_part : (out_old out_new part : List ℕ) (marks_old : List Mark) → HasFailed new NoMemory → out_new ≡ out_old ++ part → IsFront part (turns_of decoded)
      → Fed old new (byte ∷ []) out_old out_new marks_old marks_old
  fed_part out_old out_new part marks_old failed turns front_of = record {
    turns = part;
    marks = [];
    turns_are = turns;
    marks_are = sym (append-nil marks_old);
    reads = λ front before marks_before r.
        subst (λ s. StateRead new.head s (front ++ byte ∷ []) (before ++ part) (marks_before ++ [])) (sym failed)
        (part_of new.head body.limits next ((body.count + 1) % 2 ^ 64) (front ++ byte ∷ []) (before ++ turns_of decoded) (before ++ part) (marks_before ++ marks_of decoded) (marks_before ++ [])
        (moved front before marks_before r) sound
        (record { rest = front_of.rest; parts = ap (λ t. before ++ t) front_of.parts ∙ sym (append_assoc before part front_of.rest) })
        (record { rest = marks_of decoded; parts = ap (λ m. m ++ marks_of decoded) (sym (append-nil marks_before)) }));
  }
