-- What a reader has read.
use Rattle.std.specs.Prelude.{◌≡◌, ℕ, ◌+◌, ◌-◌, ◌*◌, ◌≤◌, ◌<◌, ◌==◌, List, [], ◌∷◌, ◌++◌, take, length, Option, Some, None, min, if◌then◌else◌, Result, Ok, Err, nat_le}
use Rattle.or_words.specs.declared.limits.TheConstants.{BLOCK}
use Rattle.or_sched.specs.declared.recording.Head.{Head}
use Rattle.or_sched.specs.declared.recording.Mark.{Mark}
use Rattle.or_sched.specs.declared.head.Known.{Known}
use Rattle.or_sched.specs.declared.places.Limits.{Limits}
use Rattle.or_sched.specs.declared.places.Block.{Block}
use Rattle.or_sched.specs.declared.places.Place.{Place}
use Rattle.or_sched.specs.declared.places.Place.TheVariants.{First}
use Rattle.or_sched.specs.declared.state.State.{State}
use Rattle.or_sched.specs.declared.state.State.TheVariants.{Head as HeadState, Body as BodyState, Failed}
use Rattle.or_sched.specs.declared.head.HeadPlace.{HeadPlace}
use Rattle.or_sched.specs.declared.head.HeadPlace.TheVariants.{Behind}
use Rattle.or_sched.specs.declared.state.Heading.{Heading}
use Rattle.or_sched.specs.declared.reader.Reader.{Reader}
use Rattle.or_sched.specs.declared.recording.RecFault.{RecFault}
use Rattle.or_sched.specs.declared.recording.RecFault.TheVariants.{BadHead, BadRun, Short, NoMemory}
use Rattle.or_sched.specs.Blocks.{Item, turns_of, marks_of}
use Rattle.or_sched.specs.Places.{Completes}
use Rattle.or_sched.specs.Ended.{EndedItems, Passed, PlaceAt}
use Rattle.or_sched.specs.HeadPlaces.{HeadCompletes, AreDigests, line_of}
use Rattle.or_sched.specs.HeadLines.{IsHeadText}
use Rattle.or_sched.specs.Recording.{IsRecording, Begins, FaultAt, Ended, line_feeds, fault_name}

-- the head that the lines said
abbrev pub head_of : Known → Head
head_of known = record {
  config = record { cores = known.cores; budget = known.budget; ram = known.ram; latched = known.latched };
  image = known.image;
  input = known.input;
}

abbrev pub limits_of : Known → Limits
limits_of known = record { cores = known.cores; turns = known.cores * known.budget; block = BLOCK }

-- in version 1 all turns are one block, and no mark stands behind it
abbrev pub first_block_of : ℕ → ℕ → Block
first_block_of version turns =
    if version == 1 then record { left = turns; behind = None }
    else record { left = min turns BLOCK; behind = if nat_le BLOCK turns then Some (turns - BLOCK) else None }

abbrev pub first_of : Known → Place
first_of known = First (first_block_of known.version (known.cores * known.budget))

-- the state is behind the head, at this place
abbrev pub IsAt : State → Limits → Place → ℕ → Type 0
IsAt (HeadState heading) limits place count = ⊥
IsAt (BodyState body) limits place count = (body.limits ≡ limits) × (body.place ≡ place) × (body.count ≡ count)
IsAt (Failed fault) limits place count = ⊥

-- Behind these bytes of a head its text goes on as from the place, and so much is known.
pub record HeadRead (bytes : List ℕ) (known : Known) (place : HeadPlace) : Type 0 where
  pub keeps : (final : Known) (end rest : List ℕ) → IsHeadText final end (bytes ++ rest) → HeadCompletes final end known place rest
  pub back : (final : Known) (end rest : List ℕ) → HeadCompletes final end known place rest → IsHeadText final end (bytes ++ rest)
  pub lines : line_feeds bytes + 1 ≡ line_of place
  pub digests : AreDigests known

-- Behind these bytes of a text behind the head it goes on as from the place; these runs and marks have ended, and no others.
pub record HasReached (limits : Limits) (IsText : List ℕ → List Item → Type 0) (bytes : List ℕ) (ended_items : List Item) (place : Place) : Type 0 where
  pub keeps : (rest : List ℕ) (decoded : List Item) → IsText (bytes ++ rest) decoded → (others : List Item) × (decoded ≡ ended_items ++ others) × Completes limits place rest others
  pub back : (rest : List ℕ) (others : List Item) → Completes limits place rest others → IsText (bytes ++ rest) (ended_items ++ others)
  pub ended : EndedItems IsText bytes ended_items
  pub room : ℕ
  pub behind : ℕ
  pub passed : Passed 16 (length bytes) ended_items room behind
  pub place_at : PlaceAt place room behind

-- the head of each recording that begins so, where its fourth line has ended
abbrev pub HeadIs : Option Head → List ℕ → Type 0
HeadIs None front = line_feeds front < 4
HeadIs (Some head) front = (4 ≤ line_feeds front)
    × ((rest : List ℕ) (other : Head) (turns : List ℕ) (marks : List Mark) → IsRecording (front ++ rest) other turns marks → other ≡ head)

-- In the head.
pub record HeadingRead (head : Option Head) (heading : Heading) (bytes turns : List ℕ) (marks : List Mark) : Type 0 where
  pub read : HeadRead bytes heading.known heading.place
  pub is_count : heading.count ≡ length bytes
  pub no_head : head ≡ None
  pub no_turns : turns ≡ []
  pub no_marks : marks ≡ []

-- Behind the head.
pub record BodyRead (head : Option Head) (limits : Limits) (place : Place) (count : ℕ) (bytes turns : List ℕ) (marks : List Mark) : Type 0 where
  pub known : Known
  pub front : List ℕ
  pub body : List ℕ
  pub decoded : List Item
  pub parts : bytes ≡ front ++ body
  pub heading : HeadRead front known Behind
  pub is_head : head ≡ Some (head_of known)
  pub is_limits : limits ≡ limits_of known
  pub reached : HasReached limits (Completes limits (first_of known)) body decoded place
  pub is_count : count ≡ length bytes
  pub turns_are : turns ≡ turns_of decoded
  pub marks_are : marks ≡ marks_of decoded

-- The bytes have a fault of this name; these turns and marks have ended before it.
pub record FaultRead (fault : RecFault) (bytes turns : List ℕ) (marks : List Mark) : Type 0 where
  pub place : ℕ
  pub is : FaultAt bytes place
  pub name : fault ≡ fault_name (take place bytes)
  pub ended : Ended (take place bytes) turns marks

-- a beginning of a list
pub record IsFront {A : Type 0} (front whole : List A) : Type 0 where
  pub rest : List A
  pub parts : whole ≡ front ++ rest

-- Memory ran out behind a beginning of these bytes; these are beginnings of the turns and of the marks that have ended in it.
pub record PartRead (bytes turns : List ℕ) (marks : List Mark) : Type 0 where
  pub front : List ℕ
  pub is_front : IsFront front bytes
  pub begins : Begins front
  pub all_turns : List ℕ
  pub all_marks : List Mark
  pub ended : Ended front all_turns all_marks
  pub turns_are : IsFront turns all_turns
  pub marks_are : IsFront marks all_marks

abbrev pub FailedRead : RecFault → List ℕ → List ℕ → List Mark → Type 0
FailedRead (BadHead line) bytes turns marks = FaultRead (BadHead line) bytes turns marks
FailedRead (BadRun at) bytes turns marks = FaultRead (BadRun at) bytes turns marks
FailedRead Short bytes turns marks = ⊥
FailedRead NoMemory bytes turns marks = PartRead bytes turns marks

-- the head of a beginning of these bytes, where its fourth line has ended
pub record BehindHead (head : Option Head) (bytes : List ℕ) : Type 0 where
  pub front : List ℕ
  pub is_front : IsFront front bytes
  pub begins : Begins front
  pub head_is : HeadIs head front
  pub lines : 4 ≤ line_feeds front

-- the head that is kept: that of the bytes before the fault
abbrev pub FailedHead : RecFault → Option Head → List ℕ → Type 0
FailedHead (BadHead line) head bytes = (place : ℕ) → FaultAt bytes place → HeadIs head (take place bytes)
FailedHead (BadRun at) head bytes = (place : ℕ) → FaultAt bytes place → HeadIs head (take place bytes)
FailedHead Short head bytes = ⊥
FailedHead NoMemory head bytes = BehindHead head bytes

abbrev pub StateRead : Option Head → State → List ℕ → List ℕ → List Mark → Type 0
StateRead head (HeadState heading) bytes turns marks = HeadingRead head heading bytes turns marks
StateRead head (BodyState body) bytes turns marks = BodyRead head body.limits body.place body.count bytes turns marks
StateRead head (Failed fault) bytes turns marks = FailedRead fault bytes turns marks × FailedHead fault head bytes

-- The reader has been fed these bytes, in pieces of any lengths, and appended these turns and marks in all.
abbrev pub HasRead : Reader → List ℕ → List ℕ → List Mark → Type 0
HasRead reader bytes turns marks = StateRead reader.head reader.state bytes turns marks

-- the head that the reader keeps
abbrev pub kept_head : Reader → Option Head
kept_head reader = reader.head

-- The reader answered this fault, or that memory ran out.
abbrev pub HasFailed : Reader → RecFault → Type 0
HasFailed reader fault = reader.state ≡ Failed fault

-- The reader was fed bytes more, and appended turns and marks.
pub record Fed (old new : Reader) (bytes out_old out_new : List ℕ) (marks_old marks_new : List Mark) : Type 0 where
  pub turns : List ℕ
  pub marks : List Mark
  pub turns_are : out_new ≡ out_old ++ turns
  pub marks_are : marks_new ≡ marks_old ++ marks
  pub reads : (front before : List ℕ) (marks_before : List Mark) → HasRead old front before marks_before
      → HasRead new (front ++ bytes) (before ++ turns) (marks_before ++ marks)

abbrev pub IsReading : State → Type 0
IsReading (HeadState heading) = Unit {0}
IsReading (BodyState body) = Unit {0}
IsReading (Failed fault) = ⊥

-- the answer to a piece
abbrev pub AnswerIs : Reader → Result (Unit {0}) RecFault → Type 0
AnswerIs new (Ok done) = IsReading new.state
AnswerIs new (Err fault) = HasFailed new fault

-- what the reader made of a byte in the head
abbrev pub HeadFed : Reader → Reader → ℕ → Type 0
HeadFed old new byte = (front before : List ℕ) (marks : List Mark) → HasRead old front before marks → HasRead new (front ++ byte ∷ []) before marks

-- what is told where a piece was read to its end: some recording begins with all bytes, and these turns and marks are those
-- of the runs and of the mark lines that have ended in them
pub record ReadAll (bytes turns : List ℕ) (marks : List Mark) : Type 0 where
  pub begins : Begins bytes
  pub ended : Ended bytes turns marks

-- what a feed tells of all bytes that were fed so far
abbrev pub Tells : Reader → Result ℕ RecFault → List ℕ → List ℕ → Type 0
Tells new (Ok count) out_old out_new =
    (length out_new ≡ length out_old + count)
    × ((bytes turns : List ℕ) (marks : List Mark) → HasRead new bytes turns marks → ReadAll bytes turns marks)
Tells new (Err fault) out_old out_new =
    HasFailed new fault
    × ((bytes turns : List ℕ) (marks : List Mark) → HasRead new bytes turns marks → FailedRead fault bytes turns marks)

-- the fault of an earlier call is answered again, and nothing changes
pub record Stays (old new : Reader) (out_old out_new : List ℕ) (marks_old marks_new : List Mark) : Type 0 where
  pub reader : new ≡ old
  pub out : out_new ≡ out_old
  pub marks : marks_new ≡ marks_old

abbrev pub StaysFailed : Reader → Reader → List ℕ → List ℕ → List Mark → List Mark → Result ℕ RecFault → Type 0
StaysFailed old new out_old out_new marks_old marks_new result =
    (fault : RecFault) → HasFailed old fault → (result ≡ Err fault) × Stays old new out_old out_new marks_old marks_new

-- the bytes are a recording of these turns and marks, with this head, and no other
pub record IsWhole (head : Option Head) (bytes turns : List ℕ) (marks : List Mark) : Type 0 where
  pub the_head : Head
  pub head_is : head ≡ Some the_head
  pub is : IsRecording bytes the_head turns marks
  pub only : (other : Head) (others : List ℕ) (other_marks : List Mark) → IsRecording bytes other others other_marks
      → (other ≡ the_head) × (others ≡ turns) × (other_marks ≡ marks)

-- the bytes are the beginning of a recording, and none themselves
pub record IsShort (bytes : List ℕ) : Type 0 where
  pub begins : Begins bytes
  pub none : (head : Head) (turns : List ℕ) (marks : List Mark) → IsRecording bytes head turns marks → ⊥

-- the answer at the end of the bytes
abbrev pub FinishIs : Reader → List ℕ → List ℕ → List Mark → Result (Unit {0}) RecFault → Type 0
FinishIs reader bytes turns marks (Ok done) = IsWhole (kept_head reader) bytes turns marks
FinishIs reader bytes turns marks (Err (BadHead line)) = HasFailed reader (BadHead line) × FailedRead (BadHead line) bytes turns marks
FinishIs reader bytes turns marks (Err (BadRun at)) = HasFailed reader (BadRun at) × FailedRead (BadRun at) bytes turns marks
FinishIs reader bytes turns marks (Err Short) = IsShort bytes
FinishIs reader bytes turns marks (Err NoMemory) = HasFailed reader NoMemory
