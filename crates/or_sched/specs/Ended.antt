-- Which runs and marks of a text have ended in its first bytes.
use Rattle.std.specs.Prelude.{◌≡◌, ℕ, zero, suc, ◌+◌, ◌-◌, ◌<◌, ◌≤◌, List, [], ◌∷◌, ◌++◌, length, nat_lt, nat_le, if◌then◌else◌, decimal, ◌⊎◌}
use Rattle.std.proofs.Common.{inl, inr}
use Rattle.or_sched.specs.declared.places.Place.{Place}
use Rattle.or_sched.specs.declared.places.Place.TheVariants.{First, Run, Line, Word, Writes, Console, Done}
use Rattle.or_sched.specs.declared.places.Step.{Step}
use Rattle.or_sched.specs.declared.places.Step.TheVariants.{Refused, Goes, EndsRun, EndsMark}
use Rattle.or_sched.specs.declared.recording.Mark.{Mark}
use Rattle.or_sched.specs.Runs.{run_text}
use Rattle.or_sched.specs.RunRests.{number_text}
use Rattle.or_sched.specs.Places.{digits_text}
use Rattle.or_sched.specs.Blocks.{Item, mark_line}

-- a run's bytes, with the line feed that stands before it where its line is full
abbrev pub run_length : ℕ → ℕ × ℕ → ℕ
run_length zero run = 1 + length (run_text run)
run_length (suc room) run = length (run_text run)

-- how many runs have room in the line behind it
abbrev pub room_after : ℕ → ℕ
room_after zero = 15
room_after (suc room) = room

-- a mark's line, with the line feed that ends the run line before it
abbrev pub mark_length : Mark → ℕ
mark_length mark = 1 + length (mark_line mark)

-- Those that have ended in the first n bytes, where `room` runs have room in the line. A run ends at the letter or line
-- feed behind it, so it has ended where a byte more has come; a mark ends at its own line feed.
abbrev pub ended_in : ℕ → ℕ → List Item → List Item
ended_in room n [] = []
ended_in room n (inl run ∷ others) =
    if nat_lt (run_length room run) n then inl run ∷ ended_in (room_after room) (n - run_length room run) others else []
ended_in room n (inr mark ∷ others) =
    if nat_le (mark_length mark) n then inr mark ∷ ended_in 16 (n - mark_length mark) others else []

-- the bytes of the text behind the head in which these have ended, however it goes on
abbrev pub EndedItems : (List ℕ → List Item → Type 0) → List ℕ → List Item → Type 0
EndedItems IsText bytes ended = (rest : List ℕ) (decoded : List Item) → IsText (bytes ++ rest) decoded → ended_in 16 (length bytes) decoded ≡ ended

-- the front of these items has ended within n bytes, and so many bytes are left behind it
abbrev pub Passed : ℕ → ℕ → List Item → ℕ → ℕ → Type 0
Passed room n [] room' n' = (room ≡ room') × (n ≡ n')
Passed room n (inl run ∷ others) room' n' = (run_length room run < n) × Passed (room_after room) (n - run_length room run) others room' n'
Passed room n (inr mark ∷ others) room' n' = (mark_length mark ≤ n) × Passed 16 (n - mark_length mark) others room' n'

-- with this much room in the line, n bytes behind the last that ended lead to the place
abbrev pub PlaceAt : Place → ℕ → ℕ → Type 0
PlaceAt (First block) room n = (room ≡ 16) × (n ≡ 0)
PlaceAt (Run begun) room n =
    ((room ≡ begun.room + 1) × (n ≡ 1 + length (number_text begun.number)))
    ⊎ ((room ≡ 0) × (begun.room ≡ 15) × (n ≡ 2 + length (number_text begun.number)))
PlaceAt (Line core block) room n = ((room ≡ 0) × (n ≡ 1)) ⊎ ((room ≡ 16) × (n ≡ 0))
PlaceAt (Word seen total) room n = n ≡ 1 + seen
PlaceAt (Writes number total) room n = n ≡ 6 + length (digits_text number)
PlaceAt (Console writes number total) room n = n ≡ 7 + length (decimal writes) + length (digits_text number)
PlaceAt Done room n = Unit {0}

abbrev pub StepPlaces : Place → Step → Type 0
StepPlaces place Refused = Unit {0}
StepPlaces place (Goes next) = (room n : ℕ) → PlaceAt place room n → PlaceAt next room (n + 1)
StepPlaces place (EndsRun core count next) = (room n : ℕ) → PlaceAt place room n
    → (run_length room (core, count) < n + 1) × PlaceAt next (room_after room) (n + 1 - run_length room (core, count))
StepPlaces place (EndsMark mark next) = (room n : ℕ) → PlaceAt place room n
    → (mark_length mark ≤ n + 1) × PlaceAt next 16 (n + 1 - mark_length mark)
