-- Reservations of words, as places in the history of all writes.
use Rattle.std.specs.Prelude.{ℕ, Bool, false, not, ◌==◌, ◌&&◌, List, Option, Some, None, drop}
use Rattle.std.specs.List.{list_any}

-- what a core reserved last: the word's address, and how many writes had been made by then
abbrev pub ReservationMark : Type 0
ReservationMark = ℕ × ℕ

-- the mark is of this word, and no write since then named it; a write is a core and a word's address, the newest last
abbrev pub is_unwritten_since : List (ℕ × ℕ) → ℕ → ReservationMark → Bool
is_unwritten_since writes word mark = mark.0 == word && not (list_any (λ write. write.1 == word) (drop mark.1 writes))

-- whether the reservation of a word stands
abbrev pub stands_by : List (ℕ × ℕ) → ℕ → Option ReservationMark → Bool
stands_by writes word None = false
stands_by writes word (Some mark) = is_unwritten_since writes word mark
