-- The slots against the history of all writes.
use Rattle.std.specs.Prelude.{◌≡◌, ℕ, ◌≤◌, ◌<◌, List, Option, Some, None, length, slice_index_or}
use Rattle.or_parts.specs.Reservation.{ReservationMark, stands_by}
use Rattle.or_reservations.specs.Slots.{is_reserved}

-- what a core marked last, if its mark was not removed since
abbrev pub mark_of : List (Option ReservationMark) → ℕ → Option ReservationMark
mark_of marks c = slice_index_or marks c None

-- each core's slot stands for a word exactly where its mark is of this word and no write named the word since;
-- no mark is at a place that the list of writes has not reached
pub record Tracks (slots : List (Option ℕ)) (writes : List (ℕ × ℕ)) (marks : List (Option ReservationMark)) : Type 0 where
  pub reached : (c word k : ℕ) → mark_of marks c ≡ Some (word, k) → k ≤ length writes
  pub stands : (c word : ℕ) → c < 8 → is_reserved slots c word ≡ stands_by writes word (mark_of marks c)
