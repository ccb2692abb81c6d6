-- Where copies of boards stand on the way.
use Rattle.std.specs.Prelude.{◌≡◌, ◌≤◌, ◌<◌, ◌+◌, ◌-◌, ◌%◌, ℕ, List, Some, slice_get}
use Rattle.or_back.specs.declared.history.Checkpoint.{Checkpoint}

-- each copy stands behind a multiple of so many turns, and none at the board before the first turn
abbrev pub AreMultiples : ℕ → List Checkpoint → Type 0
AreMultiples every kept = (i : ℕ) (one : Checkpoint) → slice_get kept i ≡ Some one → (one.turn % every ≡ 0) × (0 < one.turn)

-- of the copies up to a turn none stands behind a place
abbrev pub NoneBetween : List Checkpoint → ℕ → ℕ → Type 0
NoneBetween kept place turn = (i : ℕ) (one : Checkpoint) → slice_get kept i ≡ Some one → one.turn ≤ turn → one.turn ≤ place

-- no more turns were made than lie between a turn and each copy before it
abbrev pub MakesFewer : List Checkpoint → ℕ → ℕ → ℕ → Type 0
MakesFewer kept turn before after = (i : ℕ) (one : Checkpoint) → slice_get kept i ≡ Some one → one.turn ≤ turn → after ≤ before + (turn - one.turn)

-- this copy stands behind no more turns than these, and no other of these stands behind it
pub record IsLatest (kept : List Checkpoint) (turn i : ℕ) : Type 0 where
  pub one : Checkpoint
  pub at : slice_get kept i ≡ Some one
  pub before : one.turn ≤ turn
  pub last : NoneBetween kept one.turn turn
