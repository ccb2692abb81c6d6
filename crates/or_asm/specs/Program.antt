-- A program as its pieces: the place of each, and its words from there on.
use Rattle.std.specs.Prelude.{ℕ, ◌-◌, ◌/◌, Bool, ◌&&◌, nat_le, nat_lt, List, [], ◌∷◌, ◌++◌, length, sum_by}

-- whether a piece has a word at a place
abbrev pub covers : ℕ → ℕ × List ℕ → Bool
covers place piece = nat_le piece.0 place && nat_lt ((place - piece.0) / 4) (length piece.1)

abbrev pub appended : ℕ → ℕ × List ℕ → ℕ × List ℕ
appended word piece = (piece.0, piece.1 ++ word ∷ [])

-- with a word behind the last piece
abbrev pub extended : ℕ → List (ℕ × List ℕ) → List (ℕ × List ℕ)
extended word [] = []
extended word (piece ∷ []) = appended word piece ∷ []
extended word (piece ∷ next ∷ pieces) = piece ∷ extended word (next ∷ pieces)

-- how many words a program has
abbrev pub word_count : List (ℕ × List ℕ) → ℕ
word_count pieces = sum_by (λ piece. length piece.1) pieces
