-- Pieces of a program that share no address.
use Rattle.std.specs.Prelude.{◌≡◌, ℕ, ◌+◌, ◌*◌, ◌%◌, ◌^◌, ◌<◌, ◌≤◌, ◌⊎◌, List, [], ◌∷◌, length}

-- the address behind the last byte of a piece
abbrev pub end_of : ℕ × List ℕ → ℕ
end_of piece = piece.0 + 4 * length piece.1

-- one of two pieces ends before the other begins
abbrev pub AreApart : ℕ × List ℕ → ℕ × List ℕ → Type 0
AreApart p q = (end_of p ≤ q.0) ⊎ (end_of q ≤ p.0)

abbrev pub IsApartFrom : ℕ × List ℕ → List (ℕ × List ℕ) → Type 0
IsApartFrom p [] = Unit {0}
IsApartFrom p (q ∷ qs) = AreApart p q × IsApartFrom p qs

-- each two pieces are apart
abbrev pub AllApart : List (ℕ × List ℕ) → Type 0
AllApart [] = Unit {0}
AllApart (p ∷ ps) = IsApartFrom p ps × AllApart ps

-- a piece has words, at addresses of words below 10000000 (hexadecimal)
pub record IsInMemory (piece : ℕ × List ℕ) : Type 0 where
  pub some : 0 < length piece.1
  pub aligned : piece.0 % 4 ≡ 0
  pub below : end_of piece ≤ 2 ^ 28

abbrev pub AllInMemory : List (ℕ × List ℕ) → Type 0
AllInMemory [] = Unit {0}
AllInMemory (p ∷ ps) = IsInMemory p × AllInMemory ps
