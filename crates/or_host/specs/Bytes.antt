-- Bytes behind bytes, and first parts of bytes.
use Rattle.std.specs.Prelude.{◌≡◌, ◌⊎◌, ◌<◌, ◌+◌, ◌/◌, ℕ, List, ◌++◌, length, take}

-- the first is a prefix of the whole
pub record IsPrefix (first whole : List ℕ) : Type 0 where
  pub rest : List ℕ
  pub parts : whole ≡ first ++ rest

-- all these bytes were added
abbrev pub Adds : List ℕ → List ℕ → List ℕ → Type 0
Adds bytes old new = new ≡ old ++ bytes

-- a prefix of these bytes was added
pub record AddsPrefix (bytes old new : List ℕ) : Type 0 where
  pub first : List ℕ
  pub is_prefix : IsPrefix first bytes
  pub added : new ≡ old ++ first

-- the first half, rounded down
abbrev pub half_of : List ℕ → List ℕ
half_of bytes = take (length bytes / 2) bytes

-- all these bytes were added, or they found no room and none were
abbrev pub AddsWhereRoom : ℕ → List ℕ → List ℕ → List ℕ → Type 0
AddsWhereRoom room bytes old new = (new ≡ old ++ bytes) ⊎ ((room < length old + length bytes) × (new ≡ old))
