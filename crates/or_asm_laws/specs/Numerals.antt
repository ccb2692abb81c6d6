-- How numbers are spelled.
use Rattle.std.specs.Prelude.{◌≡◌, ℕ, ◌^◌, min, ℤ, pos, neg_ℤ, List, ◌∷◌, ◌++◌, codes, ◌⊎◌}
use Rattle.std.specs.Str.Parse.{IsNumeral, digits_value}

-- digits of a base that say n; from 2 ^ 32 on all count as 2 ^ 32
pub record Spells (base : ℕ) (digits : List ℕ) (n : ℕ) : Type 0 where
  pub numeral : IsNumeral base digits
  pub value : min (digits_value base digits) (2 ^ 32) ≡ n

-- 0x and hexadecimal digits
pub record SpellsHexadecimal (text : List ℕ) (n : ℕ) : Type 0 where
  pub digits : List ℕ
  pub parts : text ≡ codes "0x" ++ digits
  pub says : Spells 16 digits n

abbrev pub SpellsMagnitude : List ℕ → ℕ → Type 0
SpellsMagnitude text n = Spells 10 text n ⊎ SpellsHexadecimal text n

pub record SpellsPlain (text : List ℕ) (z : ℤ) : Type 0 where
  pub size : ℕ
  pub says : SpellsMagnitude text size
  pub value : pos size ≡ z

pub record SpellsNegative (text : List ℕ) (z : ℤ) : Type 0 where
  pub rest : List ℕ
  pub size : ℕ
  pub parts : text ≡ 45 ∷ rest
  pub says : SpellsMagnitude rest size
  pub value : neg_ℤ (pos size) ≡ z

abbrev pub SpellsNumber : List ℕ → ℤ → Type 0
SpellsNumber text z = SpellsPlain text z ⊎ SpellsNegative text z
