-- The operands of a line.
use Rattle.std.specs.Prelude.{ℕ, ◌==◌, ◌&&◌, if◌then◌else◌, List, [], ◌∷◌, codes, Option, Some, None, option_map}
use Rattle.std.specs.Str.{bytes_eq}
use Rattle.or_text.specs.Numerals.{value_of, has_leading_zero}

-- a number: decimal, or hexadecimal behind 0x; from 2 ^ 32 on all count as 2 ^ 32
abbrev pub number_of : List ℕ → Option ℕ
number_of [] = value_of 10 []
number_of (c ∷ []) = value_of 10 (c ∷ [])
number_of (c ∷ d ∷ ds) = if c == 48 && d == 120 then value_of 16 ds else value_of 10 (c ∷ d ∷ ds)

-- a core's number: decimal without leading zeros
abbrev pub core_number : List ℕ → Option ℕ
core_number text = if has_leading_zero text then None else value_of 10 text

-- one core, or every core: `*`
abbrev pub cores_named : List ℕ → Option (Option ℕ)
cores_named text = if bytes_eq text (codes "*") then Some None else option_map Some (core_number text)
