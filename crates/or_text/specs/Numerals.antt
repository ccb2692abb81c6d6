-- The numbers that digits write.
use Rattle.std.specs.Prelude.{ℕ, ◌^◌, ◌==◌, nat_lt, min, if◌then◌else◌, Bool, false, ◌&&◌, List, [], ◌∷◌, drop, Option, Some, None}
use Rattle.std.specs.Char.{is_digit}
use Rattle.std.specs.List.{list_all}
use Rattle.std.specs.Str.Parse.{digits_value}

abbrev pub are_digits : ℕ → List ℕ → Bool
are_digits base [] = false
are_digits base (c ∷ cs) = list_all (λ b. is_digit b base) (c ∷ cs)

-- what digits write; from 2 ^ 32 on all count as 2 ^ 32
unfoldable pub value_of : ℕ → List ℕ → Option ℕ
value_of base ds = if are_digits base ds then Some (min (digits_value base ds) (2 ^ 32)) else None

-- 0x stands in front
abbrev pub is_hexadecimal : List ℕ → Bool
is_hexadecimal [] = false
is_hexadecimal (c ∷ []) = false
is_hexadecimal (c ∷ d ∷ ds) = c == 48 && d == 120

-- decimal, or hexadecimal behind 0x
abbrev pub magnitude_of : List ℕ → Option ℕ
magnitude_of text = if is_hexadecimal text then value_of 16 (drop 2 text) else value_of 10 text

-- more than one digit, of which the first is 0
abbrev pub has_leading_zero : List ℕ → Bool
has_leading_zero [] = false
has_leading_zero (c ∷ []) = false
has_leading_zero (c ∷ d ∷ ds) = c == 48

abbrev pub within_word : Option ℕ → Option ℕ
within_word None = None
within_word (Some n) = if nat_lt n (2 ^ 32) then Some n else None

-- a decimal number of 32 bits without leading zeros
unfoldable pub decimal_of : List ℕ → Option ℕ
decimal_of text = if has_leading_zero text then None else within_word (value_of 10 text)
