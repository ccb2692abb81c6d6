-- Numbers and registers.
use Rattle.std.specs.Prelude.{ℕ, ◌==◌, nat_lt, if◌then◌else◌, ℤ, pos, ◌&&◌, not, List, [], ◌∷◌, Option, Some, None, option_map, neg_ℤ}
use Rattle.std.specs.Str.Parse.{digits_value}
use Rattle.or_text.specs.Numerals.{are_digits, magnitude_of, has_leading_zero}

-- with a minus before it or not
unfoldable pub number_of : List ℕ → Option ℤ
number_of [] = None
number_of (c ∷ cs) = if c == 45 then option_map (λ n. neg_ℤ (pos n)) (magnitude_of cs) else option_map pos (magnitude_of (c ∷ cs))

-- r and a number below 32 without leading zeros
unfoldable pub register_of : List ℕ → Option ℕ
register_of [] = None
register_of (c ∷ cs) = if c == 114 && are_digits 10 cs && nat_lt (digits_value 10 cs) 32 && not (has_leading_zero cs)
    then Some (digits_value 10 cs) else None
