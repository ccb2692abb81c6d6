-- Numbers and bytes in hexadecimal.
use Rattle.std.specs.Prelude.{ℕ, ◌/◌, ◌%◌, ◌++◌, List, [], ◌∷◌, true, false, codes}
use Rattle.std.specs.Fmt.{digit_glyph, digits}
use Rattle.std.specs.List.{flat_map}

-- `0x` and capital digits, without leading zeros
abbrev pub hexadecimal : ℕ → List ℕ
hexadecimal n = codes "0x" ++ digits 16 true n

-- a word as eight capital digits
unfoldable pub word_text : ℕ → List ℕ
word_text n =
    digit_glyph true (n / 0x1000_0000) ∷ digit_glyph true (n / 0x100_0000 % 16) ∷
    digit_glyph true (n / 0x10_0000 % 16) ∷ digit_glyph true (n / 0x1_0000 % 16) ∷
    digit_glyph true (n / 0x1000 % 16) ∷ digit_glyph true (n / 0x100 % 16) ∷
    digit_glyph true (n / 0x10 % 16) ∷ digit_glyph true (n % 16) ∷ []

-- a byte as two lower-case digits
abbrev pub byte_text : ℕ → List ℕ
byte_text b = digit_glyph false (b / 16) ∷ digit_glyph false (b % 16) ∷ []

-- bytes as two lower-case digits each
abbrev pub digest_text : List ℕ → List ℕ
digest_text bytes = flat_map byte_text bytes
