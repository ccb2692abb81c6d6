-- Bits of a word, and sums of words.
use Rattle.std.specs.Prelude.{ℕ, ◌+◌, ◌-◌, ◌^◌, ◌%◌, Bool, true, false, not, ◌==◌, ℤ, bit_and, bit_or}
use Rattle.std.specs.Int.{cast_unsigned, w32}

-- whether a word has a bit of the mask
abbrev pub has : ℕ → ℕ → Bool
has word mask = not (bit_and word mask == 0)

-- the word with the bits of the mask set, or cleared
abbrev pub with_bits : ℕ → ℕ → Bool → ℕ
with_bits word mask true = bit_or word mask
with_bits word mask false = bit_and word (0xFFFFFFFF - mask)

-- a sum of 32 bits
abbrev pub plus : ℕ → ℕ → ℕ
plus a b = (a + b) % 2 ^ 32

-- a signed immediate as a word of 32 bits
abbrev pub immediate : ℤ → ℕ
immediate i = cast_unsigned w32 i
