-- The lines of words, one word at a time.
use Rattle.std.proofs.Common.{◌≡◌, ℕ, ◌+◌, ◌<◌, ◌≤◌, List, [], ◌∷◌, ◌++◌, length, take, drop, refl, arith}
use Rattle.byteorder.specs.Endian.{big_number}
use Rattle.or_command_source.specs.Listing.{word_line, word_lines}

pub first_word : (place : ℕ) (bytes : List ℕ) → 4 ≤ length bytes
    → word_lines place bytes ≡ word_line place (big_number 4 (take 4 bytes)) ++ word_lines (place + 4) (drop 4 bytes)
first_word place [] long = absurd (omega (arith, long))
first_word place (a ∷ []) long = absurd (omega (arith, long))
first_word place (a ∷ b ∷ []) long = absurd (omega (arith, long))
first_word place (a ∷ b ∷ c ∷ []) long = absurd (omega (arith, long))
first_word place (a ∷ b ∷ c ∷ d ∷ rest) long = refl

pub no_word : (place : ℕ) (bytes : List ℕ) → length bytes < 4 → word_lines place bytes ≡ []
no_word place [] short = refl
no_word place (a ∷ []) short = refl
no_word place (a ∷ b ∷ []) short = refl
no_word place (a ∷ b ∷ c ∷ []) short = refl
no_word place (a ∷ b ∷ c ∷ d ∷ rest) short = absurd (omega (arith, short))

pub ruleset words = (first_word, no_word)
