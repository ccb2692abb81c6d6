-- A slot for each core, with the word that it has reserved.
use Rattle.std.specs.Prelude.{ℕ, Bool, false, ◌==◌, if◌then◌else◌, List, Option, Some, None, slice_index_or}

-- whether a slot is for a word
abbrev pub is_for : ℕ → Option ℕ → Bool
is_for word None = false
is_for word (Some reserved) = reserved == word

-- whether the core's reservation of the word stands
abbrev pub is_reserved : List (Option ℕ) → ℕ → ℕ → Bool
is_reserved slots core word = is_for word (slice_index_or slots core None)

-- a slot after the word was written
abbrev pub after_write : ℕ → Option ℕ → Option ℕ
after_write word slot = if is_for word slot then None else slot
