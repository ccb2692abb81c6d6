-- Parts of big-endian words.
use Rattle.std.specs.Prelude.{ℕ, ◌/◌, ◌%◌, ◌==◌, if◌then◌else◌}
use Rattle.or_words.specs.declared.Width.{Width}
use Rattle.or_words.specs.declared.Width.TheVariants.{Byte, Half, Word}

-- the part of a big-endian word that begins at its byte k
abbrev pub narrowed : ℕ → ℕ → Width → ℕ
narrowed word k Byte = if k == 0 then word / 16777216 else if k == 1 then word / 65536 % 256 else if k == 2 then word / 256 % 256 else word % 256
narrowed word k Half = if k == 0 then word / 65536 else word % 65536
narrowed word k Word = word
