use Rattle.std.proofs.Common.{◌≡◌, ℕ, ◌%◌, arith}
use Rattle.or_words.specs.declared.Width.{Width}
use Rattle.or_words.specs.declared.Width.TheVariants.{Byte, Half, Word}
use Rattle.or_parts.specs.Memory.{bytes_of}

-- an address in the same place of its page is aligned alike
pub same_aligned : (width : Width) (pa ea : ℕ) → pa % 8192 ≡ ea % 8192 → ea % bytes_of width ≡ 0 → pa % bytes_of width ≡ 0
same_aligned Byte pa ea same aligned = omega arith
same_aligned Half pa ea same aligned = omega arith
same_aligned Word pa ea same aligned = omega arith
