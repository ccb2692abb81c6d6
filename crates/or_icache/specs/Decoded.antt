-- Instructions that are kept beside the words of lines.
use Rattle.std.specs.Prelude.{◌≡◌, ℕ, ◌*◌, ◌/◌, ◌%◌, ◌<◌, List, Option, Some, None, option_map, slice_index_or}
use Rattle.std.specs.Option.{ForSome}
use Rattle.or_words.specs.declared.Width.TheVariants.{Word}
use Rattle.or_isa.specs.declared.Insn.{Insn}
use Rattle.or_isa.specs.Decode.{decode_of}
use Rattle.or_isa.specs.Fits.{Fits}
use Rattle.or_parts.specs.declared.Line.{Line}
use Rattle.or_parts.specs.Memory.{value_at}
use Rattle.or_parts.specs.Lines.{held_word}

-- it is the instruction of the word that stands at a place in the bytes of a line
pub record IsDecoded (bytes : List ℕ) (at : ℕ) (insn : Option Insn) : Type 0 where
  pub value : insn ≡ decode_of (value_at bytes at Word)
  pub fits : ForSome insn Fits

-- each word of a held line has its instruction beside it: eight for each index, in order
abbrev pub AreDecoded : List (Option Line) → List (Option Insn) → Type 0
AreDecoded lines insns = (place : ℕ) (line : Line) → place < 1024 → slice_index_or lines (place / 8) None ≡ Some line → IsDecoded line.bytes (place % 8 * 4) (slice_index_or insns place None)

-- the instruction of the word at an address, where its line is held; none is that of a word that is no instruction
abbrev pub held_insn : List (Option Line) → ℕ → Option (Option Insn)
held_insn lines pa = option_map decode_of (held_word lines pa)
