-- The name of each instruction, and the instruction of a name.
use Rattle.std.specs.Prelude.{ℕ, ◌==◌, List, [], ◌∷◌, map, bit_and, if◌then◌else◌, Option, Some, None, option_and_then}
use Rattle.std.specs.Str.{bytes_eq}
use Rattle.or_isa.specs.declared.Insn.{Insn}
use Rattle.or_isa.specs.Table.{table}
use Rattle.or_isa.specs.Word.{word_of}
use Rattle.or_isa.specs.Decode.{decode_of}
use Rattle.or_asm_text.specs.Parts.{bare}

-- mask, value and name of each row
unfoldable pub rows : List (ℕ × ℕ × List ℕ)
rows = map (λ r. (r.mask, r.value, r.name)) table

-- the name of the first row that the word matches
abbrev pub name_in : List (ℕ × ℕ × List ℕ) → ℕ → List ℕ
name_in [] w = []
name_in ((mask, value, name) ∷ rows) w = if bit_and w mask == value then name else name_in rows w

unfoldable pub name_of : Insn → List ℕ
name_of i = name_in rows (word_of (bare i))

-- the value of the first row of this name: the word of its instruction, without operands
abbrev pub value_in : List ℕ → List (ℕ × ℕ × List ℕ) → Option ℕ
value_in text [] = None
value_in text ((mask, value, name) ∷ rows) = if bytes_eq name text then Some value else value_in text rows

unfoldable pub insn_named : List ℕ → Option Insn
insn_named text = option_and_then decode_of (value_in text rows)
