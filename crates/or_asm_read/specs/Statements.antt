-- What a statement does.
use Rattle.std.specs.Prelude.{ℕ, ◌%◌, ◌<◌, ◌==◌, nat_lt, if◌then◌else◌, ℤ, pos, negsuc, ◌&&◌, List, codes, Option, Some, None, Result, Ok, Err}
use Rattle.std.specs.Str.{bytes_eq}
use Rattle.or_words.specs.declared.limits.TheConstants.{MOST_RAM_BYTES}
use Rattle.or_isa.specs.Word.{word_of}
use Rattle.or_isa.specs.declared.Insn.{Insn}
use Rattle.or_asm_text.specs.declared.operands.Operands.{Operands}
use Rattle.or_asm_text.specs.Parts.{with_operands}
use Rattle.or_asm_text.specs.Names.{insn_named}
use Rattle.or_asm_text.specs.Slots.{slots_of}
use Rattle.or_asm_read.specs.declared.fault.Fault.{Fault}
use Rattle.or_asm_read.specs.declared.fault.Fault.TheVariants.{BadLine, UnknownName, OutOfRange}
use Rattle.or_asm_read.specs.declared.statements.Statement.{Statement}
use Rattle.or_asm_read.specs.declared.statements.Statement.TheVariants.{Nothing, Place, Word}
use Rattle.or_asm_read.specs.Cuts.{trimmed, name_part, operands_part}
use Rattle.or_asm_read.specs.Numbers.{number_of}
use Rattle.or_asm_read.specs.Operands.{is_empty, value_at, bits_of, operands_at}
use Rattle.or_asm_read.specs.Labels.{Labels}

-- a place that a statement sets lies in the largest RAM
abbrev pub HasLowPlace : Result Statement Fault → Type 0
HasLowPlace (Ok Nothing) = Unit {0}
HasLowPlace (Ok (Place place)) = place < MOST_RAM_BYTES
HasLowPlace (Ok (Word word)) = Unit {0}
HasLowPlace (Err fault) = Unit {0}

-- .org: a multiple of four in the largest RAM
abbrev pub org_at : Option ℤ → Result Statement Fault
org_at None = Err BadLine
org_at (Some (negsuc n)) = Err OutOfRange
org_at (Some (pos n)) = if nat_lt n MOST_RAM_BYTES && n % 4 == 0 then Ok (Place n) else Err OutOfRange

-- .word: a label or a number of 32 bits, signed or not
abbrev pub word_at : Result ℕ Fault → Result Statement Fault
word_at (Err e) = Err e
word_at (Ok word) = Ok (Word word)

-- an instruction with the operands that were read
abbrev pub made_of : Insn → Result Operands Fault → Result Statement Fault
made_of named (Ok o) = Ok (Word (word_of (with_operands named o)))
made_of named (Err e) = Err e

abbrev pub insn_at : Labels → ℕ → Option Insn → List ℕ → Result Statement Fault
insn_at labels pc None text = Err UnknownName
insn_at labels pc (Some named) text = made_of named (operands_at labels pc (slots_of named) text)

unfoldable pub named_at : Labels → ℕ → List ℕ → List ℕ → Result Statement Fault
named_at labels pc name text =
    if bytes_eq name (codes ".org") then org_at (number_of (trimmed text))
    else (if bytes_eq name (codes ".word") then word_at (bits_of (value_at labels (trimmed text)))
    else insn_at labels pc (insn_named name) text)

unfoldable pub statement_at : Labels → ℕ → List ℕ → Result Statement Fault
statement_at labels pc statement =
    if is_empty statement then Ok Nothing else named_at labels pc (name_part statement) (operands_part statement)
