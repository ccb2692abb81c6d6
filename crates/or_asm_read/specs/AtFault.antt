-- The word of a faulty line that its fault is about, as it stands in the source.
use Rattle.std.specs.Prelude.{ℕ, ◌==◌, if◌then◌else◌, Bool, false, List, [], ◌∷◌, Option, Some, None, Result, Ok, Err}
use Rattle.or_isa.specs.declared.Insn.{Insn}
use Rattle.or_asm_text.specs.declared.operands.Slot.{Slot}
use Rattle.or_asm_text.specs.Names.{insn_named}
use Rattle.or_asm_text.specs.Slots.{slots_of}
use Rattle.or_asm_read.specs.declared.fault.Fault.{Fault}
use Rattle.or_asm_read.specs.declared.fault.Fault.TheVariants.{BadLine, UnknownName, OutOfRange, UnknownLabel, RepeatedLabel, Overlap}
use Rattle.or_asm_read.specs.Cuts.{is_allowed, is_label, is_clean, before, after, trimmed, label_of, statement_of, name_part, operands_part}
use Rattle.or_asm_read.specs.Faults.{number_of_fault}
use Rattle.or_asm_read.specs.Labels.{Labels}
use Rattle.or_asm_read.specs.Operands.{in_brackets, slot_at}
use Rattle.or_asm_read.specs.Statements.{statement_at}

abbrev pub has_fault : {X : Type 0} → Fault → Result X Fault → Bool
has_fault fault (Ok x) = false
has_fault fault (Err found) = number_of_fault found == number_of_fault fault

-- the first operand with this fault, which is the last where no other has it
abbrev pub operand_with : Fault → Labels → ℕ → List Slot → List ℕ → List ℕ
operand_with fault labels pc [] text = trimmed text
operand_with fault labels pc (slot ∷ []) text = trimmed text
operand_with fault labels pc (slot ∷ next ∷ slots) text =
    if has_fault fault (slot_at labels pc slot (trimmed (before 44 text))) then trimmed (before 44 text)
    else operand_with fault labels pc (next ∷ slots) (after 44 text)

-- a directive has one operand
abbrev pub operand_of : Fault → Labels → ℕ → Option Insn → List ℕ → List ℕ
operand_of fault labels pc None text = trimmed text
operand_of fault labels pc (Some named) text = operand_with fault labels pc (slots_of named) text

-- the operand of a statement with this fault
unfoldable pub faulty_operand : Fault → Labels → ℕ → List ℕ → List ℕ
faulty_operand fault labels pc statement = operand_of fault labels pc (insn_named (name_part statement)) (operands_part statement)

-- from the first byte on that a line may not have
abbrev pub from_disallowed : List ℕ → List ℕ
from_disallowed [] = []
from_disallowed (b ∷ bs) = if is_allowed b then from_disallowed bs else b ∷ bs

-- the label that an operand uses: the operand, or what stands in its brackets
abbrev pub label_in : List ℕ → List ℕ
label_in text = if is_label text then text else in_brackets text

abbrev pub label_or_none : Option (List ℕ) → List ℕ
label_or_none None = []
label_or_none (Some label) = label

-- The word that a fault of a line is about. It is empty where an operand is missing, or the word has no room; where a byte
-- is not allowed, it begins with this byte.
unfoldable pub word_at_fault : Labels → ℕ → List ℕ → Fault → List ℕ
word_at_fault labels pc line BadLine =
    if is_clean line then faulty_operand BadLine labels pc (statement_of line) else from_disallowed (before 35 line)
word_at_fault labels pc line UnknownName = name_part (statement_of line)
word_at_fault labels pc line OutOfRange =
    if has_fault OutOfRange (statement_at labels pc (statement_of line)) then faulty_operand OutOfRange labels pc (statement_of line) else []
word_at_fault labels pc line UnknownLabel = label_in (faulty_operand UnknownLabel labels pc (statement_of line))
word_at_fault labels pc line RepeatedLabel = label_or_none (label_of line)
word_at_fault labels pc line Overlap = name_part (statement_of line)
