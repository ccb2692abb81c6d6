-- The text of an instruction.
use Rattle.std.specs.Prelude.{ℕ, ◌+◌, ◌*◌, ◌%◌, ◌^◌, ℤ, List, [], ◌∷◌, ◌++◌, codes, decimal}
use Rattle.std.specs.Int.{cast_unsigned, w32}
use Rattle.std.specs.Fmt.{signed_decimal}
use Rattle.std.specs.List.{flat_map}
use Rattle.or_text.specs.Hexadecimal.{hexadecimal}
use Rattle.or_isa.specs.declared.Insn.{Insn}
use Rattle.or_asm_text.specs.declared.operands.Operands.{Operands}
use Rattle.or_asm_text.specs.declared.operands.Slot.{Slot}
use Rattle.or_asm_text.specs.declared.operands.Slot.TheVariants.{D, A, B, Signed, Half, OptionalHalf, HighHalf, LowHalf, Shift, Page, Target, Memory}
use Rattle.or_asm_text.specs.Names.{name_of}
use Rattle.or_asm_text.specs.Slots.{slots_of}
use Rattle.or_asm_text.specs.Parts.{operands_of, natural}

abbrev pub register_text : ℕ → List ℕ
register_text r = 114 ∷ decimal r

-- where a jump of so many words leads
abbrev pub target_of : ℕ → ℤ → ℕ
target_of pc words = (pc + cast_unsigned w32 words * 4) % 2 ^ 32

abbrev pub slot_text : ℕ → Slot → Operands → List ℕ
slot_text pc D o = register_text o.d
slot_text pc A o = register_text o.a
slot_text pc B o = register_text o.b
slot_text pc Signed o = signed_decimal o.value
slot_text pc Half o = hexadecimal (natural o.value)
slot_text pc OptionalHalf o = hexadecimal (natural o.value)
slot_text pc HighHalf o = hexadecimal (natural o.value)
slot_text pc LowHalf o = hexadecimal (natural o.value)
slot_text pc Shift o = signed_decimal o.value
slot_text pc Page o = signed_decimal o.value
slot_text pc Target o = hexadecimal (target_of pc o.value)
slot_text pc Memory o = signed_decimal o.value ++ codes "(" ++ register_text o.a ++ codes ")"

-- an operand behind a comma
abbrev pub next_text : ℕ → Operands → Slot → List ℕ
next_text pc o slot = 44 ∷ slot_text pc slot o

-- further operands, each behind a comma
abbrev pub further_text : ℕ → Operands → List Slot → List ℕ
further_text pc o slots = flat_map (next_text pc o) slots

-- a blank and the operands, if there are any
abbrev pub slots_text : ℕ → Operands → List Slot → List ℕ
slots_text pc o [] = []
slots_text pc o (slot ∷ slots) = codes " " ++ slot_text pc slot o ++ further_text pc o slots

unfoldable pub text_of : ℕ → Insn → List ℕ
text_of pc i = name_of i ++ slots_text pc (operands_of i) (slots_of i)
