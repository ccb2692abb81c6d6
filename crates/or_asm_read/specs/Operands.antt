-- The operands of a statement.
use Rattle.std.specs.Prelude.{ℕ, ◌+◌, ◌-◌, ◌/◌, ◌%◌, ◌^◌, ◌==◌, nat_le, int_le, if◌then◌else◌, ℤ, pos, negsuc, Bool, true, false, ◌&&◌, List, [], ◌∷◌, codes, Option, Some, None, Result, Ok, Err}
use Rattle.std.specs.Int.{cast_signed, cast_unsigned, int_rem_euclid, int_wrap, w16, w32}
use Rattle.std.specs.Str.{bytes_eq}
use Rattle.or_asm_text.specs.declared.operands.Operands.{Operands}
use Rattle.or_asm_text.specs.declared.operands.Slot.{Slot}
use Rattle.or_asm_text.specs.declared.operands.Slot.TheVariants.{D, A, B, Signed, Half, OptionalHalf, HighHalf, LowHalf, Shift, Page, Target, Memory}
use Rattle.or_asm_text.specs.Parts.{operands_with}
use Rattle.or_asm_read.specs.declared.fault.Fault.{Fault}
use Rattle.or_asm_read.specs.declared.fault.Fault.TheVariants.{BadLine, OutOfRange, UnknownLabel}
use Rattle.or_asm_read.specs.declared.operands.Operand.{Operand}
use Rattle.or_asm_read.specs.Cuts.{is_label, before, after, has, trimmed}
use Rattle.or_asm_read.specs.Faults.{lesser_fault}
use Rattle.or_asm_read.specs.Labels.{Labels, place_of}
use Rattle.or_asm_read.specs.Numbers.{number_of, register_of}
use Rattle.or_text.specs.Numerals.{is_hexadecimal}

-- what is between the two, or a fault
abbrev pub within : ℤ → ℤ → ℤ → Result ℤ Fault
within low high z = if int_le low z && int_le z high then Ok z else Err OutOfRange

abbrev pub ranged : ℤ → ℤ → Option ℤ → Result ℤ Fault
ranged low high None = Err BadLine
ranged low high (Some z) = within low high z

abbrev pub operand_of : ℕ → ℤ → Operand
operand_of register value = record { register = register; value = value }

abbrev pub as_value : Result ℤ Fault → Result Operand Fault
as_value (Ok z) = Ok (operand_of 0 z)
as_value (Err e) = Err e

-- a register, by its name
abbrev pub register_at : Option ℕ → Result Operand Fault
register_at None = Err BadLine
register_at (Some r) = Ok (operand_of r (pos 0))

-- a number in a range
abbrev pub number_at : ℤ → ℤ → List ℕ → Result Operand Fault
number_at low high text = as_value (ranged low high (number_of text))

-- an operand with what f makes of its number
abbrev pub with_value : (ℤ → ℤ) → Result Operand Fault → Result Operand Fault
with_value f (Ok x) = Ok (operand_of x.register (f x.value))
with_value f (Err e) = Err e

-- the 16 bits of a number, read without a sign
abbrev pub unsigned_half : ℤ → ℤ
unsigned_half z = int_rem_euclid z (pos 65536)

-- K: 16 bits, spelled with or without a sign
abbrev pub constant_at : List ℕ → Result Operand Fault
constant_at text = with_value unsigned_half (number_at (negsuc 32767) (pos 65535) text)

-- K, or nothing for 0
abbrev pub optional_at : List ℕ → Result Operand Fault
optional_at [] = Ok (operand_of 0 (pos 0))
optional_at (b ∷ bs) = constant_at (b ∷ bs)

-- the greatest number that may stand for I
abbrev pub greatest_immediate : List ℕ → ℤ
greatest_immediate text = if is_hexadecimal text then pos 65535 else pos 32767

-- I: 16 bits with their sign, which hexadecimal digits may spell without it
abbrev pub immediate_at : List ℕ → Result Operand Fault
immediate_at text = with_value (int_wrap w16) (number_at (negsuc 32767) (greatest_immediate text) text)

-- a text with brackets, as I(rA) or hi(label): what stands before them, and what stands in them
unfoldable pub before_bracket : List ℕ → List ℕ
before_bracket text = before 40 text

unfoldable pub in_brackets : List ℕ → List ℕ
in_brackets text = before 41 (after 40 text)

abbrev pub is_empty : List ℕ → Bool
is_empty [] = true
is_empty (x ∷ xs) = false

unfoldable pub is_bracketed : List ℕ → Bool
is_bracketed text = has 41 (after 40 text) && is_empty (after 41 (after 40 text))

-- the place of a label that some line has
abbrev pub place_at : Option ℕ → Result ℤ Fault
place_at None = Err UnknownLabel
place_at (Some place) = Ok (pos place)

-- a number, if the text is one
abbrev pub plain_at : Option ℤ → Result ℤ Fault
plain_at None = Err BadLine
plain_at (Some z) = Ok z

-- the value of a text: a label's place, or a number
unfoldable pub value_at : Labels → List ℕ → Result ℤ Fault
value_at labels text = if is_label text then place_at (place_of labels text) else plain_at (number_of text)

-- the 32 bits of a value, spelled with or without a sign
abbrev pub bits_of : Result ℤ Fault → Result ℕ Fault
bits_of (Err e) = Err e
bits_of (Ok z) = if int_le (negsuc 2147483647) z && int_le z (pos 4294967295) then Ok (cast_unsigned w32 z) else Err OutOfRange

-- a half of 32 bits
abbrev pub half_at : (ℕ → ℕ) → Result ℕ Fault → Result Operand Fault
half_at part (Err e) = Err e
half_at part (Ok word) = Ok (operand_of 0 (pos (part word)))

-- K, or a name with a label or a number in brackets
abbrev pub half_or : List ℕ → (ℕ → ℕ) → Labels → List ℕ → Result Operand Fault
half_or name part labels text = if is_bracketed text && bytes_eq (before_bracket text) name
    then half_at part (bits_of (value_at labels (in_brackets text))) else constant_at text

-- how many bytes a target is from pc, as a signed number of 32 bits
abbrev pub offset_of : ℕ → ℕ → ℤ
offset_of pc target = cast_signed w32 ((target + 2 ^ 32 - pc) % 2 ^ 32)

-- a quarter of it, rounded down
abbrev pub quarter : ℤ → ℤ
quarter (pos n) = pos (n / 4)
quarter (negsuc n) = negsuc (n / 4)

-- a jump to a target that is the address of a word: the words from pc to it, where its field holds them
abbrev pub jump_to : ℕ → ℤ → Result Operand Fault
jump_to pc (negsuc n) = Err OutOfRange
jump_to pc (pos n) = if nat_le n 4294967295 && n % 4 == 0
    then as_value (within (negsuc 33554431) (pos 33554431) (quarter (offset_of pc n))) else Err OutOfRange

abbrev pub jump_at : ℕ → Result ℤ Fault → Result Operand Fault
jump_at pc (Err e) = Err e
jump_at pc (Ok z) = jump_to pc z

-- I(rA)
abbrev pub address_operand : Operand → Operand → Operand
address_operand value register = operand_of register.register value.value

abbrev pub memory_at : List ℕ → Result Operand Fault
memory_at text = if is_bracketed text
    then lesser_fault address_operand (immediate_at (before_bracket text)) (register_at (register_of (in_brackets text)))
    else Err BadLine

unfoldable pub slot_at : Labels → ℕ → Slot → List ℕ → Result Operand Fault
slot_at labels pc D text = register_at (register_of text)
slot_at labels pc A text = register_at (register_of text)
slot_at labels pc B text = register_at (register_of text)
slot_at labels pc Signed text = immediate_at text
slot_at labels pc Half text = constant_at text
slot_at labels pc OptionalHalf text = optional_at text
slot_at labels pc HighHalf text = half_or (codes "hi") (λ word. word / 65536) labels text
slot_at labels pc LowHalf text = half_or (codes "lo") (λ word. word % 65536) labels text
slot_at labels pc Shift text = number_at (pos 0) (pos 63) text
slot_at labels pc Page text = number_at (negsuc 1048575) (pos 1048575) text
slot_at labels pc Target text = jump_at pc (value_at labels text)
slot_at labels pc Memory text = memory_at text

-- the operands with what was found at a place among them
abbrev pub placed : Slot → Operand → Operands → Operands
placed D x o = operands_with x.register o.a o.b o.value
placed A x o = operands_with o.d x.register o.b o.value
placed B x o = operands_with o.d o.a x.register o.value
placed Signed x o = operands_with o.d o.a o.b x.value
placed Half x o = operands_with o.d o.a o.b x.value
placed OptionalHalf x o = operands_with o.d o.a o.b x.value
placed HighHalf x o = operands_with o.d o.a o.b x.value
placed LowHalf x o = operands_with o.d o.a o.b x.value
placed Shift x o = operands_with o.d o.a o.b x.value
placed Page x o = operands_with o.d o.a o.b x.value
placed Target x o = operands_with o.d o.a o.b x.value
placed Memory x o = operands_with o.d x.register o.b x.value

abbrev pub none_at : List ℕ → Result Operands Fault
none_at text = if is_empty (trimmed text) then Ok (operands_with 0 0 0 (pos 0)) else Err BadLine

-- operands parted by commas; of several faults the least
abbrev pub operands_at : Labels → ℕ → List Slot → List ℕ → Result Operands Fault
operands_at labels pc [] text = none_at text
operands_at labels pc (slot ∷ []) text = lesser_fault (placed slot) (slot_at labels pc slot (trimmed text)) (Ok (operands_with 0 0 0 (pos 0)))
operands_at labels pc (slot ∷ next ∷ slots) text = lesser_fault (placed slot) (slot_at labels pc slot (trimmed (before 44 text))) (operands_at labels pc (next ∷ slots) (after 44 text))
