-- What is found is in its range.
use Rattle.std.proofs.Common.{◌≡◌, refl, sym, ℕ, ◌^◌, ◌<◌, ℤ, pos, negsuc, Bool, true, false, cond, ◌&&◌, ◌%◌, ◌/◌, codes, leb, ltb, eqb, List, [], ◌∷◌, Option, Some, None, Result, Ok, Err, subst, arith}
use Rattle.std.proofs.lemmas.Bool.Decides.{nat_tests}
use Rattle.or_isa.specs.Fits.{Fits, IsSigned}
use Rattle.or_isa.specs.declared.Insn.{Insn}
use Rattle.or_asm_text.specs.declared.operands.Operands.{Operands}
use Rattle.or_asm_text.specs.declared.operands.Slot.{Slot}
use Rattle.or_asm_text.specs.declared.operands.Slot.TheVariants.{D, A, B, Signed, Half, OptionalHalf, HighHalf, LowHalf, Shift, Page, Target, Memory}
use Rattle.or_asm_text.specs.Parts.{operands_with, natural, with_operands}
use Rattle.or_asm_text.specs.Slots.{slots_of}
use Rattle.or_asm_text.specs.Ranges.{RegistersFit, ValueFits}
use Rattle.or_asm_text.proofs.Parts.{fits}
use Rattle.std.specs.Prelude.{not, int_le, ◌-◌}
use Rattle.std.specs.Int.{cast_signed, cast_unsigned, int_wrap, w16, w32}
use Rattle.std.proofs.lemmas.Int.{ints}
use Rattle.std.specs.Str.Parse.{digits_value}
use Rattle.or_asm_read.specs.declared.fault.Fault.{Fault}
use Rattle.or_asm_read.specs.declared.fault.Fault.TheVariants.{BadLine, OutOfRange}
use Rattle.or_asm_read.specs.declared.operands.Operand.{Operand}
use Rattle.or_asm_read.specs.Cuts.{trimmed, before, after}
use Rattle.or_asm_read.specs.Faults.{lesser_fault}
use Rattle.or_asm_read.specs.Numbers.{number_of, register_of}
use Rattle.or_text.specs.Numerals.{are_digits, has_leading_zero}
use Rattle.or_asm_read.specs.Operands.{within, ranged, as_value, with_value, unsigned_half, constant_at, optional_at, greatest_immediate, immediate_at, register_at, bits_of, half_at, half_or, before_bracket, in_brackets, is_bracketed, value_at, offset_of, quarter, jump_at, address_operand, memory_at, slot_at, placed, is_empty, operands_at}
use Rattle.or_asm_read.specs.Labels.{Labels}

abbrev Gives : {X : Type 0} → (X → Type 0) → Result X Fault → Type 0
Gives P (Ok x) = P x
Gives P (Err e) = Unit {0}

-- an operand whose register is one, and whose number is as P says
record Holds (P : ℤ → Type 0) (x : Operand) : Type 0 where
  register : x.register < 2 ^ 5
  value : P x.value

-- the range of the number at a place
abbrev SlotValue : Slot → ℤ → Type 0
SlotValue D z = Unit {0}
SlotValue A z = Unit {0}
SlotValue B z = Unit {0}
SlotValue Signed z = IsSigned 15 z
SlotValue Half z = natural z < 2 ^ 16
SlotValue OptionalHalf z = natural z < 2 ^ 16
SlotValue HighHalf z = natural z < 2 ^ 16
SlotValue LowHalf z = natural z < 2 ^ 16
SlotValue Shift z = natural z < 2 ^ 6
SlotValue Page z = IsSigned 20 z
SlotValue Target z = IsSigned 25 z
SlotValue Memory z = IsSigned 15 z

AllIn : ℤ → ℤ → (ℤ → Type 0) → Type 0
AllIn low high P = (z : ℤ) → int_le low z ≡ true → int_le z high ≡ true → P z

within_of : (P : ℤ → Type 0) (a b : Bool) (z : ℤ) → (a ≡ true → b ≡ true → P z) → Gives (Holds P) (as_value (cond (a && b) (Ok z) (Err OutOfRange)))
within_of P true true z h = record { register = omega arith; value = h refl refl }
within_of P _ _ z h = tt

within_gives : (P : ℤ → Type 0) (low high z : ℤ) → AllIn low high P → Gives (Holds P) (as_value (within low high z))
unfolding AllIn
within_gives P low high z h = within_of P (int_le low z) (int_le z high) z (h z)

number_gives : (P : ℤ → Type 0) (low high : ℤ) (o : Option ℤ) → AllIn low high P → Gives (Holds P) (as_value (ranged low high o))
number_gives P low high None h = tt
number_gives P low high (Some z) h = within_gives P low high z h

signed_20 : AllIn (negsuc 1048575) (pos 1048575) (IsSigned 20)
unfolding AllIn
signed_20 (pos n) low high = grind (arith, nat_tests)
signed_20 (negsuc n) low high = grind (arith, nat_tests)

signed_25 : AllIn (negsuc 33554431) (pos 33554431) (IsSigned 25)
unfolding AllIn
signed_25 (pos n) low high = grind (arith, nat_tests)
signed_25 (negsuc n) low high = grind (arith, nat_tests)

natural_6 : AllIn (pos 0) (pos 63) (λ z. natural z < 2 ^ 6)
unfolding AllIn
natural_6 (pos n) low high = grind (arith, nat_tests)
natural_6 (negsuc n) low high = omega arith

-- a register that is found is below 32
below_of : (a b l d : Bool) (n : ℕ) → (l ≡ true → n < 2 ^ 5) → Gives (Holds (λ z. Unit {0})) (register_at (cond (a && b && l && d) (Some n) None))
below_of true true true true n h = record { register = h refl; value = tt }
below_of _ _ _ _ n h = tt

small_digits : (cs : List ℕ) → ltb (digits_value 10 cs) 32 ≡ true → digits_value 10 cs < 2 ^ 5
small_digits cs e = grind (arith, nat_tests)

register_gives : (text : List ℕ) → Gives (Holds (λ z. Unit {0})) (register_at (register_of text))
unfolding register_of
register_gives [] = tt
register_gives (c ∷ cs) = below_of (eqb c 114) (are_digits 10 cs) (ltb (digits_value 10 cs) 32) (not (has_leading_zero cs)) (digits_value 10 cs) (small_digits cs)

one_of : {X : Type 0} (P : X → Type 0) (b : Bool) (x y : Result X Fault) → Gives P x → Gives P y → Gives P (cond b x y)
one_of P true x y f g = f
one_of P false x y f g = g

-- 16 bits of a number
unsigned_fits : (z : ℤ) → natural (unsigned_half z) < 2 ^ 16
unsigned_fits (pos n) = omega arith
unsigned_fits (negsuc n) = omega arith

signed_fits : (n : ℕ) → n < 2 ^ 16 → IsSigned 15 (cast_signed w16 n)
signed_fits n small = grind (arith, nat_tests, ints)

wrapped_fits : (z : ℤ) → IsSigned 15 (int_wrap w16 z)
unfolding int_wrap
wrapped_fits (pos n) = signed_fits (n % 2 ^ 16) (omega arith)
wrapped_fits (negsuc n) = signed_fits (2 ^ 16 - 1 - n % 2 ^ 16) (omega arith)

-- what is made of a number in any range
valued : (P : ℤ → Type 0) (f : ℤ → ℤ) → ((z : ℤ) → P (f z)) → (r : Result ℤ Fault) → Gives (Holds P) (with_value f (as_value r))
valued P f h (Ok z) = record { register = omega arith; value = h z }
valued P f h (Err e) = tt

constant_gives : (text : List ℕ) → Gives (Holds (λ z. natural z < 2 ^ 16)) (constant_at text)
constant_gives text = valued (λ z. natural z < 2 ^ 16) unsigned_half unsigned_fits (ranged (negsuc 32767) (pos 65535) (number_of text))

optional_gives : (text : List ℕ) → Gives (Holds (λ z. natural z < 2 ^ 16)) (optional_at text)
optional_gives [] = record { register = omega arith; value = omega arith }
optional_gives (b ∷ bs) = constant_gives (b ∷ bs)

immediate_gives : (text : List ℕ) → Gives (Holds (IsSigned 15)) (immediate_at text)
immediate_gives text = valued (IsSigned 15) (int_wrap w16) wrapped_fits (ranged (negsuc 32767) (greatest_immediate text) (number_of text))

-- halves of 32 bits
IsHalf : (ℕ → ℕ) → Type 0
IsHalf part = (word : ℕ) → word < 2 ^ 32 → part word < 2 ^ 16

bits_fit : (z : ℤ) → int_le (negsuc 2147483647) z ≡ true → int_le z (pos 4294967295) ≡ true → cast_unsigned w32 z < 2 ^ 32
bits_fit (pos n) low high = grind (arith, nat_tests)
bits_fit (negsuc n) low high = grind (arith, nat_tests)

half_if : (part : ℕ → ℕ) → IsHalf part → (a b : Bool) (word : ℕ) → (a ≡ true → b ≡ true → word < 2 ^ 32) → Gives (Holds (λ z. natural z < 2 ^ 16)) (half_at part (cond (a && b) (Ok word) (Err OutOfRange)))
unfolding IsHalf
half_if part half true true word h = record { register = omega arith; value = half word (h refl refl) }
half_if part half _ _ word h = tt

half_gives : (part : ℕ → ℕ) → IsHalf part → (r : Result ℤ Fault) → Gives (Holds (λ z. natural z < 2 ^ 16)) (half_at part (bits_of r))
half_gives part half (Err e) = tt
half_gives part half (Ok z) = half_if part half (int_le (negsuc 2147483647) z) (int_le z (pos 4294967295)) (cast_unsigned w32 z) (bits_fit z)

half_or_gives : (name : List ℕ) (part : ℕ → ℕ) → IsHalf part → (labels : Labels) (text : List ℕ) → Gives (Holds (λ z. natural z < 2 ^ 16)) (half_or name part labels text)
half_or_gives name part half labels text = one_of (Holds (λ z. natural z < 2 ^ 16)) _ _ _ (half_gives part half (value_at labels (in_brackets text))) (constant_gives text)

high_half : IsHalf (λ word. word / 65536)
unfolding IsHalf
high_half word small = omega arith

low_half : IsHalf (λ word. word % 65536)
unfolding IsHalf
low_half word small = omega arith

jump_gives : (pc : ℕ) (z : Result ℤ Fault) → Gives (Holds (IsSigned 25)) (jump_at pc z)
jump_gives pc (Err e) = tt
jump_gives pc (Ok (negsuc n)) = tt
jump_gives pc (Ok (pos n)) = one_of (Holds (IsSigned 25)) (leb n 4294967295 && eqb (n % 4) 0) (as_value (within (negsuc 33554431) (pos 33554431) (quarter (offset_of pc n)))) (Err OutOfRange) (within_gives (IsSigned 25) (negsuc 33554431) (pos 33554431) (quarter (offset_of pc n)) signed_25) tt

both_give : (P Q : ℤ → Type 0) (x y : Result Operand Fault) → Gives (Holds P) x → Gives (Holds Q) y → Gives (Holds P) (lesser_fault address_operand x y)
both_give P Q (Ok x) (Ok y) f g = record { register = g.register; value = f.value }
both_give P Q (Ok x) (Err e) f g = tt
both_give P Q (Err e) (Ok y) f g = tt
both_give P Q (Err e) (Err d) f g = tt

memory_gives : (text : List ℕ) → Gives (Holds (IsSigned 15)) (memory_at text)
memory_gives text =
    let number = immediate_at (before_bracket text) in
    let register = register_at (register_of (in_brackets text)) in
    one_of (Holds (IsSigned 15)) (is_bracketed text) (lesser_fault address_operand number register) (Err BadLine) (both_give (IsSigned 15) (λ z. Unit {0}) number register (immediate_gives (before_bracket text)) (register_gives (in_brackets text))) tt

slot_gives : (labels : Labels) (pc : ℕ) (slot : Slot) (text : List ℕ) → Gives (Holds (SlotValue slot)) (slot_at labels pc slot text)
unfolding slot_at
slot_gives labels pc D text = register_gives text
slot_gives labels pc A text = register_gives text
slot_gives labels pc B text = register_gives text
slot_gives labels pc Signed text = immediate_gives text
slot_gives labels pc Half text = constant_gives text
slot_gives labels pc OptionalHalf text = optional_gives text
slot_gives labels pc HighHalf text = half_or_gives (codes "hi") (λ word. word / 65536) high_half labels text
slot_gives labels pc LowHalf text = half_or_gives (codes "lo") (λ word. word % 65536) low_half labels text
slot_gives labels pc Shift text = number_gives _ (pos 0) (pos 63) (number_of text) natural_6
slot_gives labels pc Page text = number_gives _ (negsuc 1048575) (pos 1048575) (number_of text) signed_20
slot_gives labels pc Target text = jump_gives pc (value_at labels text)
slot_gives labels pc Memory text = memory_gives text

record Fit (slots : List Slot) (o : Operands) : Type 0 where
  registers : RegistersFit o
  value : ValueFits slots o.value

none_fit : Fit [] (operands_with 0 0 0 (pos 0))
none_fit = record { registers = record { d = omega arith; a = omega arith; b = omega arith }; value = refl }

placed_fit : (slot : Slot) (slots : List Slot) (x : Operand) (o : Operands) → Holds (SlotValue slot) x → Fit slots o → Fit (slot ∷ slots) (placed slot x o)
placed_fit D slots x o h f = record { registers = record { d = h.register; a = f.registers.a; b = f.registers.b }; value = f.value }
placed_fit A slots x o h f = record { registers = record { d = f.registers.d; a = h.register; b = f.registers.b }; value = f.value }
placed_fit B slots x o h f = record { registers = record { d = f.registers.d; a = f.registers.a; b = h.register }; value = f.value }
placed_fit Memory slots x o h f = record { registers = record { d = f.registers.d; a = h.register; b = f.registers.b }; value = h.value }
placed_fit _ slots x o h f = record { registers = record { d = f.registers.d; a = f.registers.a; b = f.registers.b }; value = h.value }

joined_fit : (slot : Slot) (slots : List Slot) (x : Result Operand Fault) (o : Result Operands Fault) → Gives (Holds (SlotValue slot)) x → Gives (Fit slots) o → Gives (Fit (slot ∷ slots)) (lesser_fault (placed slot) x o)
joined_fit slot slots (Ok x) (Ok o) h f = placed_fit slot slots x o h f
joined_fit slot slots (Ok x) (Err e) h f = tt
joined_fit slot slots (Err e) (Ok o) h f = tt
joined_fit slot slots (Err e) (Err d) h f = tt

operands_give : (labels : Labels) (pc : ℕ) (slots : List Slot) (text : List ℕ) → Gives (Fit slots) (operands_at labels pc slots text)
operands_give labels pc [] text = one_of (Fit []) (is_empty (trimmed text)) (Ok (operands_with 0 0 0 (pos 0))) (Err BadLine) none_fit tt
operands_give labels pc (slot ∷ []) text = joined_fit slot [] (slot_at labels pc slot (trimmed text)) (Ok (operands_with 0 0 0 (pos 0))) (slot_gives labels pc slot (trimmed text)) none_fit
operands_give labels pc (slot ∷ next ∷ slots) text = joined_fit slot (next ∷ slots) (slot_at labels pc slot (trimmed (before 44 text))) (operands_at labels pc (next ∷ slots) (after 44 text)) (slot_gives labels pc slot (trimmed (before 44 text))) (operands_give labels pc (next ∷ slots) (after 44 text))

-- operands that are read make an instruction that fits
pub made_fits : (m : Insn) (o : Operands) (labels : Labels) (pc : ℕ) (text : List ℕ) → Ok o ≡ operands_at labels pc (slots_of m) text → Fits (with_operands m o)
made_fits m o labels pc text e =
    let P : Result Operands Fault → Type 0 = Gives (Fit (slots_of m)) in
    let fit : Fit (slots_of m) o = subst P (sym e) (operands_give labels pc (slots_of m) text) in
    fits m o fit.registers fit.value
