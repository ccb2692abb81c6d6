-- What is printed of the operands is read back.
use Rattle.std.proofs.Common.{◌≡◌, ◌∙◌, refl, ap, ℕ, ◌%◌, ◌^◌, ◌<◌, ℤ, pos, negsuc, true, ◌||◌, List, [], ◌∷◌, ◌++◌, codes, Ok, arith, rules}
use Rattle.std.specs.Prelude.{◌==◌}
use Rattle.std.specs.Fmt.{signed_decimal}
use Rattle.std.specs.List.{list_all}
use Rattle.or_isa.specs.declared.Insn.{Insn}
use Rattle.or_isa.specs.declared.Insn.TheVariants.{Jump}
use Rattle.or_isa.specs.Fits.{Fits, IsSigned}
use Rattle.or_asm_text.specs.declared.operands.Operands.{Operands}
use Rattle.or_asm_text.specs.declared.operands.Slot.{Slot}
use Rattle.or_asm_text.specs.declared.operands.Slot.TheVariants.{D, A, B, Signed, Half, OptionalHalf, HighHalf, LowHalf, Shift, Page, Target, Memory}
use Rattle.or_asm_text.specs.Parts.{operands_with, natural, operands_of}
use Rattle.or_asm_text.specs.Ranges.{filled}
use Rattle.or_asm_text.specs.Slots.{slots_of}
use Rattle.or_text.specs.Hexadecimal.{hexadecimal}
use Rattle.or_asm_text.specs.Texts.{register_text, slot_text, further_text, target_of}
use Rattle.or_asm_read.specs.Cuts.{is_label_byte, after, trimmed}
use Rattle.or_asm_read.specs.Faults.{lesser_fault}
use Rattle.or_asm_read.specs.Operands.{slot_at, placed, operands_at}
use Rattle.or_asm_read.specs.Labels.{Labels}
use Rattle.or_asm_laws.proofs.SlotFits.{IsNatural, SlotFits, SlotsFit}
use Rattle.or_asm_laws.proofs.Spelled.{or_left, is_mark, is_plain, all_append, all_of, later_plain, plain_mark, none_such, no_blanks, trimmed_same, before_at, after_at}
use Rattle.or_asm_laws.proofs.Places.{shown, placed_shown, slot_again, hex_later, register_later, signed_plain, target_small}

pub all_shown : (i : Insn) → Fits i → SlotsFit (slots_of i) (operands_of i)
unfolding slots_of operands_of
all_shown (Jump link n) fit = (fit, tt)
all_shown _ fit = search rules

later_mark : (b : ℕ) → is_label_byte b ≡ true → is_mark b ≡ true
later_mark b e = plain_mark b (later_plain b e)

hex_marks : (n : ℕ) → n < 2 ^ 32 → list_all is_mark (hexadecimal n) ≡ true
hex_marks n small = all_of is_label_byte is_mark later_mark (hexadecimal n) (hex_later n small)

natural_marks : (z : ℤ) → IsNatural 16 z → list_all is_mark (hexadecimal (natural z)) ≡ true
natural_marks (pos n) h = hex_marks n (omega arith)
natural_marks (negsuc n) h = absurd h

register_marks : (r : ℕ) → r < 2 ^ 5 → list_all is_mark (register_text r) ≡ true
register_marks r h = all_of is_label_byte is_mark later_mark (register_text r) (register_later r h)

signed_marks : (z : ℤ) → IsSigned 25 z → list_all is_mark (signed_decimal z) ≡ true
signed_marks z h = all_of is_plain is_mark plain_mark (signed_decimal z) (signed_plain z h)

from_15 : (z : ℤ) → IsSigned 15 z → IsSigned 25 z
from_15 (pos n) h = omega arith
from_15 (negsuc n) h = omega arith

from_20 : (z : ℤ) → IsSigned 20 z → IsSigned 25 z
from_20 (pos n) h = omega arith
from_20 (negsuc n) h = omega arith

from_6 : (z : ℤ) → IsNatural 6 z → IsSigned 25 z
from_6 (pos n) h = omega arith
from_6 (negsuc n) h = absurd h

pub slot_marks : (pc : ℕ) (slot : Slot) (o : Operands) → SlotFits slot o → list_all is_mark (slot_text pc slot o) ≡ true
slot_marks pc D o h = register_marks o.d h
slot_marks pc A o h = register_marks o.a h
slot_marks pc B o h = register_marks o.b h
slot_marks pc Signed o h = signed_marks o.value (from_15 o.value h)
slot_marks pc Half o h = natural_marks o.value h
slot_marks pc OptionalHalf o h = natural_marks o.value h
slot_marks pc HighHalf o h = natural_marks o.value h
slot_marks pc LowHalf o h = natural_marks o.value h
slot_marks pc Shift o h = signed_marks o.value (from_6 o.value h)
slot_marks pc Page o h = signed_marks o.value (from_20 o.value h)
slot_marks pc Target o h = hex_marks (target_of pc o.value) (target_small pc o.value)
slot_marks pc Memory o h =
    let number = signed_decimal o.value in
    let name = register_text o.a in
    all_append is_mark (number ++ codes "(" ++ name) (codes ")")
    (all_append is_mark (number ++ codes "(") name (all_append is_mark number (codes "(") (signed_marks o.value (from_15 o.value h.1)) refl) (register_marks o.a h.0)) refl

pub append_none : (xs : List ℕ) → xs ++ [] ≡ xs
append_none [] = refl
append_none (x ∷ xs) = ap (λ l. x ∷ l) (append_none xs)

clean_text : (pc : ℕ) (slot : Slot) (o : Operands) → SlotFits slot o → trimmed (slot_text pc slot o) ≡ slot_text pc slot o
clean_text pc slot o h = trimmed_same (slot_text pc slot o) (no_blanks (slot_text pc slot o) (slot_marks pc slot o h))

-- the operands behind the name
pub operands_again : (labels : Labels) (pc : ℕ) (slot : Slot) (slots : List Slot) (o : Operands) → pc < 2 ^ 28 → pc % 4 ≡ 0 → SlotsFit (slot ∷ slots) o
    → operands_at labels pc (slot ∷ slots) (slot_text pc slot o ++ further_text pc o slots) ≡ Ok (filled (slot ∷ slots) o)
operands_again labels pc slot [] o small aligned h =
    let text = slot_text pc slot o in
    let blank = operands_with 0 0 0 (pos 0) in
    ap (λ t. lesser_fault (placed slot) (slot_at labels pc slot (trimmed t)) (Ok blank)) (append_none text)
    ∙ ap (λ t. lesser_fault (placed slot) (slot_at labels pc slot t) (Ok blank)) (clean_text pc slot o h.0)
    ∙ ap (λ x. lesser_fault (placed slot) x (Ok blank)) (slot_again labels pc slot o small aligned h.0)
    ∙ ap (λ x. Ok x) (placed_shown slot o blank)
operands_again labels pc slot (next ∷ slots) o small aligned h =
    let text = slot_text pc slot o in
    let rest = slot_text pc next o ++ further_text pc o slots in
    let no_comma = none_such is_mark 44 refl text (slot_marks pc slot o h.0) in
    let others = operands_at labels pc (next ∷ slots) (after 44 (text ++ 44 ∷ rest)) in
    ap (λ t. lesser_fault (placed slot) (slot_at labels pc slot (trimmed t)) others) (before_at (λ b. b == 44) text 44 rest no_comma refl)
    ∙ ap (λ t. lesser_fault (placed slot) (slot_at labels pc slot t) others) (clean_text pc slot o h.0)
    ∙ ap (λ x. lesser_fault (placed slot) x others) (slot_again labels pc slot o small aligned h.0)
    ∙ ap (λ t. lesser_fault (placed slot) (Ok (shown slot o)) (operands_at labels pc (next ∷ slots) t)) (after_at (λ b. b == 44) text 44 rest no_comma refl)
    ∙ ap (λ x. lesser_fault (placed slot) (Ok (shown slot o)) x) (operands_again labels pc next slots o small aligned h.1)
    ∙ ap (λ x. Ok x) (placed_shown slot o (filled (next ∷ slots) o))

later_marks : (pc : ℕ) (slots : List Slot) (o : Operands) → SlotsFit slots o → list_all (λ b. is_mark b || b == 44) (further_text pc o slots) ≡ true
later_marks pc [] o h = refl
later_marks pc (slot ∷ slots) o h =
    all_append (λ b. is_mark b || b == 44) (slot_text pc slot o) (further_text pc o slots)
    (all_of is_mark (λ b. is_mark b || b == 44) (λ b e. or_left (is_mark b) (b == 44) e) (slot_text pc slot o) (slot_marks pc slot o h.0)) (later_marks pc slots o h.1)

-- the bytes of operands
pub operands_marks : (pc : ℕ) (slot : Slot) (slots : List Slot) (o : Operands) → SlotsFit (slot ∷ slots) o → list_all (λ b. is_mark b || b == 44) (slot_text pc slot o ++ further_text pc o slots) ≡ true
operands_marks pc slot slots o h = later_marks pc (slot ∷ slots) o h
