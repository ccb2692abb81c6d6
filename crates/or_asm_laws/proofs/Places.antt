-- What is printed at a place among the operands is read back.
use Rattle.std.proofs.Common.{◌≡◌, ◌∙◌, refl, ap, ℕ, suc, ◌+◌, ◌-◌, ◌*◌, ◌/◌, ◌%◌, ◌^◌, ◌<◌, ℤ, pos, negsuc, true, false, cond, ◌&&◌, ◌||◌, leb, eqb, List, [], ◌∷◌, ◌++◌, codes, Some, Ok, Err, decimal, append_assoc, lit<, lit≤, arith}
use Rattle.std.specs.Prelude.{not, ◌==◌, int_le, Bool}
use Rattle.std.specs.Int.{cast_signed, int_wrap, w16, w32}
use Rattle.std.specs.Fmt.{digits, signed_decimal}
use Rattle.std.specs.List.{list_all}
use Rattle.std.specs.Str.{bytes_eq}
use Rattle.std.proofs.lemmas.Bool.Decides.{nat_tests}
use Rattle.std.proofs.lemmas.Int.{ints, int_wrap_fits}
use Rattle.std.proofs.lemmas.Fmt.{digits_is_IsNumeral, decimal_is_IsNumeral}
use Rattle.std.proofs.Math.Nat.{lt_of_lt_of_le}
use Rattle.or_isa.specs.Fits.{IsSigned}
use Rattle.or_asm_text.specs.declared.operands.Operands.{Operands}
use Rattle.or_asm_text.specs.declared.operands.Slot.{Slot}
use Rattle.or_asm_text.specs.declared.operands.Slot.TheVariants.{D, A, B, Signed, Half, OptionalHalf, HighHalf, LowHalf, Shift, Page, Target, Memory}
use Rattle.or_asm_text.specs.Parts.{natural}
use Rattle.or_asm_text.specs.Ranges.{fill}
use Rattle.or_text.specs.Hexadecimal.{hexadecimal}
use Rattle.or_asm_text.specs.Texts.{register_text, slot_text, target_of}
use Rattle.or_asm_read.specs.declared.fault.Fault.TheVariants.{BadLine, OutOfRange}
use Rattle.or_asm_read.specs.declared.operands.Operand.{Operand}
use Rattle.or_asm_read.specs.Cuts.{is_label_byte, is_label, before, after, has}
use Rattle.or_asm_read.specs.Faults.{lesser_fault}
use Rattle.or_text.specs.Numerals.{is_hexadecimal}
use Rattle.or_asm_read.specs.Numbers.{number_of, register_of}
use Rattle.or_asm_read.specs.Operands.{within, ranged, operand_of, as_value, with_value, unsigned_half, constant_at, greatest_immediate, immediate_at, register_at, number_at, bits_of, half_at, half_or, before_bracket, in_brackets, is_bracketed, is_empty, value_at, plain_at, offset_of, quarter, jump_at, address_operand, memory_at, slot_at, placed}
use Rattle.or_asm_read.specs.Labels.{Labels}
use Rattle.or_asm_laws.proofs.SlotFits.{IsNatural, SlotFits}
use Rattle.or_asm_laws.proofs.Numbers.{number_hex, number_decimal, number_negative, register_again}
use Rattle.or_asm_laws.proofs.Spelled.{and_true, not_true, is_plain, all_of, later_plain, digits_later, none_such, before_at, after_at, after_none}

-- what a place shows of the operands
abbrev pub shown : Slot → Operands → Operand
shown D o = operand_of o.d (pos 0)
shown A o = operand_of o.a (pos 0)
shown B o = operand_of o.b (pos 0)
shown Signed o = operand_of 0 o.value
shown Half o = operand_of 0 o.value
shown OptionalHalf o = operand_of 0 o.value
shown HighHalf o = operand_of 0 o.value
shown LowHalf o = operand_of 0 o.value
shown Shift o = operand_of 0 o.value
shown Page o = operand_of 0 o.value
shown Target o = operand_of 0 o.value
shown Memory o = operand_of o.a o.value

pub placed_shown : (slot : Slot) (o p : Operands) → placed slot (shown slot o) p ≡ fill slot o p
placed_shown D o p = refl
placed_shown _ o p = refl

within_again : (low high z : ℤ) → int_le low z ≡ true → int_le z high ≡ true → within low high z ≡ Ok z
within_again low high z f g =
    ap (λ t. cond (t && int_le z high) (Ok z) (Err OutOfRange)) f ∙ ap (λ t. cond t (Ok z) (Err OutOfRange)) g

number_again : (low high z : ℤ) (text : List ℕ) → number_of text ≡ Some z → (int_le low z ≡ true) × (int_le z high ≡ true) → number_at low high text ≡ Ok (operand_of 0 z)
number_again low high z text e h =
    ap (λ o. as_value (ranged low high o)) e ∙ ap as_value (within_again low high z h.0 h.1)

-- a number of 16 bits with its sign, however its greatest is spelled
in_15 : (hex : Bool) (z : ℤ) → IsSigned 15 z → (int_le (negsuc 32767) z ≡ true) × (int_le z (cond hex (pos 65535) (pos 32767)) ≡ true)
in_15 true (pos n) h = (refl, grind (arith, nat_tests))
in_15 false (pos n) h = (refl, grind (arith, nat_tests))
in_15 true (negsuc n) h = (grind (arith, nat_tests), refl)
in_15 false (negsuc n) h = (grind (arith, nat_tests), refl)

wrapped_same : (z : ℤ) → IsSigned 15 z → int_wrap w16 z ≡ z
wrapped_same (pos n) h = int_wrap_fits w16 (pos n) (record { sfits = h })
wrapped_same (negsuc n) h = int_wrap_fits w16 (negsuc n) (record { sfits = h })

immediate_again : (z : ℤ) (text : List ℕ) → IsSigned 15 z → number_of text ≡ Some z → immediate_at text ≡ Ok (operand_of 0 z)
immediate_again z text h e =
    ap (with_value (int_wrap w16)) (number_again (negsuc 32767) (greatest_immediate text) z text e (in_15 (is_hexadecimal text) z h))
    ∙ ap (λ v. Ok (operand_of 0 v)) (wrapped_same z h)

in_20 : (z : ℤ) → IsSigned 20 z → (int_le (negsuc 1048575) z ≡ true) × (int_le z (pos 1048575) ≡ true)
in_20 (pos n) h = (refl, grind (arith, nat_tests))
in_20 (negsuc n) h = (grind (arith, nat_tests), refl)

in_25 : (z : ℤ) → IsSigned 25 z → (int_le (negsuc 33554431) z ≡ true) × (int_le z (pos 33554431) ≡ true)
in_25 (pos n) h = (refl, grind (arith, nat_tests))
in_25 (negsuc n) h = (grind (arith, nat_tests), refl)

signed_again : (bits : ℕ) (z : ℤ) → bits < 26 → IsSigned 25 z → number_of (signed_decimal z) ≡ Some z
signed_again bits (pos n) few h = number_decimal n (omega arith)
signed_again bits (negsuc n) few h = number_negative n (omega arith)

wider_15 : (z : ℤ) → IsSigned 15 z → IsSigned 25 z
wider_15 (pos n) h = omega arith
wider_15 (negsuc n) h = omega arith

wider_20 : (z : ℤ) → IsSigned 20 z → IsSigned 25 z
wider_20 (pos n) h = omega arith
wider_20 (negsuc n) h = omega arith

constant_again : (z : ℤ) → IsNatural 16 z → constant_at (hexadecimal (natural z)) ≡ Ok (operand_of 0 z)
constant_again (pos n) h =
    let same : n % 65536 ≡ n = omega arith in
    ap (with_value unsigned_half) (number_again (negsuc 32767) (pos 65535) (pos n) (hexadecimal n) (number_hex n (omega arith)) (refl, grind (arith, nat_tests)))
    ∙ ap (λ m. Ok (operand_of 0 (pos m))) same
constant_again (negsuc n) h = absurd h

shift_again : (z : ℤ) → IsNatural 6 z → number_at (pos 0) (pos 63) (signed_decimal z) ≡ Ok (operand_of 0 z)
shift_again (pos n) h = number_again (pos 0) (pos 63) (pos n) (decimal n) (number_decimal n (omega arith)) (grind (arith, nat_tests), grind (arith, nat_tests))
shift_again (negsuc n) h = absurd h

-- the bytes of the texts
pub decimal_later : (n : ℕ) → n < 2 ^ 32 → list_all is_label_byte (decimal n) ≡ true
decimal_later n small = digits_later 10 (decimal n) (lit≤ tt) (decimal_is_IsNumeral n (omega arith)).0.1

pub hex_later : (n : ℕ) → n < 2 ^ 32 → list_all is_label_byte (hexadecimal n) ≡ true
hex_later n small = digits_later 16 (digits 16 true n) (lit≤ tt) (digits_is_IsNumeral 16 true (lit≤ tt) (lit≤ tt) n (lt_of_lt_of_le small (lit≤ tt))).0.1

pub register_later : (r : ℕ) → r < 2 ^ 5 → list_all is_label_byte (register_text r) ≡ true
register_later r small = decimal_later r (omega arith)

pub signed_plain : (z : ℤ) → IsSigned 25 z → list_all is_plain (signed_decimal z) ≡ true
signed_plain (pos n) h = all_of is_label_byte is_plain later_plain (decimal n) (decimal_later n (omega arith))
signed_plain (negsuc n) h = all_of is_label_byte is_plain later_plain (decimal (suc n)) (decimal_later (suc n) (omega arith))

-- a number is no call
no_call : (text : List ℕ) → list_all is_label_byte text ≡ true → is_bracketed text ≡ false
unfolding is_bracketed
no_call text f = ap (λ t. has 41 t && is_empty (after 41 t)) (after_none (λ b. b == 40) text (none_such is_label_byte 40 refl text f))

half_or_again : (name : List ℕ) (part : ℕ → ℕ) (labels : Labels) (z : ℤ) → IsNatural 16 z → half_or name part labels (hexadecimal (natural z)) ≡ Ok (operand_of 0 z)
half_or_again name part labels (negsuc n) h = absurd h
half_or_again name part labels (pos n) h =
    let text = hexadecimal n in
    ap (λ t. cond (t && bytes_eq (before_bracket text) name) (half_at part (bits_of (value_at labels (in_brackets text)))) (constant_at text)) (no_call text (hex_later n (omega arith)))
    ∙ constant_again (pos n) h

has_at : (xs : List ℕ) → list_all (λ b. not (b == 41)) xs ≡ true → has 41 (xs ++ 41 ∷ []) ≡ true
has_at [] f = refl
has_at (x ∷ xs) f =
    let both = and_true (not (x == 41)) (list_all (λ b. not (b == 41)) xs) f in
    ap (λ t. t || has 41 (xs ++ 41 ∷ [])) (not_true (x == 41) both.0) ∙ has_at xs both.1

-- I(rA)
memory_again : (z : ℤ) (a : ℕ) → IsSigned 15 z → a < 2 ^ 5 → memory_at (signed_decimal z ++ codes "(" ++ register_text a ++ codes ")") ≡ Ok (operand_of a z)
unfolding is_bracketed before_bracket in_brackets
memory_again z a value register =
    let text = signed_decimal z ++ codes "(" ++ register_text a ++ codes ")" in
    let number = signed_decimal z in
    let name = register_text a in
    let whole : text ≡ number ++ 40 ∷ (name ++ 41 ∷ []) = append_assoc (number ++ codes "(") name (codes ")") ∙ append_assoc number (codes "(") (name ++ codes ")") in
    let clear = none_such is_plain 40 refl number (signed_plain z (wider_15 z value)) in
    let inside = none_such is_label_byte 41 refl name (register_later a register) in
    let front : before 40 text ≡ number = ap (before 40) whole ∙ before_at (λ b. b == 40) number 40 (name ++ 41 ∷ []) clear refl in
    let back : after 40 text ≡ name ++ 41 ∷ [] = ap (after 40) whole ∙ after_at (λ b. b == 40) number 40 (name ++ 41 ∷ []) clear refl in
    let middle : before 41 (after 40 text) ≡ name = ap (before 41) back ∙ before_at (λ b. b == 41) name 41 [] inside refl in
    let behind : after 41 (after 40 text) ≡ [] = ap (after 41) back ∙ after_at (λ b. b == 41) name 41 [] inside refl in
    let closes : has 41 (after 40 text) ≡ true = ap (has 41) back ∙ has_at name inside in
    let answer = lesser_fault address_operand (immediate_at (before 40 text)) (register_at (register_of (before 41 (after 40 text)))) in
    ap (λ t. cond (t && is_empty (after 41 (after 40 text))) answer (Err BadLine)) closes
    ∙ ap (λ t. cond (is_empty t) answer (Err BadLine)) behind
    ∙ ap (λ t. lesser_fault address_operand (immediate_at t) (register_at (register_of (before 41 (after 40 text))))) front
    ∙ ap (λ t. lesser_fault address_operand (immediate_at number) (register_at (register_of t))) middle
    ∙ ap (λ t. lesser_fault address_operand t (register_at (register_of name))) (immediate_again z number value (signed_again 25 z (lit< tt) (wider_15 z value)))
    ∙ ap (λ t. lesser_fault address_operand (Ok (operand_of 0 z)) (register_at t)) (register_again a register)

-- a jump's target leads back to its words
pub target_small : (pc : ℕ) (z : ℤ) → target_of pc z < 2 ^ 32
target_small pc z = omega arith

target_aligned : (pc : ℕ) (z : ℤ) → pc % 4 ≡ 0 → target_of pc z % 4 ≡ 0
target_aligned pc z aligned = omega arith

signed_low : (m : ℕ) → m < 2 ^ 31 → cast_signed w32 m ≡ pos m
signed_low m small = grind (arith, nat_tests, ints)

signed_high : (m : ℕ) → m < 2 ^ 31 → cast_signed w32 (2 ^ 32 - suc m) ≡ negsuc m
signed_high m small = grind (arith, nat_tests, ints)

offset_again : (pc : ℕ) (z : ℤ) → pc < 2 ^ 28 → IsSigned 25 z → quarter (offset_of pc (target_of pc z)) ≡ z
offset_again pc (pos n) small h =
    let same : (target_of pc (pos n) + 2 ^ 32 - pc) % 2 ^ 32 ≡ 4 * n = omega (arith, ints) in
    let four : 4 * n / 4 ≡ n = omega arith in
    ap (λ m. quarter (cast_signed w32 m)) same ∙ ap quarter (signed_low (4 * n) (omega arith)) ∙ ap pos four
offset_again pc (negsuc n) small h =
    let same : (target_of pc (negsuc n) + 2 ^ 32 - pc) % 2 ^ 32 ≡ 2 ^ 32 - 4 * (n + 1) = omega (arith, ints) in
    let e : 2 ^ 32 - 4 * (n + 1) ≡ 2 ^ 32 - suc (4 * n + 3) = omega arith in
    let four : (4 * n + 3) / 4 ≡ n = omega arith in
    ap (λ m. quarter (cast_signed w32 m)) (same ∙ e) ∙ ap quarter (signed_high (4 * n + 3) (omega arith)) ∙ ap negsuc four

jump_again : (labels : Labels) (pc : ℕ) (z : ℤ) → pc < 2 ^ 28 → pc % 4 ≡ 0 → IsSigned 25 z → jump_at pc (value_at labels (hexadecimal (target_of pc z))) ≡ Ok (operand_of 0 z)
unfolding value_at is_label
jump_again labels pc z small aligned h =
    let t = target_of pc z in
    let room : leb t 4294967295 ≡ true = grind (arith, nat_tests, target_small pc z) in
    let four : eqb (t % 4) 0 ≡ true = grind (arith, nat_tests, target_aligned pc z aligned) in
    let answer = as_value (within (negsuc 33554431) (pos 33554431) (quarter (offset_of pc t))) in
    let range = in_25 z h in
    ap (λ o. jump_at pc (plain_at o)) (number_hex t (target_small pc z))
    ∙ ap (λ b. cond (b && eqb (t % 4) 0) answer (Err OutOfRange)) room
    ∙ ap (λ b. cond b answer (Err OutOfRange)) four
    ∙ ap (λ x. as_value (within (negsuc 33554431) (pos 33554431) x)) (offset_again pc z small h)
    ∙ ap as_value (within_again (negsuc 33554431) (pos 33554431) z range.0 range.1)

pub slot_again : (labels : Labels) (pc : ℕ) (slot : Slot) (o : Operands) → pc < 2 ^ 28 → pc % 4 ≡ 0 → SlotFits slot o → slot_at labels pc slot (slot_text pc slot o) ≡ Ok (shown slot o)
unfolding slot_at
slot_again labels pc D o small aligned h = ap register_at (register_again o.d h)
slot_again labels pc A o small aligned h = ap register_at (register_again o.a h)
slot_again labels pc B o small aligned h = ap register_at (register_again o.b h)
slot_again labels pc Signed o small aligned h = immediate_again o.value (signed_decimal o.value) h (signed_again 25 o.value (lit< tt) (wider_15 o.value h))
slot_again labels pc Half o small aligned h = constant_again o.value h
slot_again labels pc OptionalHalf o small aligned h = constant_again o.value h
slot_again labels pc HighHalf o small aligned h = half_or_again (codes "hi") (λ word. word / 65536) labels o.value h
slot_again labels pc LowHalf o small aligned h = half_or_again (codes "lo") (λ word. word % 65536) labels o.value h
slot_again labels pc Shift o small aligned h = shift_again o.value h
slot_again labels pc Page o small aligned h = number_again (negsuc 1048575) (pos 1048575) o.value (signed_decimal o.value) (signed_again 25 o.value (lit< tt) (wider_20 o.value h)) (in_20 o.value h)
slot_again labels pc Target o small aligned h = jump_again labels pc o.value small aligned h
slot_again labels pc Memory o small aligned h = memory_again o.value o.a h.1 h.0
