-- Numbers and registers are read back.
use Rattle.std.proofs.Common.{◌≡◌, ◌∙◌, refl, ap, ℕ, suc, ◌+◌, ◌/◌, ◌%◌, ◌^◌, ◌≤◌, ◌<◌, min, pos, negsuc, Bool, true, false, cond, ◌&&◌, ltb, eqb, List, [], ◌∷◌, ◌++◌, Some, None, option_map, decimal, inl, inr, lit≤, arith}
use Rattle.std.specs.Prelude.{not, neg_ℤ}
use Rattle.std.specs.Char.{digit_value, is_digit}
use Rattle.std.specs.Fmt.{digits, signed_decimal}
use Rattle.std.specs.List.{list_all}
use Rattle.std.specs.Str.Parse.{AllDigits, digits_value, IsNumeral}
use Rattle.std.proofs.Math.Nat.{lt_of_lt_of_le}
use Rattle.std.proofs.lemmas.Bool.{cases_lt}
use Rattle.std.proofs.lemmas.Bool.Decides.{nat_tests}
use Rattle.std.proofs.lemmas.Fmt.{digits_is_IsNumeral, decimal_is_IsNumeral, decimal_digit, decimal_step}
use Rattle.or_text.specs.Hexadecimal.{hexadecimal}
use Rattle.or_asm_text.specs.Texts.{register_text}
use Rattle.or_text.specs.Numerals.{are_digits, value_of, magnitude_of, has_leading_zero}
use Rattle.or_asm_read.specs.Numbers.{number_of, register_of}

all_digits : (base : ℕ) (ds : List ℕ) → AllDigits base ds → list_all (λ b. is_digit b base) ds ≡ true
all_digits base [] h = refl
all_digits base (c ∷ cs) h =
    let yes : ltb (digit_value c) base ≡ true = grind (arith, nat_tests) in
    ap (λ t. t && list_all (λ b. is_digit b base) cs) yes ∙ all_digits base cs h.1

pub numeral : (base : ℕ) (ds : List ℕ) → IsNumeral base ds → are_digits base ds ≡ true
numeral base [] h = absurd (omega arith)
numeral base (c ∷ cs) h = all_digits base (c ∷ cs) h.1

sized : (base n : ℕ) (ds : List ℕ) → IsNumeral base ds → digits_value base ds ≡ n → n < 2 ^ 32 → value_of base ds ≡ Some n
unfolding value_of
sized base n ds h e small =
    let cap : min (digits_value base ds) (2 ^ 32) ≡ n = omega arith in
    ap (λ t. cond t (Some (min (digits_value base ds) (2 ^ 32))) None) (numeral base ds h) ∙ ap (λ m. Some m) cap

size_hex : (n : ℕ) → n < 2 ^ 32 → value_of 16 (digits 16 true n) ≡ Some n
size_hex n small =
    let h = digits_is_IsNumeral 16 true (lit≤ tt) (lit≤ tt) n (lt_of_lt_of_le small (lit≤ tt)) in
    sized 16 n (digits 16 true n) h.0 h.1 small

pub number_hex : (n : ℕ) → n < 2 ^ 32 → number_of (hexadecimal n) ≡ Some (pos n)
unfolding number_of
number_hex n small = ap (option_map pos) (size_hex n small)

not_byte : (c d : ℕ) → 10 ≤ digit_value d → digit_value c < 10 → eqb c d ≡ false
not_byte c d large small = elim (eqb c d) as (λ t. eqb c d ≡ t → t ≡ false) [
  | true ↦ λ e. let same : c ≡ d = grind (arith, nat_tests) in
      let v : digit_value c ≡ digit_value d = ap digit_value same in absurd (omega arith)
  | false ↦ λ e. refl
] refl

and_false : (a : Bool) → (a && false) ≡ false
and_false true = refl
and_false false = refl

pub natural_digits : (ds : List ℕ) → AllDigits 10 ds → magnitude_of ds ≡ value_of 10 ds
natural_digits [] h = refl
natural_digits (c ∷ []) h = refl
natural_digits (c ∷ d ∷ ds) h =
    let no : eqb d 120 ≡ false = not_byte d 120 (lit≤ tt) h.1.0 in
    ap (λ t. cond (eqb c 48 && t) (value_of 16 ds) (value_of 10 (c ∷ d ∷ ds))) no
    ∙ ap (λ t. cond t (value_of 16 ds) (value_of 10 (c ∷ d ∷ ds))) (and_false (eqb c 48))

pub number_digits : (ds : List ℕ) → IsNumeral 10 ds → number_of ds ≡ option_map pos (magnitude_of ds)
unfolding number_of
number_digits [] h = absurd (omega arith)
number_digits (c ∷ cs) h =
    let no : eqb c 45 ≡ false = not_byte c 45 (lit≤ tt) h.1.0 in
    ap (λ t. cond t (option_map (λ n. neg_ℤ (pos n)) (magnitude_of cs)) (option_map pos (magnitude_of (c ∷ cs)))) no

decimal_numeral : (n : ℕ) → n < 2 ^ 32 → IsNumeral 10 (decimal n) × (digits_value 10 (decimal n) ≡ n)
decimal_numeral n small = decimal_is_IsNumeral n (omega arith)

natural_decimal : (n : ℕ) → n < 2 ^ 32 → magnitude_of (decimal n) ≡ Some n
natural_decimal n small =
    let h = decimal_numeral n small in
    natural_digits (decimal n) h.0.1 ∙ sized 10 n (decimal n) h.0 h.1 small

pub number_decimal : (n : ℕ) → n < 2 ^ 32 → number_of (decimal n) ≡ Some (pos n)
number_decimal n small = number_digits (decimal n) (decimal_numeral n small).0 ∙ ap (option_map pos) (natural_decimal n small)

pub number_negative : (n : ℕ) → n + 1 < 2 ^ 32 → number_of (signed_decimal (negsuc n)) ≡ Some (negsuc n)
unfolding number_of
number_negative n small = ap (option_map (λ m. neg_ℤ (pos m))) (natural_decimal (suc n) (omega arith))

no_leading_zero : (r : ℕ) → r < 2 ^ 5 → has_leading_zero (decimal r) ≡ false
no_leading_zero r small = elim (cases_lt r 10) [
  | inl few ↦ ap has_leading_zero (decimal_digit r few)
  | inr more ↦
      let front : decimal (r / 10) ≡ (48 + r / 10) ∷ [] = decimal_digit (r / 10) (omega arith) in
      let no : eqb (48 + r / 10) 48 ≡ false = grind (arith, nat_tests) in
      ap has_leading_zero (decimal_step r more (omega arith)) ∙ ap (λ f. has_leading_zero (f ++ (48 + r % 10) ∷ [])) front ∙ no
]

pub register_again : (r : ℕ) → r < 2 ^ 5 → register_of (register_text r) ≡ Some r
unfolding register_of
register_again r small =
    let h = decimal_numeral r (omega arith) in
    let low : ltb (digits_value 10 (decimal r)) 32 ≡ true = grind (arith, nat_tests, h.1) in
    let v = digits_value 10 (decimal r) in
    let first = ap (λ t. cond (t && ltb v 32 && not (has_leading_zero (decimal r))) (Some v) None) (numeral 10 (decimal r) h.0) in
    let second = ap (λ t. cond (t && not (has_leading_zero (decimal r))) (Some v) None) low in
    let third = ap (λ t. cond (not t) (Some v) None) (no_leading_zero r small) in
    first ∙ second ∙ third ∙ ap (λ n. Some n) h.1
