-- What is read as a number or a register is spelled as one, and what is spelled so is read.
use Rattle.std.proofs.Common.{◌≡◌, ◌∙◌, refl, sym, ap, ℕ, ◌^◌, ◌<◌, min, ℤ, pos, Bool, true, false, cond, ◌&&◌, ltb, eqb, List, [], ◌∷◌, ◌++◌, length, get_or, codes, Option, Some, None, option_map, decimal, inl, inr, arith, rules}
use Rattle.std.specs.Prelude.{not, neg_ℤ}
use Rattle.std.specs.Char.{digit_value, is_digit}
use Rattle.std.specs.List.{list_all}
use Rattle.std.specs.Str.Parse.{AllDigits, digits_value, IsNumeral}
use Rattle.std.proofs.lemmas.Bool.Decides.{nat_tests}
use Rattle.std.proofs.lemmas.Fmt.{decimal-digits_value}
use Rattle.std.proofs.lemmas.Str.Parse.{numerals_by_value, tells_digits}
use Rattle.or_asm_text.specs.Texts.{register_text}
use Rattle.or_text.specs.Numerals.{are_digits, value_of, magnitude_of, has_leading_zero}
use Rattle.or_asm_read.specs.Numbers.{number_of, register_of}
use Rattle.or_asm_laws.specs.Numerals.{Spells, SpellsMagnitude, SpellsNumber}
use Rattle.or_asm_laws.proofs.Spelled.{and_true, not_true}
use Rattle.or_asm_laws.proofs.Numbers.{numeral, natural_digits, number_digits}

digits_all : (base : ℕ) (ds : List ℕ) → list_all (λ b. is_digit b base) ds ≡ true → AllDigits base ds
digits_all base [] h = search rules
digits_all base (c ∷ cs) h =
    let parts = and_true (is_digit c base) (list_all (λ b. is_digit b base) cs) h in
    let small : digit_value c < base = grind (arith, nat_tests, parts.0) in
    (small, digits_all base cs parts.1)

are_numeral : (base : ℕ) (ds : List ℕ) → are_digits base ds ≡ true → IsNumeral base ds
are_numeral base [] h = absurd cc
are_numeral base (c ∷ cs) h = (omega arith, digits_all base (c ∷ cs) h)

-- a choice that gave a value
chosen : {X : Type 0} (t : Bool) (x y : X) → cond t (Some x) None ≡ Some y → (t ≡ true) × (x ≡ y)
chosen true x y e = (refl, cc)
chosen false x y e = absurd cc

-- sizes
size_says : (base n : ℕ) (ds : List ℕ) → value_of base ds ≡ Some n → Spells base ds n
unfolding value_of
size_says base n ds h =
    let c = chosen (are_digits base ds) (min (digits_value base ds) (2 ^ 32)) n h in
    record { numeral = are_numeral base ds c.0; value = c.1 }

says_size : (base n : ℕ) (ds : List ℕ) → Spells base ds n → value_of base ds ≡ Some n
unfolding value_of
says_size base n ds h =
    ap (λ t. cond t (Some (min (digits_value base ds) (2 ^ 32))) None) (numeral base ds h.numeral) ∙ ap (λ m. Some m) h.value

hex_or_not : (c d n : ℕ) (ds : List ℕ) (t u : Bool) → eqb c 48 ≡ t → eqb d 120 ≡ u → cond (t && u) (value_of 16 ds) (value_of 10 (c ∷ d ∷ ds)) ≡ Some n → SpellsMagnitude (c ∷ d ∷ ds) n
hex_or_not c d n ds true true e f h =
    let zero_first : c ≡ 48 = grind (arith, nat_tests) in
    let x_second : d ≡ 120 = grind (arith, nat_tests) in
    inr (record { digits = ds; parts = ap (λ x. x ∷ d ∷ ds) zero_first ∙ ap (λ x. 48 ∷ x ∷ ds) x_second; says = size_says 16 n ds h })
hex_or_not c d n ds true false e f h = inl (size_says 10 n (c ∷ d ∷ ds) h)
hex_or_not c d n ds false u e f h = inl (size_says 10 n (c ∷ d ∷ ds) h)

natural_says : (text : List ℕ) (n : ℕ) → magnitude_of text ≡ Some n → SpellsMagnitude text n
natural_says [] n h = inl (size_says 10 n [] h)
natural_says (c ∷ []) n h = inl (size_says 10 n (c ∷ []) h)
natural_says (c ∷ d ∷ ds) n h = hex_or_not c d n ds (eqb c 48) (eqb d 120) refl refl h

says_natural : (text : List ℕ) (n : ℕ) → SpellsMagnitude text n → magnitude_of text ≡ Some n
says_natural text n (inl d) = natural_digits text d.numeral.1 ∙ says_size 10 n text d
says_natural text n (inr x) = ap magnitude_of x.parts ∙ says_size 16 n x.digits x.says

mapped : (f : ℕ → ℤ) (o : Option ℕ) (z : ℤ) → option_map f o ≡ Some z → (n : ℕ) × (o ≡ Some n) × (f n ≡ z)
mapped f None z e = absurd cc
mapped f (Some n) z e = (n, refl, cc)

minus_or_not : (c : ℕ) (cs : List ℕ) (z : ℤ) (t : Bool) → eqb c 45 ≡ t → cond t (option_map (λ n. neg_ℤ (pos n)) (magnitude_of cs)) (option_map pos (magnitude_of (c ∷ cs))) ≡ Some z → SpellsNumber (c ∷ cs) z
minus_or_not c cs z true e h =
    let m = mapped (λ n. neg_ℤ (pos n)) (magnitude_of cs) z h in
    let minus : c ≡ 45 = grind (arith, nat_tests) in
    inr (record { rest = cs; size = m.0; parts = ap (λ x. x ∷ cs) minus; says = natural_says cs m.0 m.1; value = m.2 })
minus_or_not c cs z false e h =
    let m = mapped pos (magnitude_of (c ∷ cs)) z h in
    inl (record { size = m.0; says = natural_says (c ∷ cs) m.0 m.1; value = m.2 })

pub number_says : (text : List ℕ) (z : ℤ) → number_of text ≡ Some z → SpellsNumber text z
unfolding number_of
number_says [] z h = absurd cc
number_says (c ∷ cs) z h = minus_or_not c cs z (eqb c 45) refl h

hex_number : (text digits : List ℕ) → text ≡ codes "0x" ++ digits → number_of text ≡ option_map pos (magnitude_of text)
unfolding number_of
hex_number text digits e = ap number_of e ∙ sym (ap (λ t. option_map pos (magnitude_of t)) e)

plain_number : (text : List ℕ) (n : ℕ) → SpellsMagnitude text n → number_of text ≡ option_map pos (magnitude_of text)
plain_number text n (inl d) = number_digits text d.numeral
plain_number text n (inr x) = hex_number text x.digits x.parts

pub says_number : (text : List ℕ) (z : ℤ) → SpellsNumber text z → number_of text ≡ Some z
unfolding number_of
says_number text z (inl p) = plain_number text p.size p.says ∙ ap (option_map pos) (says_natural text p.size p.says) ∙ ap (λ x. Some x) p.value
says_number text z (inr m) = ap number_of m.parts ∙ ap (option_map (λ n. neg_ℤ (pos n))) (says_natural m.rest m.size m.says) ∙ ap (λ x. Some x) m.value

-- registers
canonical : (cs : List ℕ) → has_leading_zero cs ≡ false → get_or cs 0 0 ≡ 48 → length cs ≡ 1
canonical [] h e = absurd (omega arith)
canonical (c ∷ []) h e = refl
canonical (c ∷ d ∷ ds) h e = let same : c ≡ 48 = e in absurd (grind (arith, nat_tests))

pub register_says : (text : List ℕ) (r : ℕ) → register_of text ≡ Some r → (r < 2 ^ 5) × (text ≡ register_text r)
unfolding register_of
register_says [] r h = absurd cc
register_says (c ∷ cs) r h =
    let v = digits_value 10 cs in
    let all = chosen (eqb c 114 && are_digits 10 cs && ltb v 32 && not (has_leading_zero cs)) v r h in
    let outer = and_true (eqb c 114 && are_digits 10 cs && ltb v 32) (not (has_leading_zero cs)) all.0 in
    let middle = and_true (eqb c 114 && are_digits 10 cs) (ltb v 32) outer.0 in
    let in_brackets = and_true (eqb c 114) (are_digits 10 cs) middle.0 in
    let digits = are_numeral 10 cs in_brackets.1 in
    let small : v < 32 = grind (arith, nat_tests, middle.1) in
    let first : c ≡ 114 = grind (arith, nat_tests, in_brackets.0) in
    let model = numerals_by_value (AllDigits 10) tells_digits in
    let spelled : decimal v ≡ cs = decimal-digits_value model cs digits.1 digits.0 (canonical cs (not_true (has_leading_zero cs) outer.1)) (omega arith) in
    (omega arith, ap (λ x. x ∷ cs) first ∙ ap (λ l. 114 ∷ l) (sym spelled ∙ ap decimal all.1))
