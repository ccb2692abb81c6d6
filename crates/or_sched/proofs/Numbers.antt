-- The front of a number's text.
use Rattle.std.proofs.Common.{◌≡◌, ◌∙◌, sym, ap, ℕ, zero, suc, List, ◌++◌, ◌∷◌, [], ◌/◌, ◌%◌, ◌+◌, ◌*◌, ◌^◌, ◌≤◌, ◌<◌, decimal, arith, refl, length, map, get_or, length-append}
use Rattle.std.proofs.lemmas.Fmt.{decimal_digit, decimal_step, decimal_is_IsNumeral}
use Rattle.std.proofs.lemmas.Int.Digits.{digits_value_is, number_after_append, number_after_ge}
use Rattle.std.proofs.lemmas.List.{map-append, get_or_at}
use Rattle.std.proofs.lemmas.Str.Parse.{digit_at}
use Rattle.std.specs.Int.Digits.{number_from_digits_after}
use Rattle.std.specs.Char.{digit_value}
use Rattle.std.specs.Str.Parse.{digits_value}
use Rattle.std.specs.Int.{IsInRange}
use Rattle.or_sched.specs.RunRests.{number_text}

-- what digits make of a number's front
pub front_value : (m n : ℕ) (tail : List ℕ) → m < 2 ^ 64 → n < 2 ^ 64 → decimal m ++ tail ≡ decimal n
    → number_from_digits_after 10 m (map digit_value tail) ≡ n
front_value m n tail small large e =
    let whole : digits_value 10 (decimal n) ≡ n = (decimal_is_IsNumeral n large).1 in
    let front : digits_value 10 (decimal m) ≡ m = (decimal_is_IsNumeral m small).1 in
    let by_front : number_from_digits_after 10 0 (map digit_value (decimal m)) ≡ m = sym (digits_value_is 10 (decimal m)) ∙ front in
    ap (λ k. number_from_digits_after 10 k (map digit_value tail)) (sym by_front)
    ∙ sym (number_after_append 10 0 (map digit_value (decimal m)) (map digit_value tail))
    ∙ ap (number_from_digits_after 10 0) (sym (map-append digit_value (decimal m) tail))
    ∙ ap (λ ds. number_from_digits_after 10 0 (map digit_value ds)) e
    ∙ sym (digits_value_is 10 (decimal n)) ∙ whole

pub front_le : (m n : ℕ) (tail : List ℕ) → m < 2 ^ 64 → n < 2 ^ 64 → decimal m ++ tail ≡ decimal n → m ≤ n
front_le m n tail small large e =
    let grows : m ≤ number_from_digits_after 10 m (map digit_value tail) = number_after_ge 10 m (map digit_value tail) (omega arith) in
    omega (arith, front_value m n tail small large e)

-- one more digit is ten times the number at least
pub front_more : (m n x : ℕ) (tail : List ℕ) → m < 2 ^ 64 → n < 2 ^ 64 → decimal m ++ x ∷ tail ≡ decimal n → m * 10 ≤ n
front_more m n x tail small large e =
    let grows : m * 10 + digit_value x ≤ number_from_digits_after 10 (m * 10 + digit_value x) (map digit_value tail) =
    number_after_ge 10 (m * 10 + digit_value x) (map digit_value tail) (omega arith) in
    let value : number_from_digits_after 10 (m * 10 + digit_value x) (map digit_value tail) ≡ n = front_value m n (x ∷ tail) small large e in
    omega arith

-- a byte behind a front is a digit
pub behind_digit : (front : List ℕ) (n x : ℕ) (tail : List ℕ) → n < 2 ^ 64 → front ++ x ∷ tail ≡ decimal n → (48 ≤ x) × (x ≤ 57)
behind_digit front n x tail large e =
    let here : get_or (front ++ x ∷ tail) (length front) 0 ≡ x = get_or_at front x tail 0 (length front) refl in
    let long : length front < length (decimal n) = omega (arith, sym (ap length e), length-append front (x ∷ tail)) in
    let digit : IsInRange 48 57 (get_or (decimal n) (length front) 0) = digit_at (decimal n) (length front) (decimal_is_IsNumeral n large).0.1 long in
    let same : get_or (decimal n) (length front) 0 ≡ x = sym (ap (λ ds. get_or ds (length front) 0) e) ∙ here in
    grind (arith, digit, same)

-- the text of a number, and one digit more
pub number_digit : (number d next : ℕ) → d < 10 → next ≡ 10 * number + d → 0 < next → next < 2 ^ 64
    → number_text number ++ (48 + d) ∷ [] ≡ number_text next
number_digit number d zero digit is_next some small = absurd (omega arith)
number_digit zero d (suc next) digit is_next some small =
    let same : suc next ≡ d = omega arith in
    ap (λ k. (48 + k) ∷ []) (sym same) ∙ sym (decimal_digit (suc next) (omega arith))
number_digit (suc number) d (suc next) digit is_next some small =
    let front : suc next / 10 ≡ suc number = omega arith in
    let last : suc next % 10 ≡ d = omega arith in
    sym (decimal_step (suc next) (omega arith) small ∙ ap (λ k. decimal k ++ (48 + suc next % 10) ∷ []) front ∙ ap (λ k. decimal (suc number) ++ (48 + k) ∷ []) last)

pub number_longer : (number d next : ℕ) → d < 10 → next ≡ 10 * number + d → 0 < next → next < 2 ^ 64
    → length (number_text next) ≡ length (number_text number) + 1
number_longer number d next digit is_next some small =
    omega (arith, ap length (number_digit number d next digit is_next some small), length-append (number_text number) ((48 + d) ∷ []))
