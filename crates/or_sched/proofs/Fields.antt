-- A byte in a number that ends at a byte that is no digit.
use Rattle.std.proofs.Common.{◌≡◌, ◌≢◌, ◌∙◌, sym, ap, subst, ℕ, zero, suc, List, ◌++◌, ◌∷◌, [], ◌+◌, ◌-◌, ◌*◌, ◌/◌, ◌%◌, ◌^◌, ◌≤◌, ◌<◌, decimal, append_assoc, append-nil, arith, refl, length, get_or, length-append, Option, Some, None}
use Rattle.std.proofs.lemmas.Fmt.{first_decimal, decimal_nonempty, decimal_injective, decimal_digit, decimal_step}
use Rattle.std.specs.Prelude.{IfSome}
use Rattle.or_sched.specs.Places.{digits_text, InNumber, DigitIs, WithinIs}
use Rattle.or_sched.proofs.Numbers.{front_le, behind_digit}

abbrev pub value_of : Option ℕ → ℕ
value_of None = 0
value_of (Some n) = n

-- one digit more, where the number isn't 0 already
pub digits_more : (number : Option ℕ) (d next : ℕ) → d < 10 → next ≡ 10 * value_of number + d → next < 2 ^ 64 → number ≢ Some 0
    → digits_text number ++ (48 + d) ∷ [] ≡ digits_text (Some next)
digits_more None d next digit is_next small some = let same : next ≡ d = omega arith in ap (λ k. (48 + k) ∷ []) (sym same) ∙ sym (decimal_digit next (omega arith))
digits_more (Some zero) d next digit is_next small some = absurd (some refl)
digits_more (Some (suc n)) d next digit is_next small some =
    let front : next / 10 ≡ suc n = omega arith in
    let last : next % 10 ≡ d = omega arith in
    sym (decimal_step next (omega arith) small ∙ ap (λ k. decimal k ++ (48 + next % 10) ∷ []) front ∙ ap (λ k. decimal (suc n) ++ (48 + k) ∷ []) last)

-- no digit stands behind a first 0
lone_zero : (number : Option ℕ) (x value : ℕ) (more : List ℕ) → value < 2 ^ 64 → digits_text number ++ x ∷ more ≡ decimal value → number ≢ Some 0
lone_zero number x zero more large e is_zero =
    let zero_text : decimal 0 ≡ 48 ∷ [] = decimal_digit 0 (omega arith) in
    let same : 48 ∷ x ∷ more ≡ 48 ∷ [] = ap (λ ds. ds ++ x ∷ more) (sym zero_text) ∙ ap (λ k. digits_text k ++ x ∷ more) (sym is_zero) ∙ e ∙ zero_text in
    absurd (omega (arith, ap length same))
lone_zero number x (suc value) more large e is_zero =
    let zero_text : decimal 0 ≡ 48 ∷ [] = decimal_digit 0 (omega arith) in
    let same : 48 ∷ x ∷ more ≡ decimal (suc value) = ap (λ ds. ds ++ x ∷ more) (sym zero_text) ∙ ap (λ k. digits_text k ++ x ∷ more) (sym is_zero) ∙ e in
    absurd (omega (arith, first_decimal (suc value) (omega arith) large, ap (λ ds. get_or ds 0 0) same))

-- the byte is the number's next digit, or its end
data AtByte (b : ℕ) (number : Option ℕ) (end value : ℕ) (more rest : List ℕ) : Type 0 where
  digit : (front : List ℕ) → digits_text number ++ b ∷ front ≡ decimal value → rest ≡ front ++ end ∷ more → AtByte b number end value more rest
  ends : digits_text number ≡ decimal value → b ≡ end → rest ≡ more → AtByte b number end value more rest

at_byte : (b : ℕ) (number : Option ℕ) (end value : ℕ) (more rest tail : List ℕ) → digits_text number ++ tail ≡ decimal value → b ∷ rest ≡ tail ++ end ∷ more
    → AtByte b number end value more rest
at_byte b number end value more rest [] e text =
    let is_end : b ≡ end = cc in let is_more : rest ≡ more = cc in ends (sym (append-nil (digits_text number)) ∙ e) is_end is_more
at_byte b number end value more rest (x ∷ tail) e text =
    let same : b ≡ x = cc in
    let is_rest : rest ≡ tail ++ end ∷ more = cc in
    digit tail (ap (λ k. digits_text number ++ k ∷ tail) same ∙ e) is_rest

pub field_digit : (number : Option ℕ) (end value d next : ℕ) (more rest : List ℕ) → d < 10 → end < 48 → next ≡ 10 * value_of number + d → next < 2 ^ 64 → value < 2 ^ 64
    → InNumber number end value more ((48 + d) ∷ rest) → (number ≢ Some 0) × (next ≤ value) × InNumber (Some next) end value more rest
field_digit number end value d next more rest small low is_next small_next large r =
    go (at_byte (48 + d) number end value more rest r.tail r.digits r.text)
  where
    go : AtByte (48 + d) number end value more rest → (number ≢ Some 0) × (next ≤ value) × InNumber (Some next) end value more rest
    go (ends e is_end text) = absurd (omega arith)
    go (digit front e text) =
        let some : number ≢ Some 0 = lone_zero number (48 + d) value front large e in
        let moved : digits_text (Some next) ++ front ≡ decimal value =
        ap (λ ds. ds ++ front) (sym (digits_more number d next small is_next small_next some)) ∙ append_assoc (digits_text number) ((48 + d) ∷ []) front ∙ e in
        (some, front_le next value front small_next large moved, record { tail = front; digits = moved; text = text })

pub field_back : (number : Option ℕ) (end value d next : ℕ) (more rest : List ℕ) → d < 10 → next ≡ 10 * value_of number + d → next < 2 ^ 64
    → number ≢ Some 0 → InNumber (Some next) end value more rest → InNumber number end value more ((48 + d) ∷ rest)
field_back number end value d next more rest small is_next small_next some r = record {
  tail = (48 + d) ∷ r.tail;
  digits = sym (append_assoc (digits_text number) ((48 + d) ∷ []) r.tail) ∙ ap (λ ds. ds ++ r.tail) (digits_more number d next small is_next small_next some) ∙ r.digits;
  text = ap (λ ds. (48 + d) ∷ ds) r.text;
}

pub field_end : (number : Option ℕ) (end value b : ℕ) (more rest : List ℕ) → (48 ≤ b → b ≤ 57 → ⊥) → value < 2 ^ 64
    → InNumber number end value more (b ∷ rest) → (b ≡ end) × (digits_text number ≡ decimal value) × (rest ≡ more)
field_end number end value b more rest no_digit large r = go (at_byte b number end value more rest r.tail r.digits r.text)
  where
    go : AtByte b number end value more rest → (b ≡ end) × (digits_text number ≡ decimal value) × (rest ≡ more)
    go (ends e is_end text) = (is_end, e, text)
    go (digit front e text) =
        let digit : (48 ≤ b) × (b ≤ 57) = behind_digit (digits_text number) value b front large e in
        absurd (no_digit digit.0 digit.1)

pub field_end_back : (end value : ℕ) (more : List ℕ) → InNumber (Some value) end value more (end ∷ more)
field_end_back end value more = record { tail = []; digits = append-nil (decimal value); text = refl }

pub field_value : (number value : ℕ) → number < 2 ^ 64 → value < 2 ^ 64 → digits_text (Some number) ≡ decimal value → number ≡ value
field_value number value small large e = decimal_injective number value small large e

pub field_none : (value : ℕ) → value < 2 ^ 64 → digits_text None ≡ decimal value → ⊥
field_none value large e = absurd (omega (arith, ap length e, decimal_nonempty value large))

pub digit_zero : (number : Option ℕ) (byte most : ℕ) → 48 ≤ byte → byte ≤ 57 → most < 2 ^ 32 → number ≡ Some 0 → DigitIs number byte most None
digit_zero number byte most low high small is_zero = λ end value more rest is_end fits r.
    let is_byte : byte ≡ 48 + (byte - 48) = omega arith in
    let moved : InNumber number end value more ((48 + (byte - 48)) ∷ rest) = subst (λ b. InNumber number end value more (b ∷ rest)) is_byte r in
    let no_number : 10 * value_of number + (byte - 48) < 2 ^ 64 = omega (arith, ap value_of is_zero) in
    (field_digit number end value (byte - 48) (10 * value_of number + (byte - 48)) more rest (omega arith) is_end refl no_number (omega arith) moved).0 is_zero

pub digit_within : (number : Option ℕ) (byte most next : ℕ) (result : Option ℕ) → 48 ≤ byte → byte ≤ 57 → most < 2 ^ 32 → next < 2 ^ 64
    → number ≢ Some 0 → next ≡ 10 * value_of number + (byte - 48) → WithinIs next most result → DigitIs number byte most result
digit_within number byte most next None low high small small_next some is_next within = λ end value more rest is_end fits r.
    let is_byte : byte ≡ 48 + (byte - 48) = omega arith in
    let moved : InNumber number end value more ((48 + (byte - 48)) ∷ rest) = subst (λ b. InNumber number end value more (b ∷ rest)) is_byte r in
    let below : next ≤ value = (field_digit number end value (byte - 48) next more rest (omega arith) is_end is_next small_next (omega arith) moved).1 in
    omega arith
digit_within number byte most next (Some found) low high small small_next some is_next within =
    let is_byte : byte ≡ 48 + (byte - 48) = omega arith in
    let same : found ≡ next = within.0 in
    let small_digit : byte - 48 < 10 = omega arith in
    record {
      fits = omega (arith, within.0, within.1);
      there = λ end value more rest is_end fits r.
          subst (λ k. InNumber (Some k) end value more rest) (sym same)
          (field_digit number end value (byte - 48) next more rest small_digit is_end is_next small_next (omega arith)
          (subst (λ b. InNumber number end value more (b ∷ rest)) is_byte r)).2;
      back = λ end value more rest r.
          subst (λ b. InNumber number end value more (b ∷ rest)) (sym is_byte)
          (field_back number end value (byte - 48) next more rest small_digit is_next small_next some (subst (λ k. InNumber (Some k) end value more rest) same r));
    }

-- a digit more is a byte more
pub longer_within : (number : Option ℕ) (byte most next : ℕ) (result : Option ℕ) → 48 ≤ byte → byte ≤ 57 → next < 2 ^ 64
    → number ≢ Some 0 → next ≡ 10 * value_of number + (byte - 48) → WithinIs next most result
    → IfSome result (λ n. length (digits_text (Some n)) ≡ length (digits_text number) + 1)
longer_within number byte most next None low high small some is_next within = tt
longer_within number byte most next (Some found) low high small some is_next within =
    omega (
      arith,
      ap length (digits_more number (byte - 48) next (omega arith) is_next small some),
      length-append (digits_text number) ((48 + (byte - 48)) ∷ []),
      ap (λ k. length (digits_text (Some k))) within.0,
    )

-- a number that begins with 0 is 0
pub zero_value : (end value : ℕ) (more rest : List ℕ) → value < 2 ^ 64 → InNumber (Some 0) end value more rest → value ≡ 0
zero_value end value more rest large r = zero_by value r.tail large r.digits
  where
    zero_by : (value : ℕ) (tail : List ℕ) → value < 2 ^ 64 → decimal 0 ++ tail ≡ decimal value → value ≡ 0
    zero_by value [] large e = decimal_injective value 0 large (omega arith) (sym e ∙ append-nil (decimal 0))
    zero_by value (x ∷ tail) large e = absurd (lone_zero (Some 0) x value tail large e refl)
