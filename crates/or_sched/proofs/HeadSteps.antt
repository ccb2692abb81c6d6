-- A byte in a number of the second line.
use Rattle.std.proofs.Common.{◌≡◌, ◌≢◌, ◌∙◌, sym, ap, subst, ℕ, List, ◌++◌, ◌∷◌, [], ◌+◌, ◌*◌, ◌≤◌, ◌<◌, arith, refl, length, get_or, inl, inr, Option, Some, None, true, false}
use Rattle.std.specs.Prelude.{slice_set}
use Rattle.std.specs.Fmt.{digit_glyph}
use Rattle.or_sched.specs.declared.head.Known.{Known}
use Rattle.or_sched.specs.declared.head.Literal.{Literal}
use Rattle.or_sched.specs.declared.head.Literal.TheVariants.{Orsched, Cores, Budget, Ram, Latched, Image, Input}
use Rattle.or_sched.specs.declared.head.Field.{Field}
use Rattle.or_sched.specs.declared.head.Field.TheVariants.{Cores as CoresField, Budget as BudgetField, Ram as RamField}
use Rattle.or_sched.specs.declared.head.HeadPlace.TheVariants.{Text, Number, Digits}
use Rattle.or_sched.specs.declared.head.DigestLine.{DigestLine}
use Rattle.or_sched.specs.declared.head.DigestLine.TheVariants.{Image as ImageLine, Input as InputLine}
use Rattle.or_text.specs.Hexadecimal.{digest_text}
use Rattle.or_sched.specs.HeadText.{IsDigest}
use Rattle.or_sched.proofs.Digests.{IsHex, digest_on, digest_back, digest_end, digest_ended, digest_set, high_more, low_more, so_far_whole, so_far_even, so_far_odd}
use Rattle.or_sched.specs.Places.{DigitIs, DigitTo}
use Rattle.or_sched.specs.HeadPlaces.{literal_bytes, behind_literal, behind_digest, AtNumber, AtRam, AtDigits, FollowsLiteral, HeadCompletes, HeadStepKeeps, field_most, digest_of, digits_so_far, with_byte, IsHigh, AreDigests}
use Rattle.or_sched.proofs.HeadLemmas.{text_on, text_back, text_end, text_whole, field_there, field_from, field_no, field_zero, field_ends, field_none_ends, field_ended}

-- behind a text stands what follows it
pub word_end : (word : Literal) (final known : Known) (end rest : List ℕ) → FollowsLiteral final end word known rest → HeadCompletes final end known (behind_literal word) rest
word_end Orsched final known end rest f = f
word_end Cores final known end rest f = f
word_end Budget final known end rest f = f
word_end Ram final known end rest f = f
word_end Latched final known end rest f = f
word_end Image final known end rest f = f
word_end Input final known end rest f = f

pub word_from : (word : Literal) (final known : Known) (end rest : List ℕ) → HeadCompletes final end known (behind_literal word) rest → FollowsLiteral final end word known rest
word_from Orsched final known end rest f = f
word_from Cores final known end rest f = f
word_from Budget final known end rest f = f
word_from Ram final known end rest f = f
word_from Latched final known end rest f = f
word_from Image final known end rest f = f
word_from Input final known end rest f = f

pub text_moves : (known : Known) (word : Literal) (seen byte : ℕ) → seen < length (literal_bytes word) → length (literal_bytes word) ≤ seen + 1 → byte ≡ get_or (literal_bytes word) seen 0
    → HeadStepKeeps known (Text word seen) byte known (behind_literal word)
text_moves known word seen byte lt last is = record {
  keeps = λ final end rest t. word_end word final known end rest
      (text_end (FollowsLiteral final end word known) (literal_bytes word) (seen + 1) rest last (text_on (FollowsLiteral final end word known) (literal_bytes word) seen byte rest lt t).1);
  back = λ final end rest r. text_back (FollowsLiteral final end word known) (literal_bytes word) seen byte rest lt is
      (text_whole (FollowsLiteral final end word known) (literal_bytes word) (seen + 1) rest last (word_from word final known end rest r));
}

pub number_no : (field : Field) (known final : Known) (end rest : List ℕ) (number : Option ℕ) (byte : ℕ) → DigitIs number byte (field_most field) None
    → AtNumber final end field known number (byte ∷ rest) → ⊥
number_no CoresField known final end rest number byte none f = field_no 32 1 8 _ number byte rest (omega arith) none f
number_no BudgetField known final end rest number byte none f = field_no 32 1 67108864 _ number byte rest (omega arith) none f
number_no RamField known final end rest number byte none (inl f) = field_no 10 1 256 _ number byte rest (omega arith) none f
number_no RamField known final end rest number byte none (inr f) = field_no 32 1 256 _ number byte rest (omega arith) none f.1

pub number_zero : (field : Field) (known final : Known) (end rest : List ℕ) (number : Option ℕ) (byte : ℕ) → DigitTo number byte (field_most field) 0
    → AtNumber final end field known number (byte ∷ rest) → ⊥
number_zero CoresField known final end rest number byte digit f = field_zero 32 1 8 _ number byte rest (omega arith) (omega arith) (omega arith) digit f
number_zero BudgetField known final end rest number byte digit f = field_zero 32 1 67108864 _ number byte rest (omega arith) (omega arith) (omega arith) digit f
number_zero RamField known final end rest number byte digit (inl f) = field_zero 10 1 256 _ number byte rest (omega arith) (omega arith) (omega arith) digit f
number_zero RamField known final end rest number byte digit (inr f) = field_zero 32 1 256 _ number byte rest (omega arith) (omega arith) (omega arith) digit f.1

pub number_none : (field : Field) (known final : Known) (end rest : List ℕ) (byte : ℕ) → (48 ≤ byte → byte ≤ 57 → ⊥)
    → AtNumber final end field known None (byte ∷ rest) → ⊥
number_none CoresField known final end rest byte no_digit f = field_none_ends 32 1 8 _ byte rest no_digit (omega arith) f
number_none BudgetField known final end rest byte no_digit f = field_none_ends 32 1 67108864 _ byte rest no_digit (omega arith) f
number_none RamField known final end rest byte no_digit (inl f) = field_none_ends 10 1 256 _ byte rest no_digit (omega arith) f
number_none RamField known final end rest byte no_digit (inr f) = field_none_ends 32 1 256 _ byte rest no_digit (omega arith) f.1

pub number_moves : (field : Field) (known : Known) (number : Option ℕ) (byte next : ℕ) → DigitTo number byte (field_most field) next
    → HeadStepKeeps known (Number field number) byte known (Number field (Some next))
number_moves CoresField known number byte next digit = record {
  keeps = λ final end rest f. field_there 32 1 8 _ number byte next rest (omega arith) digit f;
  back = λ final end rest f. field_from 32 1 8 _ number byte next rest digit f;
}
number_moves BudgetField known number byte next digit = record {
  keeps = λ final end rest f. field_there 32 1 67108864 _ number byte next rest (omega arith) digit f;
  back = λ final end rest f. field_from 32 1 67108864 _ number byte next rest digit f;
}
number_moves RamField known number byte next digit = record {
  keeps = λ final end rest f. there final end rest f;
  back = λ final end rest f. from final end rest f;
}
  where
    there : (final : Known) (end rest : List ℕ) → AtRam final end known number (byte ∷ rest) → AtRam final end known (Some next) rest
    there final end rest (inl f) = inl (field_there 10 1 256 _ number byte next rest (omega arith) digit f)
    there final end rest (inr f) = inr (f.0, field_there 32 1 256 _ number byte next rest (omega arith) digit f.1)

    from : (final : Known) (end rest : List ℕ) → AtRam final end known (Some next) rest → AtRam final end known number (byte ∷ rest)
    from final end rest (inl f) = inl (field_from 10 1 256 _ number byte next rest digit f)
    from final end rest (inr f) = inr (f.0, field_from 32 1 256 _ number byte next rest digit f.1)

module _ (known : Known) (n byte : ℕ) (low : 1 ≤ n) (no_digit : 48 ≤ byte → byte ≤ 57 → ⊥) where
  pub cores_other : n ≤ 8 → byte ≢ 32 → (final : Known) (end rest : List ℕ) → AtNumber final end CoresField known (Some n) (byte ∷ rest) → ⊥
  cores_other high other = λ final end rest f. other (field_ends 32 1 8 _ n byte rest no_digit (omega arith) (omega arith) f).0

  pub budget_other : n ≤ 67108864 → byte ≢ 32 → (final : Known) (end rest : List ℕ) → AtNumber final end BudgetField known (Some n) (byte ∷ rest) → ⊥
  budget_other high other = λ final end rest f. other (field_ends 32 1 67108864 _ n byte rest no_digit (omega arith) (omega arith) f).0

  pub ram_other : n ≤ 256 → byte ≢ 10 → (byte ≡ 32 → known.version ≡ 2 → ⊥) → (final : Known) (end rest : List ℕ) → AtNumber final end RamField known (Some n) (byte ∷ rest) → ⊥
  ram_other high other no_latch final end rest (inl f) = other (field_ends 10 1 256 _ n byte rest no_digit (omega arith) (omega arith) f).0
  ram_other high other no_latch final end rest (inr f) = no_latch (field_ends 32 1 256 _ n byte rest no_digit (omega arith) (omega arith) f.1).0 f.0

pub cores_end : (known : Known) (n : ℕ) → 1 ≤ n → n ≤ 8
    → HeadStepKeeps known (Number CoresField (Some n)) 32 (record known { cores = n }) (Text Budget 0)
cores_end known n low high = record {
  keeps = λ final end rest f. (field_ends 32 1 8 _ n 32 rest (λ a b. omega arith) (omega arith) (omega arith) f).1;
  back = λ final end rest r. field_ended 32 1 8 _ n rest low high r;
}

pub budget_end : (known : Known) (n : ℕ) → 1 ≤ n → n ≤ 67108864
    → HeadStepKeeps known (Number BudgetField (Some n)) 32 (record known { budget = n }) (Text Ram 0)
budget_end known n low high = record {
  keeps = λ final end rest f. (field_ends 32 1 67108864 _ n 32 rest (λ a b. omega arith) (omega arith) (omega arith) f).1;
  back = λ final end rest r. field_ended 32 1 67108864 _ n rest low high r;
}

pub ram_feed : (known : Known) (n : ℕ) → 1 ≤ n → n ≤ 256
    → HeadStepKeeps known (Number RamField (Some n)) 10 (record known { ram = n; latched = false }) (Text Image 0)
ram_feed known n low high = record { keeps = λ final end rest f. there final end rest f; back = λ final end rest r. inl (field_ended 10 1 256 _ n rest low high r) }
  where
    there : (final : Known) (end rest : List ℕ) → AtRam final end known (Some n) (10 ∷ rest)
        → HeadCompletes final end (record known { ram = n; latched = false }) (Text Image 0) rest
    there final end rest (inl f) = (field_ends 10 1 256 _ n 10 rest (λ a b. omega arith) (omega arith) (omega arith) f).1
    there final end rest (inr f) = let no : ◌≡◌ {A = ℕ} 10 32 = (field_ends 32 1 256 _ n 10 rest (λ a b. omega arith) (omega arith) (omega arith) f.1).0 in absurd (omega arith)

pub ram_latched : (known : Known) (n : ℕ) → 1 ≤ n → n ≤ 256 → known.version ≡ 2
    → HeadStepKeeps known (Number RamField (Some n)) 32 (record known { ram = n; latched = true }) (Text Latched 0)
ram_latched known n low high two = record { keeps = λ final end rest f. there final end rest f; back = λ final end rest r. inr (two, field_ended 32 1 256 _ n rest low high r) }
  where
    there : (final : Known) (end rest : List ℕ) → AtRam final end known (Some n) (32 ∷ rest)
        → HeadCompletes final end (record known { ram = n; latched = true }) (Text Latched 0) rest
    there final end rest (inl f) = let no : ◌≡◌ {A = ℕ} 32 10 = (field_ends 10 1 256 _ n 32 rest (λ a b. omega arith) (omega arith) (omega arith) f).0 in absurd (omega arith)
    there final end rest (inr f) = (field_ends 32 1 256 _ n 32 rest (λ a b. omega arith) (omega arith) (omega arith) f.1).1

-- a digit of a digest leads on
digits_on : (line : DigestLine) (final known : Known) (end rest front : List ℕ) (byte : ℕ) → length front < 64
    → AtDigits final end line known front (byte ∷ rest) → IsHex byte × AtDigits final end line known (front ++ byte ∷ []) rest
digits_on ImageLine final known end rest front byte short d = digest_on _ front rest byte short d
digits_on InputLine final known end rest front byte short d = digest_on _ front rest byte short d

digits_back : (line : DigestLine) (final known : Known) (end rest front : List ℕ) (byte : ℕ)
    → AtDigits final end line known (front ++ byte ∷ []) rest → AtDigits final end line known front (byte ∷ rest)
digits_back ImageLine final known end rest front byte d = digest_back _ front rest byte d
digits_back InputLine final known end rest front byte d = digest_back _ front rest byte d

-- what came of a digest tells no more than its digits
digits_known : (line : DigestLine) (final known : Known) (end rest front : List ℕ) (place byte : ℕ)
    → AtDigits final end line (with_byte known line place byte) front rest → AtDigits final end line known front rest
digits_known ImageLine final known end rest front place byte d = d
digits_known InputLine final known end rest front place byte d = d

known_digits : (line : DigestLine) (final known : Known) (end rest front : List ℕ) (place byte : ℕ)
    → AtDigits final end line known front rest → AtDigits final end line (with_byte known line place byte) front rest
known_digits ImageLine final known end rest front place byte d = d
known_digits InputLine final known end rest front place byte d = d

digest_with : (line : DigestLine) (known : Known) (place byte : ℕ) → digest_of line (with_byte known line place byte) ≡ slice_set (digest_of line known) place byte
digest_with ImageLine known place byte = refl
digest_with InputLine known place byte = refl

-- before the last digit
short_by : (bytes : List ℕ) (count : ℕ) (high : Option ℕ) → count < 32 → IsHigh high count → length (digits_so_far bytes count high) < 64
short_by bytes count None few sound = omega (arith, so_far_even bytes count)
short_by bytes count (Some high) few sound = omega (arith, so_far_odd bytes count high)

pub digit_refused : (line : DigestLine) (known : Known) (count byte : ℕ) (high : Option ℕ) → count < 32 → IsHigh high count → (IsHex byte → ⊥)
    → (final : Known) (end rest : List ℕ) → HeadCompletes final end known (Digits line count high) (byte ∷ rest) → ⊥
digit_refused line known count byte high few sound other final end rest d =
    other (digits_on line final known end rest (digits_so_far (digest_of line known) count high) byte (short_by (digest_of line known) count high few sound) d).0

pub high_moves : (line : DigestLine) (known : Known) (count byte value : ℕ) → count < 32 → digit_glyph false value ≡ byte
    → HeadStepKeeps known (Digits line count None) byte known (Digits line count (Some value))
high_moves line known count byte value few is =
    let more : digits_so_far (digest_of line known) count (Some value) ≡ digits_so_far (digest_of line known) count None ++ byte ∷ [] =
    high_more (digest_of line known) count byte value is in
    record {
      keeps = λ final end rest d. subst (λ f. AtDigits final end line known f rest) (sym more)
          (digits_on line final known end rest (digits_so_far (digest_of line known) count None) byte (short_by (digest_of line known) count None few tt) d).1;
      back = λ final end rest d. digits_back line final known end rest (digits_so_far (digest_of line known) count None) byte
          (subst (λ f. AtDigits final end line known f rest) more d);
    }

pub low_moves : (line : DigestLine) (known : Known) (count byte value high : ℕ) → count < 32 → high < 16 → value < 16 → digit_glyph false value ≡ byte
    → length (digest_of line known) ≡ 32
    → HeadStepKeeps known (Digits line count (Some high)) byte (with_byte known line count (16 * high + value)) (Digits line (count + 1) None)
low_moves line known count byte value high few upper lower is long =
    let more : digits_so_far (digest_of line (with_byte known line count (16 * high + value))) (count + 1) None ≡ digits_so_far (digest_of line known) count (Some high) ++ byte ∷ [] =
    ap (λ b. digits_so_far b (count + 1) None) (digest_with line known count (16 * high + value)) ∙ low_more (digest_of line known) count byte value high (omega (arith, long)) lower is in
    record {
      keeps = λ final end rest d. subst (λ f. AtDigits final end line (with_byte known line count (16 * high + value)) f rest) (sym more)
          (known_digits line final known end rest (digits_so_far (digest_of line known) count (Some high) ++ byte ∷ []) count (16 * high + value)
          (digits_on line final known end rest (digits_so_far (digest_of line known) count (Some high)) byte (short_by (digest_of line known) count (Some high) few (upper, few)) d).1);
      back = λ final end rest d. digits_back line final known end rest (digits_so_far (digest_of line known) count (Some high)) byte
          (digits_known line final known end rest (digits_so_far (digest_of line known) count (Some high) ++ byte ∷ []) count (16 * high + value)
          (subst (λ f. AtDigits final end line (with_byte known line count (16 * high + value)) f rest) more d));
    }

pub digests_with : (line : DigestLine) (known : Known) (count byte : ℕ) → byte < 256 → AreDigests known → AreDigests (with_byte known line count byte)
digests_with ImageLine known count byte small are = (digest_set known.image count byte small are.0, are.1)
digests_with InputLine known count byte small are = (are.0, digest_set known.input count byte small are.1)

pub digest_known : (line : DigestLine) (known : Known) → AreDigests known → IsDigest (digest_of line known)
digest_known ImageLine known are = are.0
digest_known InputLine known are = are.1

-- behind a digest
line_ends : (line : DigestLine) (final known : Known) (end rest : List ℕ) (byte : ℕ) → AreDigests known
    → AtDigits final end line known (digest_text (digest_of line known)) (byte ∷ rest) → (byte ≡ 10) × HeadCompletes final end known (behind_digest line) rest
line_ends ImageLine final known end rest byte are d = digest_end _ known.image rest byte are.0 d
line_ends InputLine final known end rest byte are d = digest_end _ known.input rest byte are.1 d

line_ended : (line : DigestLine) (final known : Known) (end rest : List ℕ) → AreDigests known
    → HeadCompletes final end known (behind_digest line) rest → AtDigits final end line known (digest_text (digest_of line known)) (10 ∷ rest)
line_ended ImageLine final known end rest are c = digest_ended _ known.image rest are.0 c
line_ended InputLine final known end rest are c = digest_ended _ known.input rest are.1 c

no_high : (high : Option ℕ) (count : ℕ) → count ≡ 32 → IsHigh high count → high ≡ None
no_high None count all sound = refl
no_high (Some high) count all sound = absurd (omega (arith, sound.1))

whole_digits : (line : DigestLine) (known : Known) (count : ℕ) (high : Option ℕ) → count ≡ 32 → IsHigh high count → AreDigests known
    → digits_so_far (digest_of line known) count high ≡ digest_text (digest_of line known)
whole_digits line known count high all sound are =
    ap (digits_so_far (digest_of line known) count) (no_high high count all sound) ∙ so_far_whole (digest_of line known) count (digest_known line known are) all

pub feed_refused : (line : DigestLine) (known : Known) (count byte : ℕ) (high : Option ℕ) → count ≡ 32 → IsHigh high count → byte ≢ 10 → AreDigests known
    → (final : Known) (end rest : List ℕ) → HeadCompletes final end known (Digits line count high) (byte ∷ rest) → ⊥
feed_refused line known count byte high all sound other are final end rest d =
    other (line_ends line final known end rest byte are (subst (λ f. AtDigits final end line known f (byte ∷ rest)) (whole_digits line known count high all sound are) d)).0

pub feed_moves : (line : DigestLine) (known : Known) (count byte : ℕ) (high : Option ℕ) → count ≡ 32 → IsHigh high count → byte ≡ 10 → AreDigests known
    → HeadStepKeeps known (Digits line count high) byte known (behind_digest line)
feed_moves line known count byte high all sound is are = record {
  keeps = λ final end rest d.
      (line_ends line final known end rest byte are (subst (λ f. AtDigits final end line known f (byte ∷ rest)) (whole_digits line known count high all sound are) d)).1;
  back = λ final end rest c. subst (λ f. AtDigits final end line known f (byte ∷ rest)) (sym (whole_digits line known count high all sound are))
      (subst (λ b. AtDigits final end line known (digest_text (digest_of line known)) (b ∷ rest)) (sym is) (line_ended line final known end rest are c));
}
