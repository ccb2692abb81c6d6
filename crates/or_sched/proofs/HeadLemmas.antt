-- A byte in the first two lines.
use Rattle.std.proofs.Common.{◌≡◌, ◌∙◌, sym, ap, subst, ℕ, zero, suc, List, ◌++◌, ◌∷◌, [], ◌+◌, ◌^◌, ◌≤◌, ◌<◌, arith, length, get_or, take, decimal, Option, Some, None}
use Rattle.std.proofs.lemmas.List.{append_cancel_left, take_all}
use Rattle.or_sched.specs.Places.{digits_text, DigitIs, DigitTo}
use Rattle.or_sched.specs.HeadPlaces.{InText, InField}
use Rattle.or_sched.proofs.Fields.{field_end, field_end_back, field_value, field_none, zero_value}

-- a byte in a text must be its next
text_byte : (w : List ℕ) (seen b : ℕ) (rest more : List ℕ) → seen < length w → take seen w ++ b ∷ rest ≡ w ++ more → b ≡ get_or w seen 0
text_byte [] seen b rest more lt e = absurd (omega arith)
text_byte (x ∷ w) zero b rest more lt e = cc
text_byte (x ∷ w) (suc seen) b rest more lt e = let tail : take seen w ++ b ∷ rest ≡ w ++ more = cc in text_byte w seen b rest more (omega arith) tail

text_more : (w : List ℕ) (seen b : ℕ) (rest : List ℕ) → seen < length w → b ≡ get_or w seen 0 → take (suc seen) w ++ rest ≡ take seen w ++ b ∷ rest
text_more [] seen b rest lt e = absurd (omega arith)
text_more (x ∷ w) zero b rest lt e = ap (λ k. k ∷ rest) (sym e)
text_more (x ∷ w) (suc seen) b rest lt e = ap (λ t. x ∷ t) (text_more w seen b rest (omega arith) e)

module _ (C : List ℕ → Type 0) (w : List ℕ) where
  pub text_on : (seen b : ℕ) (rest : List ℕ) → seen < length w → InText C w seen (b ∷ rest) → (b ≡ get_or w seen 0) × InText C w (seen + 1) rest
  text_on seen b rest lt t =
      let is : b ≡ get_or w seen 0 = text_byte w seen b rest t.more lt t.whole in
      let next : suc seen ≡ seen + 1 = omega arith in
      (is, subst (λ k. InText C w k rest) next (record { more = t.more; whole = text_more w seen b rest lt is ∙ t.whole; follows = t.follows }))

  pub text_back : (seen b : ℕ) (rest : List ℕ) → seen < length w → b ≡ get_or w seen 0 → InText C w (seen + 1) rest → InText C w seen (b ∷ rest)
  text_back seen b rest lt is t =
      let next : seen + 1 ≡ suc seen = omega arith in
      let t2 : InText C w (suc seen) rest = subst (λ k. InText C w k rest) next t in
      record { more = t2.more; whole = sym (text_more w seen b rest lt is) ∙ t2.whole; follows = t2.follows }

  -- behind the whole text
  pub text_end : (seen : ℕ) (rest : List ℕ) → length w ≤ seen → InText C w seen rest → C rest
  text_end seen rest all t =
      let same : rest ≡ t.more = append_cancel_left w rest t.more (ap (λ l. l ++ rest) (sym (take_all seen w all)) ∙ t.whole) in
      subst C (sym same) t.follows

  pub text_whole : (seen : ℕ) (rest : List ℕ) → length w ≤ seen → C rest → InText C w seen rest
  text_whole seen rest all c = record { more = rest; whole = ap (λ l. l ++ rest) (take_all seen w all); follows = c }

module _ (end least most : ℕ) (C : ℕ → List ℕ → Type 0) where
  pub field_there : (number : Option ℕ) (byte next : ℕ) (rest : List ℕ) → end < 48 → DigitTo number byte most next → InField number end least most C (byte ∷ rest) → InField (Some next) end least most C rest
  field_there number byte next rest low digit f = record {
    value = f.value;
    more = f.more;
    digits = digit.there end f.value f.more rest low f.small f.digits;
    large = f.large;
    small = f.small;
    follows = f.follows;
  }

  pub field_from : (number : Option ℕ) (byte next : ℕ) (rest : List ℕ) → DigitTo number byte most next → InField (Some next) end least most C rest → InField number end least most C (byte ∷ rest)
  field_from number byte next rest digit f = record {
    value = f.value;
    more = f.more;
    digits = digit.back end f.value f.more rest f.digits;
    large = f.large;
    small = f.small;
    follows = f.follows;
  }

  pub field_no : (number : Option ℕ) (byte : ℕ) (rest : List ℕ) → end < 48 → DigitIs number byte most None → InField number end least most C (byte ∷ rest) → ⊥
  field_no number byte rest low none f = none end f.value f.more rest low f.small f.digits

  -- no number of at least 1 begins with 0
  pub field_zero : (number : Option ℕ) (byte : ℕ) (rest : List ℕ) → end < 48 → 1 ≤ least → most < 2 ^ 32 → DigitTo number byte most 0 → InField number end least most C (byte ∷ rest) → ⊥
  field_zero number byte rest low some small digit f =
      let none : f.value ≡ 0 = zero_value end f.value f.more rest (omega (arith, f.small)) (digit.there end f.value f.more rest low f.small f.digits) in
      omega (arith, f.large)

  pub field_ends : (n b : ℕ) (rest : List ℕ) → (48 ≤ b → b ≤ 57 → ⊥) → n < 2 ^ 64 → most < 2 ^ 32 → InField (Some n) end least most C (b ∷ rest) → (b ≡ end) × C n rest
  field_ends n b rest no_digit small_n small f =
      let large : f.value < 2 ^ 64 = omega (arith, f.small) in
      let e : (b ≡ end) × (digits_text (Some n) ≡ decimal f.value) × (rest ≡ f.more) = field_end (Some n) end f.value b f.more rest no_digit large f.digits in
      let same : n ≡ f.value = field_value n f.value small_n large e.1 in
      (e.0, subst (λ k. C k rest) (sym same) (subst (C f.value) (sym e.2) f.follows))

  pub field_none_ends : (b : ℕ) (rest : List ℕ) → (48 ≤ b → b ≤ 57 → ⊥) → most < 2 ^ 32 → InField None end least most C (b ∷ rest) → ⊥
  field_none_ends b rest no_digit small f =
      let large : f.value < 2 ^ 64 = omega (arith, f.small) in
      field_none f.value large (field_end None end f.value b f.more rest no_digit large f.digits).1

  pub field_ended : (n : ℕ) (rest : List ℕ) → least ≤ n → n ≤ most → C n rest → InField (Some n) end least most C (end ∷ rest)
  field_ended n rest large small c = record { value = n; more = rest; digits = field_end_back end n rest; large = large; small = small; follows = c }
