-- A byte in a digest.
use Rattle.std.proofs.Common.{◌≡◌, ◌∙◌, sym, ap, subst, ℕ, zero, suc, List, ◌++◌, ◌∷◌, [], ◌+◌, ◌-◌, ◌*◌, ◌/◌, ◌%◌, ◌≤◌, ◌<◌, append_assoc, append-nil, arith, refl, length, length-append, take, inl, inr, ◌⊎◌, false, Option, Some, None}
use Rattle.std.proofs.lemmas.Bool.{cases_lt}
use Rattle.std.proofs.lemmas.Bool.Decides.{nat_tests}
use Rattle.std.proofs.lemmas.List.{length-replicate, take_all, take_more_set}
use Rattle.std.proofs.lemmas.List.Elements.{recursion_from_All, All-from_recursion}
use Rattle.std.proofs.Math.ListN.{set, length-set}
use Rattle.std.specs.Prelude.{replicate, slice_set}
use Rattle.std.specs.List.{AllByRecursion}
use Rattle.std.specs.Fmt.{digit_glyph}
use Rattle.or_text.specs.Hexadecimal.{digest_text}
use Rattle.or_sched.specs.HeadText.{IsDigest}
use Rattle.or_sched.specs.HeadPlaces.{InDigest}

glyph_low : (n : ℕ) → n < 10 → digit_glyph false n ≡ 48 + n
glyph_low n low = grind (arith, nat_tests)

glyph_high : (n : ℕ) → 10 ≤ n → digit_glyph false n ≡ 87 + n
glyph_high n high = grind (arith, nat_tests)

glyph_same : (m n : ℕ) → m < 16 → n < 16 → digit_glyph false m ≡ digit_glyph false n → m ≡ n
glyph_same m n small_m small_n same = go (cases_lt m 10) (cases_lt n 10)
  where
    go : (m < 10) ⊎ (10 ≤ m) → (n < 10) ⊎ (10 ≤ n) → m ≡ n
    go (inl a) (inl b) = omega (arith, same, glyph_low m a, glyph_low n b)
    go (inl a) (inr b) = absurd (omega (arith, same, glyph_low m a, glyph_high n b))
    go (inr a) (inl b) = absurd (omega (arith, same, glyph_high m a, glyph_low n b))
    go (inr a) (inr b) = omega (arith, same, glyph_high m a, glyph_high n b)

-- a hexadecimal digit
pub record IsHex (b : ℕ) : Type 0 where
  pub value : ℕ
  pub small : value < 16
  pub glyph : digit_glyph false value ≡ b

abbrev pub AreHex : List ℕ → Type 0
AreHex [] = Unit {0}
AreHex (b ∷ bytes) = IsHex b × AreHex bytes

abbrev pub AreBytes : List ℕ → Type 0
AreBytes [] = Unit {0}
AreBytes (b ∷ bytes) = (b < 256) × AreBytes bytes

are_bytes : (bytes : List ℕ) → AllByRecursion (λ byte. byte < 256) bytes → AreBytes bytes
are_bytes [] all = tt
are_bytes (b ∷ bytes) all = (all.0, are_bytes bytes all.1)

by_recursion : (bytes : List ℕ) → AreBytes bytes → AllByRecursion (λ byte. byte < 256) bytes
by_recursion [] all = tt
by_recursion (b ∷ bytes) all = (all.0, by_recursion bytes all.1)

pub bytes_of : (bytes : List ℕ) → IsDigest bytes → AreBytes bytes
bytes_of bytes is = are_bytes bytes (recursion_from_All (λ byte. byte < 256) bytes is.bytes)

pub digest_is : (bytes : List ℕ) → length bytes ≡ 32 → AreBytes bytes → IsDigest bytes
digest_is bytes long are = record { long = long; bytes = All-from_recursion (λ byte. byte < 256) bytes (by_recursion bytes are) }

bytes_set : (bytes : List ℕ) (i byte : ℕ) → byte < 256 → AreBytes bytes → AreBytes (set bytes i byte)
bytes_set [] i byte small are = tt
bytes_set (b ∷ bytes) zero byte small are = (small, are.1)
bytes_set (b ∷ bytes) (suc i) byte small are = (are.0, bytes_set bytes i byte small are.1)

-- a digest with another byte
pub digest_set : (bytes : List ℕ) (i byte : ℕ) → byte < 256 → IsDigest bytes → IsDigest (slice_set bytes i byte)
digest_set bytes i byte small is = digest_is (set bytes i byte) (length-set bytes i byte ∙ is.long) (bytes_set bytes i byte small (bytes_of bytes is))

hex_bytes : (bytes : List ℕ) → AreBytes bytes → AreHex (digest_text bytes)
hex_bytes [] are = tt
hex_bytes (b ∷ bytes) are =
    (record { value = b / 16; small = omega (arith, are.0); glyph = refl }, (record { value = b % 16; small = omega arith; glyph = refl }, hex_bytes bytes are.1))

bytes_take : (bytes : List ℕ) (n : ℕ) → AreBytes bytes → AreBytes (take n bytes)
bytes_take bytes zero are = tt
bytes_take [] (suc n) are = tt
bytes_take (b ∷ bytes) (suc n) are = (are.0, bytes_take bytes n are.1)

pub digest_length : (bytes : List ℕ) → length (digest_text bytes) ≡ 2 * length bytes
digest_length [] = refl
digest_length (b ∷ bytes) = omega (arith, digest_length bytes)

pub digest_append : (a b : List ℕ) → digest_text (a ++ b) ≡ digest_text a ++ digest_text b
digest_append [] b = refl
digest_append (x ∷ a) b = ap (λ t. digit_glyph false (x / 16) ∷ digit_glyph false (x % 16) ∷ t) (digest_append a b)

-- a digest has one text
pub digest_same : (a b : List ℕ) → AreBytes a → AreBytes b → digest_text a ≡ digest_text b → a ≡ b
digest_same [] [] is_a is_b same = refl
digest_same [] (y ∷ b) is_a is_b same = let no : [] ≡ digit_glyph false (y / 16) ∷ digit_glyph false (y % 16) ∷ digest_text b = same in cc
digest_same (x ∷ a) [] is_a is_b same = let no : digit_glyph false (x / 16) ∷ digit_glyph false (x % 16) ∷ digest_text a ≡ [] = same in cc
digest_same (x ∷ a) (y ∷ b) is_a is_b same =
    let high : digit_glyph false (x / 16) ≡ digit_glyph false (y / 16) = cc in
    let low : digit_glyph false (x % 16) ≡ digit_glyph false (y % 16) = cc in
    let rest : digest_text a ≡ digest_text b = cc in
    let upper : x / 16 ≡ y / 16 = glyph_same (x / 16) (y / 16) (omega (arith, is_a.0)) (omega (arith, is_b.0)) high in
    let lower : x % 16 ≡ y % 16 = glyph_same (x % 16) (y % 16) (omega arith) (omega arith) low in
    let head : x ≡ y = omega arith in
    ap (λ k. k ∷ a) head ∙ ap (λ t. y ∷ t) (digest_same a b is_a.1 is_b.1 rest)

-- digits that are even in number are a digest's
record Unhex (ds : List ℕ) (n : ℕ) : Type 0 where
  bytes : List ℕ
  are : AreBytes bytes
  long : length bytes ≡ n
  text : digest_text bytes ≡ ds

unhex : (n : ℕ) (ds : List ℕ) → AreHex ds → length ds ≡ 2 * n → Unhex ds n
unhex zero [] hex long = record { bytes = []; are = tt; long = refl; text = refl }
unhex zero (x ∷ ds) hex long = absurd (omega arith)
unhex (suc n) [] hex long = absurd (omega arith)
unhex (suc n) (x ∷ []) hex long = absurd (omega arith)
unhex (suc n) (x ∷ y ∷ ds) hex long =
    let rest : Unhex ds n = unhex n ds hex.1.1 (omega arith) in
    let high : IsHex x = hex.0 in
    let low : IsHex y = hex.1.0 in
    let front : (16 * high.value + low.value) / 16 ≡ high.value = omega (arith, low.small) in
    let back : (16 * high.value + low.value) % 16 ≡ low.value = omega (arith, low.small) in
    record {
      bytes = (16 * high.value + low.value) ∷ rest.bytes;
      are = (omega (arith, high.small, low.small), rest.are);
      long = omega (arith, rest.long);
      text = ap (λ k. digit_glyph false k ∷ digit_glyph false ((16 * high.value + low.value) % 16) ∷ digest_text rest.bytes) front
          ∙ ap (λ k. digit_glyph false high.value ∷ digit_glyph false k ∷ digest_text rest.bytes) back
          ∙ ap (λ k. k ∷ digit_glyph false low.value ∷ digest_text rest.bytes) high.glyph ∙ ap (λ k. x ∷ k ∷ digest_text rest.bytes) low.glyph
          ∙ ap (λ t. x ∷ y ∷ t) rest.text;
    }

hex_at : (front : List ℕ) (b : ℕ) (tail : List ℕ) → AreHex (front ++ b ∷ tail) → IsHex b
hex_at [] b tail hex = hex.0
hex_at (x ∷ front) b tail hex = hex_at front b tail hex.1

hex_zeros : (n : ℕ) → AreHex (replicate n 48)
hex_zeros zero = tt
hex_zeros (suc n) = (record { value = 0; small = omega arith; glyph = refl }, hex_zeros n)

hex_append : (a b : List ℕ) → AreHex a → AreHex b → AreHex (a ++ b)
hex_append [] b is_a is_b = is_b
hex_append (x ∷ a) b is_a is_b = (is_a.0, hex_append a b is_a.1 is_b)

-- what is known where a byte comes
record NextDigit (C : List ℕ → List ℕ → Type 0) (front rest : List ℕ) (b : ℕ) : Type 0 where
  hex : IsHex b
  digest : InDigest C (front ++ b ∷ []) rest

module _ (C : List ℕ → List ℕ → Type 0) where
  next_digit : (front rest tail more bytes : List ℕ) (b : ℕ) → length front < 64 → IsDigest bytes → front ++ tail ≡ digest_text bytes
      → b ∷ rest ≡ tail ++ 10 ∷ more → C bytes more → NextDigit C front rest b
  next_digit front rest [] more bytes b short is digits text c =
      absurd (omega (arith, ap length digits, length-append front [], digest_length bytes, is.long))
  next_digit front rest (x ∷ tail) more bytes b short is digits text c =
      let same : b ≡ x = cc in
      let is_rest : rest ≡ tail ++ 10 ∷ more = cc in
      let moved : front ++ b ∷ tail ≡ digest_text bytes = ap (λ k. front ++ k ∷ tail) same ∙ digits in
      record {
        hex = hex_at front b tail (subst AreHex (sym moved) (hex_bytes bytes (bytes_of bytes is)));
        digest = record { bytes = bytes; tail = tail; more = more; is = is; digits = append_assoc front (b ∷ []) tail ∙ moved; text = is_rest; follows = c };
      }

  -- before the 64th digit a hexadecimal digit comes, and any may
  pub digest_on : (front rest : List ℕ) (b : ℕ) → length front < 64 → InDigest C front (b ∷ rest) → IsHex b × InDigest C (front ++ b ∷ []) rest
  digest_on front rest b short d =
      let n : NextDigit C front rest b = next_digit front rest d.tail d.more d.bytes b short d.is d.digits d.text d.follows in
      (n.hex, n.digest)

  pub digest_back : (front rest : List ℕ) (b : ℕ) → InDigest C (front ++ b ∷ []) rest → InDigest C front (b ∷ rest)
  digest_back front rest b d = record {
    bytes = d.bytes;
    tail = b ∷ d.tail;
    more = d.more;
    is = d.is;
    digits = sym (append_assoc front (b ∷ []) d.tail) ∙ d.digits;
    text = ap (λ t. b ∷ t) d.text;
    follows = d.follows;
  }

  at_end : (bytes rest tail more others : List ℕ) (b : ℕ) → IsDigest bytes → IsDigest others → digest_text bytes ++ tail ≡ digest_text others
      → b ∷ rest ≡ tail ++ 10 ∷ more → C others more → (b ≡ 10) × C bytes rest
  at_end bytes rest [] more others b is are digits text c =
      let is_feed : b ≡ 10 = cc in
      let is_more : rest ≡ more = cc in
      let same : bytes ≡ others =
      digest_same bytes others (bytes_of bytes is) (bytes_of others are) (sym (append-nil (digest_text bytes)) ∙ digits) in
      (is_feed, subst (C bytes) (sym is_more) (subst (λ k. C k more) (sym same) c))
  at_end bytes rest (x ∷ tail) more others b is are digits text c =
      absurd (omega (arith, ap length digits, length-append (digest_text bytes) (x ∷ tail), digest_length bytes, digest_length others, is.long, are.long))

  -- behind the digits of all bytes stands the line feed
  pub digest_end : (bytes rest : List ℕ) (b : ℕ) → IsDigest bytes → InDigest C (digest_text bytes) (b ∷ rest) → (b ≡ 10) × C bytes rest
  digest_end bytes rest b is d = at_end bytes rest d.tail d.more d.bytes b is d.is d.digits d.text d.follows

  pub digest_ended : (bytes rest : List ℕ) → IsDigest bytes → C bytes rest → InDigest C (digest_text bytes) (10 ∷ rest)
  digest_ended bytes rest is c = record {
    bytes = bytes;
    tail = [];
    more = rest;
    is = is;
    digits = append-nil (digest_text bytes);
    text = refl;
    follows = c;
  }

  -- a digest of which nothing has come
  pub digest_from : (bytes rest more : List ℕ) → IsDigest bytes → rest ≡ digest_text bytes ++ 10 ∷ more → C bytes more → InDigest C [] rest
  digest_from bytes rest more is text c = record { bytes = bytes; tail = digest_text bytes; more = more; is = is; digits = refl; text = text; follows = c }

-- digits that have come are completed by zeros
pub record Filled (front : List ℕ) : Type 0 where
  pub bytes : List ℕ
  pub tail : List ℕ
  pub is : IsDigest bytes
  pub digits : front ++ tail ≡ digest_text bytes

pub filled : (front : List ℕ) → AreHex front → length front ≤ 64 → Filled front
filled front hex short =
    let u : Unhex (front ++ replicate (64 - length front) 48) 32 = unhex 32 (front ++ replicate (64 - length front) 48)
    (hex_append front (replicate (64 - length front) 48) hex (hex_zeros (64 - length front)))
    (omega (arith, length-append front (replicate (64 - length front) 48), length-replicate {A = ℕ} (64 - length front) 48)) in
    record { bytes = u.bytes; tail = replicate (64 - length front) 48; is = digest_is u.bytes u.long u.are; digits = sym u.text }

abbrev high_digits : Option ℕ → List ℕ
high_digits None = []
high_digits (Some high) = digit_glyph false high ∷ []

abbrev IsHighDigit : Option ℕ → ℕ → Type 0
IsHighDigit None count = Unit {0}
IsHighDigit (Some high) count = (high < 16) × (count < 32)

-- the digits so far of a digest
pub so_far_hex : (bytes : List ℕ) (count : ℕ) (high : Option ℕ) → IsDigest bytes → IsHighDigit high count → AreHex (digest_text (take count bytes) ++ high_digits high)
so_far_hex bytes count None is sound =
    hex_append (digest_text (take count bytes)) [] (hex_bytes (take count bytes) (bytes_take bytes count (bytes_of bytes is))) tt
so_far_hex bytes count (Some high) is sound =
    hex_append (digest_text (take count bytes)) (digit_glyph false high ∷ []) (hex_bytes (take count bytes) (bytes_take bytes count (bytes_of bytes is)))
    (record { value = high; small = sound.0; glyph = refl }, tt)

length_take : (bytes : List ℕ) (n : ℕ) → length (take n bytes) ≤ n
length_take bytes zero = omega arith
length_take [] (suc n) = omega arith
length_take (b ∷ bytes) (suc n) = omega (arith, length_take bytes n)

pub so_far_short : (bytes : List ℕ) (count : ℕ) (high : Option ℕ) → count ≤ 32 → IsHighDigit high count → length (digest_text (take count bytes) ++ high_digits high) ≤ 64
so_far_short bytes count None few sound =
    omega (arith, length-append (digest_text (take count bytes)) [], digest_length (take count bytes), length_take bytes count)
so_far_short bytes count (Some high) few sound =
    omega (arith, length-append (digest_text (take count bytes)) (digit_glyph false high ∷ []), digest_length (take count bytes), length_take bytes count, sound.1)

pub so_far_even : (bytes : List ℕ) (count : ℕ) → length (digest_text (take count bytes) ++ []) ≤ 2 * count
so_far_even bytes count = omega (arith, length-append (digest_text (take count bytes)) [], digest_length (take count bytes), length_take bytes count)

pub so_far_odd : (bytes : List ℕ) (count high : ℕ) → length (digest_text (take count bytes) ++ digit_glyph false high ∷ []) ≤ 2 * count + 1
so_far_odd bytes count high = omega (arith, length-append (digest_text (take count bytes)) (digit_glyph false high ∷ []), digest_length (take count bytes), length_take bytes count)

-- a high digit more
pub high_more : (bytes : List ℕ) (count byte value : ℕ) → digit_glyph false value ≡ byte
    → digest_text (take count bytes) ++ digit_glyph false value ∷ [] ≡ (digest_text (take count bytes) ++ []) ++ byte ∷ []
high_more bytes count byte value is =
    ap (λ b. digest_text (take count bytes) ++ b ∷ []) is ∙ ap (λ t. t ++ byte ∷ []) (sym (append-nil (digest_text (take count bytes))))

-- a low digit more
pub low_more : (bytes : List ℕ) (count byte value high : ℕ) → count < length bytes → value < 16 → digit_glyph false value ≡ byte
    → digest_text (take (count + 1) (slice_set bytes count (16 * high + value))) ++ [] ≡ (digest_text (take count bytes) ++ digit_glyph false high ∷ []) ++ byte ∷ []
low_more bytes count byte value high within small is =
    let upper : (16 * high + value) / 16 ≡ high = omega arith in
    let lower : (16 * high + value) % 16 ≡ value = omega arith in
    append-nil (digest_text (take (count + 1) (slice_set bytes count (16 * high + value))))
    ∙ ap digest_text (take_more_set bytes count (16 * high + value) within)
    ∙ digest_append (take count bytes) ((16 * high + value) ∷ [])
    ∙ ap (λ k. digest_text (take count bytes) ++ digit_glyph false k ∷ digit_glyph false ((16 * high + value) % 16) ∷ []) upper
    ∙ ap (λ k. digest_text (take count bytes) ++ digit_glyph false high ∷ digit_glyph false k ∷ []) lower
    ∙ ap (λ k. digest_text (take count bytes) ++ digit_glyph false high ∷ k ∷ []) is
    ∙ sym (append_assoc (digest_text (take count bytes)) (digit_glyph false high ∷ []) (byte ∷ []))

-- all bytes
pub so_far_whole : (bytes : List ℕ) (count : ℕ) → IsDigest bytes → count ≡ 32 → digest_text (take count bytes) ++ [] ≡ digest_text bytes
so_far_whole bytes count is all = append-nil (digest_text (take count bytes)) ∙ ap digest_text (take_all count bytes (omega (arith, is.long)))
