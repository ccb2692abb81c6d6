-- Texts of letters, digits and a few marks, which nothing cuts.
use Rattle.std.proofs.Common.{◌≡◌, ◌∙◌, refl, ap, ℕ, suc, ◌+◌, ◌≤◌, ◌<◌, Bool, true, false, cond, ◌&&◌, ◌||◌, eqb, List, [], ◌∷◌, ◌++◌, take, drop, arith}
use Rattle.std.specs.Prelude.{not, ◌==◌}
use Rattle.std.specs.Char.{digit_value}
use Rattle.std.specs.List.{list_all, list_any, position_or_len, before_first, after_first}
use Rattle.std.specs.Str.Parse.{AllDigits}
use Rattle.std.proofs.lemmas.Bool.Decides.{nat_tests}
use Rattle.or_asm_read.specs.Cuts.{is_blank, is_label_byte, trimmed_start, onto, trimmed_end, trimmed}

-- the bytes of a name and of operands
abbrev pub is_mark : ℕ → Bool
is_mark b = is_label_byte b || b == 45 || b == 40 || b == 41 || b == 46

pub and_true : (a b : Bool) → (a && b) ≡ true → (a ≡ true) × (b ≡ true)
and_true true true e = (refl, refl)
and_true true false e = cc
and_true false b e = cc

pub all_append : (p : ℕ → Bool) (xs ys : List ℕ) → list_all p xs ≡ true → list_all p ys ≡ true → list_all p (xs ++ ys) ≡ true
all_append p [] ys f g = g
all_append p (x ∷ xs) ys f g =
    let both = and_true (p x) (list_all p xs) f in
    ap (λ t. t && list_all p (xs ++ ys)) both.0 ∙ all_append p xs ys both.1 g

-- where q fails for all that passes p
pub none_pass : (p q : ℕ → Bool) (xs : List ℕ) → ((b : ℕ) → p b ≡ true → q b ≡ false) → list_all p xs ≡ true → list_all (λ b. not (q b)) xs ≡ true
none_pass p q [] h f = refl
none_pass p q (x ∷ xs) h f =
    let both = and_true (p x) (list_all p xs) f in
    ap (λ t. not t && list_all (λ b. not (q b)) xs) (h x both.0) ∙ none_pass p q xs h both.1

-- a byte that p refuses is none that p takes
pub differs : (p : ℕ → Bool) (c : ℕ) → p c ≡ false → (b : ℕ) → p b ≡ true → eqb b c ≡ false
differs p c refused b taken = elim (eqb b c) as (λ t. eqb b c ≡ t → t ≡ false) [
  | true ↦ λ e. let same : b ≡ c = grind (arith, nat_tests) in let v : p b ≡ p c = ap p same in absurd cc
  | false ↦ λ e. refl
] refl

taken : (b n : ℕ) (bs : List ℕ) → take (1 + n) (b ∷ bs) ≡ b ∷ take n bs
taken b n bs = let e : 1 + n ≡ suc n = omega arith in ap (λ m. take m (b ∷ bs)) e

dropped : (b n : ℕ) (bs : List ℕ) → drop (1 + n + 1) (b ∷ bs) ≡ drop (n + 1) bs
dropped b n bs = let e : 1 + n + 1 ≡ suc (n + 1) = omega arith in ap (λ m. drop m (b ∷ bs)) e

pub not_true : (a : Bool) → not a ≡ true → a ≡ false
not_true true e = cc
not_true false e = refl

pub before_at : (q : ℕ → Bool) (xs : List ℕ) (y : ℕ) (ys : List ℕ) → list_all (λ b. not (q b)) xs ≡ true → q y ≡ true → before_first q (xs ++ y ∷ ys) ≡ xs
before_at q [] y ys f e = ap (λ t. take (cond (not t) (1 + position_or_len q ys) 0) (y ∷ ys)) e
before_at q (x ∷ xs) y ys f e =
    let both = and_true (not (q x)) (list_all (λ b. not (q b)) xs) f in
    ap (λ t. take (cond t (1 + position_or_len q (xs ++ y ∷ ys)) 0) (x ∷ (xs ++ y ∷ ys))) both.0
    ∙ taken x (position_or_len q (xs ++ y ∷ ys)) (xs ++ y ∷ ys) ∙ ap (λ l. x ∷ l) (before_at q xs y ys both.1 e)

pub after_at : (q : ℕ → Bool) (xs : List ℕ) (y : ℕ) (ys : List ℕ) → list_all (λ b. not (q b)) xs ≡ true → q y ≡ true → after_first q (xs ++ y ∷ ys) ≡ ys
after_at q [] y ys f e = ap (λ t. drop (cond (not t) (1 + position_or_len q ys) 0 + 1) (y ∷ ys)) e
after_at q (x ∷ xs) y ys f e =
    let both = and_true (not (q x)) (list_all (λ b. not (q b)) xs) f in
    ap (λ t. drop (cond t (1 + position_or_len q (xs ++ y ∷ ys)) 0 + 1) (x ∷ (xs ++ y ∷ ys))) both.0
    ∙ dropped x (position_or_len q (xs ++ y ∷ ys)) (xs ++ y ∷ ys) ∙ after_at q xs y ys both.1 e

pub before_none : (q : ℕ → Bool) (xs : List ℕ) → list_all (λ b. not (q b)) xs ≡ true → before_first q xs ≡ xs
before_none q [] f = refl
before_none q (x ∷ xs) f =
    let both = and_true (not (q x)) (list_all (λ b. not (q b)) xs) f in
    ap (λ t. take (cond t (1 + position_or_len q xs) 0) (x ∷ xs)) both.0
    ∙ taken x (position_or_len q xs) xs ∙ ap (λ l. x ∷ l) (before_none q xs both.1)

pub after_none : (q : ℕ → Bool) (xs : List ℕ) → list_all (λ b. not (q b)) xs ≡ true → after_first q xs ≡ []
after_none q [] f = refl
after_none q (x ∷ xs) f =
    let both = and_true (not (q x)) (list_all (λ b. not (q b)) xs) f in
    ap (λ t. drop (cond t (1 + position_or_len q xs) 0 + 1) (x ∷ xs)) both.0
    ∙ dropped x (position_or_len q xs) xs ∙ after_none q xs both.1

pub none_any : (q : ℕ → Bool) (xs : List ℕ) → list_all (λ b. not (q b)) xs ≡ true → list_any q xs ≡ false
none_any q [] f = refl
none_any q (x ∷ xs) f =
    let both = and_true (not (q x)) (list_all (λ b. not (q b)) xs) f in
    ap (λ t. t || list_any q xs) (not_true (q x) both.0) ∙ none_any q xs both.1

-- blanks
pub ended_same : (xs : List ℕ) → list_all (λ b. not (is_blank b)) xs ≡ true → trimmed_end xs ≡ xs
ended_same [] f = refl
ended_same (x ∷ []) f =
    let both = and_true (not (is_blank x)) true f in
    ap (λ t. cond t [] (x ∷ [])) (not_true (is_blank x) both.0)
ended_same (x ∷ y ∷ ys) f =
    let both = and_true (not (is_blank x)) (list_all (λ b. not (is_blank b)) (y ∷ ys)) f in
    ap (onto x) (ended_same (y ∷ ys) both.1)

pub skipped_first : (x : ℕ) (xs : List ℕ) → is_blank x ≡ false → trimmed_start (x ∷ xs) ≡ x ∷ xs
skipped_first x xs e = ap (λ t. cond t (trimmed_start xs) (x ∷ xs)) e

pub trimmed_same : (xs : List ℕ) → list_all (λ b. not (is_blank b)) xs ≡ true → trimmed xs ≡ xs
trimmed_same [] f = refl
trimmed_same (x ∷ xs) f =
    let both = and_true (not (is_blank x)) (list_all (λ b. not (is_blank b)) xs) f in
    ap trimmed_end (skipped_first x xs (not_true (is_blank x) both.0)) ∙ ended_same (x ∷ xs) f

-- what ends without blanks
pub ended_behind : (xs : List ℕ) (y : ℕ) (ys : List ℕ) → list_all (λ b. not (is_blank b)) (y ∷ ys) ≡ true → trimmed_end (xs ++ y ∷ ys) ≡ xs ++ y ∷ ys
ended_behind [] y ys f = ended_same (y ∷ ys) f
ended_behind (x ∷ xs) y ys f = ap (onto x) (ended_behind xs y ys f) ∙ onto_more x xs y ys where
  onto_more : (x : ℕ) (xs : List ℕ) (y : ℕ) (ys : List ℕ) → onto x (xs ++ y ∷ ys) ≡ x ∷ (xs ++ y ∷ ys)
  onto_more x [] y ys = refl
  onto_more x (z ∷ zs) y ys = refl

-- letters, digits and minus
abbrev pub is_plain : ℕ → Bool
is_plain b = is_label_byte b || b == 45

pub or_left : (a b : Bool) → a ≡ true → (a || b) ≡ true
or_left true b e = refl
or_left false b e = cc

pub plain_mark : (b : ℕ) → is_plain b ≡ true → is_mark b ≡ true
plain_mark b e = or_left _ (b == 46) (or_left _ (b == 41) (or_left (is_plain b) (b == 40) e))

pub later_plain : (b : ℕ) → is_label_byte b ≡ true → is_plain b ≡ true
later_plain b e = or_left (is_label_byte b) (b == 45) e

pub all_of : (p q : ℕ → Bool) → ((b : ℕ) → p b ≡ true → q b ≡ true) → (xs : List ℕ) → list_all p xs ≡ true → list_all q xs ≡ true
all_of p q h [] f = refl
all_of p q h (x ∷ xs) f =
    let both = and_true (p x) (list_all p xs) f in
    ap (λ t. t && list_all q xs) (h x both.0) ∙ all_of p q h xs both.1

-- digits are letters or digits
digit_later : (c : ℕ) → digit_value c < 16 → is_label_byte c ≡ true
digit_later c small = grind (arith, nat_tests)

pub digits_later : (base : ℕ) (ds : List ℕ) → base ≤ 16 → AllDigits base ds → list_all is_label_byte ds ≡ true
digits_later base [] low h = refl
digits_later base (c ∷ cs) low h =
    ap (λ t. t && list_all is_label_byte cs) (digit_later c (omega (arith, h.0))) ∙ digits_later base cs low h.1

-- what has only bytes that p takes has none that it refuses
pub none_such : (p : ℕ → Bool) (c : ℕ) → p c ≡ false → (xs : List ℕ) → list_all p xs ≡ true → list_all (λ b. not (b == c)) xs ≡ true
none_such p c refused xs f = none_pass p (λ b. b == c) xs (differs p c refused) f

pub mark_blank : (b : ℕ) → is_mark b ≡ true → is_blank b ≡ false
mark_blank b e = ap (λ t. t || b == 9) (differs is_mark 32 refl b e) ∙ differs is_mark 9 refl b e

pub no_blanks : (xs : List ℕ) → list_all is_mark xs ≡ true → list_all (λ b. not (is_blank b)) xs ≡ true
no_blanks xs f = none_pass is_mark is_blank xs mark_blank f
