-- What is shown of a word is text.
use Rattle.std.proofs.Common.{get_or, ◌≡◌, ◌∙◌, suc, sym, ap, subst, ◌++◌, append-nil, codes, ℕ, ◌+◌, ◌≤◌, ◌<◌, Bool, true, false, cond, List, [], ◌∷◌, length, take, arith, refl}
use Rattle.std.specs.Prelude.{not}
use Rattle.std.specs.List.{All, before_first, position_or_len}
use Rattle.std.specs.Str.{IsUtf8}
use Rattle.std.proofs.lemmas.Bool.Decides.{nat_tests}
use Rattle.std.proofs.lemmas.List.{take_all}
use Rattle.std.proofs.lemmas.List.Elements.{All-nil, All-cons}
use Rattle.std.proofs.lemmas.Str.{IsUtf8-from_ascii}
use Rattle.std.proofs.lemmas.Str.Ascii.{IsAscii-from_all}
use Rattle.or_asm.specs.Sentences.{is_printable, is_dot, shown, name_words}

pub short_front : (word : List ℕ) → length word ≤ 32 → word ≡ take 32 word
short_front word short = sym (take_all 32 word short)

pub ruleset fronts = (short_front)

below : (b : ℕ) → is_printable b ≡ true → b < 128
below b e = grind (arith, nat_tests)

with_byte : (t : Bool) (x : ℕ) (xs : List ℕ) (n : ℕ) → (t ≡ true → x < 128) → All (λ b. b < 128) (take n xs)
    → All (λ b. b < 128) (take (cond (not (not t)) (1 + n) 0) (x ∷ xs))
with_byte true x xs n small all =
    let next : suc n ≡ 1 + n = omega arith in
    subst (λ m. All (λ b. b < 128) (take m (x ∷ xs))) next (All-cons (λ b. b < 128) x (take n xs) (small refl) all)
with_byte false x xs n small all = All-nil (λ b. b < 128)

all_below : (xs : List ℕ) → All (λ b. b < 128) (before_first (λ b. not (is_printable b)) xs)
all_below [] = All-nil (λ b. b < 128)
all_below (x ∷ xs) = with_byte (is_printable x) x xs (position_or_len (λ b. not (is_printable b)) xs) (below x) (all_below xs)

pub printable_text : (xs : List ℕ) → IsUtf8 (before_first (λ b. not (is_printable b)) xs)
printable_text xs = IsUtf8-from_ascii (before_first (λ b. not (is_printable b)) xs) (IsAscii-from_all (before_first (λ b. not (is_printable b)) xs) (all_below xs))

pub ruleset texts = (printable_text)

pub dotted : (word : List ℕ) → 1 ≤ length word → is_dot (get_or word 0 0) ≡ true → codes "no directive " ++ shown word ++ [] ≡ name_words word
dotted [] some dot = absurd (omega (arith, some))
dotted (b ∷ bs) some dot =
    append-nil (codes "no directive " ++ shown (b ∷ bs)) ∙ ap (λ t. cond t (codes "no directive " ++ shown (b ∷ bs)) (codes "no instruction " ++ shown (b ∷ bs))) (sym dot)
