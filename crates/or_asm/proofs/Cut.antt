-- The first line of a text.
use Rattle.std.proofs.Common.{◌≡◌, ◌∙◌, refl, sym, ap, ℕ, suc, ◌+◌, ◌<◌, Bool, true, false, cond, eqb, List, [], ◌∷◌, length, take, drop, arith}
use Rattle.std.specs.List.{onto_first, position_or_len}
use Rattle.std.specs.Prelude.{not}
use Rattle.std.proofs.lemmas.List.{length-drop}
use Rattle.or_asm_read.specs.Cuts.{before, after}
use Rattle.or_asm.specs.Lines.{lines_of}

taken : (b n : ℕ) (bs : List ℕ) → take (1 + n) (b ∷ bs) ≡ b ∷ take n bs
taken b n bs = let e : 1 + n ≡ suc n = omega arith in ap (λ m. take m (b ∷ bs)) e

dropped : (b n : ℕ) (bs : List ℕ) → drop (1 + n + 1) (b ∷ bs) ≡ drop (n + 1) bs
dropped b n bs = let e : 1 + n + 1 ≡ suc (n + 1) = omega arith in ap (λ m. drop m (b ∷ bs)) e

-- the head of a list, and the rest, from equal parts
pair_up : (a b : List ℕ) (c d : List ℕ) → a ≡ b → c ≡ d → b ∷ lines_of d ≡ a ∷ lines_of c
pair_up a b c d e f = sym (ap (λ x. x ∷ lines_of c) e ∙ ap (λ x. b ∷ lines_of x) f)

-- the first byte ends the line, or goes on with it
by_first : (t : Bool) (b n : ℕ) (bs : List ℕ) → onto_first b (lines_of bs) ≡ take (1 + n) (b ∷ bs) ∷ lines_of (drop (1 + n + 1) (b ∷ bs))
    → cond t ([] ∷ lines_of bs) (onto_first b (lines_of bs)) ≡ take (cond (not t) (1 + n) 0) (b ∷ bs) ∷ lines_of (drop (cond (not t) (1 + n) 0 + 1) (b ∷ bs))
by_first true b n bs h = refl
by_first false b n bs h = h

pub first_line : (b : ℕ) (bs : List ℕ) → lines_of (b ∷ bs) ≡ before 10 (b ∷ bs) ∷ lines_of (after 10 (b ∷ bs))
first_line b [] = by_first (eqb b 10) b 0 [] refl
first_line b (c ∷ cs) =
    let n = position_or_len (λ x. eqb x 10) (c ∷ cs) in
    by_first (eqb b 10) b n (c ∷ cs) (ap (onto_first b) (first_line c cs) ∙ pair_up _ _ _ _ (taken b n (c ∷ cs)) (dropped b n (c ∷ cs)))

pub cut_first : (bs : List ℕ) → 0 < length bs → lines_of bs ≡ before 10 bs ∷ lines_of (after 10 bs)
cut_first [] some = absurd (omega arith)
cut_first (b ∷ bs) some = first_line b bs

pub cut_shorter : (bs : List ℕ) → 0 < length bs → length (after 10 bs) < length bs
cut_shorter bs some = omega (arith, length-drop (position_or_len (λ c. eqb c 10) bs + 1) bs)

pub ruleset cuts = (cut_first, cut_shorter)
