-- A word behind the last piece.
use Rattle.std.proofs.Common.{◌≡◌, ◌∙◌, refl, sym, ap, ℕ, List, [], ◌∷◌, ◌++◌}
use Rattle.or_asm.specs.Program.{appended, extended}

extended_more : (word : ℕ) (p : ℕ × List ℕ) (ps : List (ℕ × List ℕ)) (q : ℕ × List ℕ) → extended word (p ∷ (ps ++ q ∷ [])) ≡ p ∷ extended word (ps ++ q ∷ [])
extended_more word p [] q = refl
extended_more word p (x ∷ xs) q = refl

extended_last : (word : ℕ) (ps : List (ℕ × List ℕ)) (q : ℕ × List ℕ) → extended word (ps ++ q ∷ []) ≡ ps ++ appended word q ∷ []
extended_last word [] q = refl
extended_last word (p ∷ ps) q = extended_more word p ps q ∙ ap (λ x. p ∷ x) (extended_last word ps q)

pub extend_step : (word : ℕ) (old rest new : List (ℕ × List ℕ)) (p q : ℕ × List ℕ) → old ≡ rest ++ p ∷ [] → new ≡ rest ++ q ∷ [] → q ≡ appended word p → new ≡ extended word old
extend_step word old rest new p q before after same =
    after ∙ ap (λ x. rest ++ x ∷ []) same ∙ sym (ap (extended word) before ∙ extended_last word rest p)
