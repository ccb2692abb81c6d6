-- Cores that are taken out of a list by their numbers.
use Rattle.std.proofs.Common.{◌≡◌, ◌≢◌, ℕ, zero, suc, ◌+◌, ◌-◌, ◌<◌, List, [], ◌∷◌, ◌++◌, length, map, drop, get_or, refl, sym, ap, ◌∙◌, arith}
use Rattle.std.specs.List.{remove}
use Rattle.std.proofs.lemmas.List.Edits.{length-remove, get_or-remove_below, get_or-remove_above}
use mathlib.Core.Logic.{dite}
use native.Mathlib.Decide.{dec_lt}
use Rattle.or_model.specs.Core.{Core}
use Rattle.or_turn.specs.Schedules.{core_at, no_core}
use Rattle.or_turn.specs.Ordered.{Numbered}

-- each element of what is left was there
pub left_among : (xs : List Core) (p i : ℕ) → p < length xs → i < length (remove xs p) → (j : ℕ) × (j < length xs) × (core_at xs j ≡ core_at (remove xs p) i)
left_among xs p i h l = let n = length-remove xs p h in dite (dec_lt i p)
    (λ a. (i, omega arith, sym (get_or-remove_below xs p (no_core) i a h)))
    (λ b. (i + 1, omega arith, sym (get_or-remove_above xs p (no_core) i (omega arith) h)))

-- another core is still there
pub still_numbered : (xs : List Core) (p n : ℕ) → p < length xs → (core_at xs p).number ≢ n → Numbered n xs → Numbered n (remove xs p)
still_numbered xs p n h other k = let len = length-remove xs p h in let i : ℕ = k.0 in let inside = k.1 in
    let apart : i ≢ p = λ e. other (ap (λ (j : ℕ). (core_at xs j).number) (sym e) ∙ k.2) in dite (dec_lt i p)
    (λ a. (i, omega arith, ap (λ (c : Core). c.number) (get_or-remove_below xs p (no_core) i a h) ∙ k.2))
    (λ b. (i - 1, omega arith, ap (λ (c : Core). c.number) (get_or-remove_above xs p (no_core) (i - 1) (omega arith) h ∙ ap (core_at xs) (let z : i - 1 + 1 ≡ i = omega arith in z)) ∙ k.2))

pub or_any : (xs : List Core) (i : ℕ) (a b : Core) → i < length xs → get_or xs i a ≡ get_or xs i b
or_any [] i a b h = absurd (omega arith)
or_any (x ∷ xs) zero a b h = refl
or_any (x ∷ xs) (suc i) a b h = or_any xs i a b (omega arith)

pub snoc_below : (xs : List Core) (k : Core) (i : ℕ) → i < length xs → core_at (xs ++ k ∷ []) i ≡ core_at xs i
snoc_below [] k i h = absurd (omega arith)
snoc_below (x ∷ xs) k zero h = refl
snoc_below (x ∷ xs) k (suc i) h = snoc_below xs k i (omega arith)

pub snoc_end : (xs : List Core) (k : Core) (i : ℕ) → i ≡ length xs → core_at (xs ++ k ∷ []) i ≡ k
snoc_end [] k zero h = refl
snoc_end [] k (suc i) h = absurd (omega arith)
snoc_end (x ∷ xs) k zero h = absurd (omega arith)
snoc_end (x ∷ xs) k (suc i) h = snoc_end xs k i (omega arith)

pub same_row : (xs ys : List Core) → length xs ≡ length ys → ((n : ℕ) → n < length xs → core_at xs n ≡ core_at ys n) → xs ≡ ys
same_row [] [] e h = refl
same_row [] (y ∷ ys) e h = absurd (omega arith)
same_row (x ∷ xs) [] e h = absurd (omega arith)
same_row (x ∷ xs) (y ∷ ys) e h = let first : x ≡ y = h 0 (omega arith) in λ i. first i ∷ same_row xs ys (omega arith) (λ n l. h (suc n) (omega arith)) i

pub map_row : (f : ℕ → Core) (xs : List ℕ) (i : ℕ) → i < length xs → core_at (map f xs) i ≡ f (get_or xs i 0)
map_row f [] i h = absurd (omega arith)
map_row f (x ∷ xs) zero h = refl
map_row f (x ∷ xs) (suc i) h = map_row f xs i (omega arith)

-- what is left of a row, without its first
pub row_rest : (xs all : List Core) (n : ℕ) → xs ≡ drop n all → remove xs 0 ≡ drop (n + 1) all
row_rest xs all n e = ap (λ (l : List Core). remove l 0) e ∙ go all n
  where
    go : (l : List Core) (n : ℕ) → remove (drop n l) 0 ≡ drop (n + 1) l
    go [] zero = refl
    go [] (suc n) = let z : suc n + 1 ≡ suc (n + 1) = omega arith in ap (λ (k : ℕ). drop k []) (sym z)
    go (x ∷ xs) zero = refl
    go (x ∷ xs) (suc n) = let z : suc n + 1 ≡ suc (n + 1) = omega arith in go xs n ∙ ap (λ (k : ℕ). drop k (x ∷ xs)) (sym z)
