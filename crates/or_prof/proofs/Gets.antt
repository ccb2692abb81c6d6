-- What is found at a place of a list.
use Rattle.std.proofs.Common.{◌≡◌, ◌≢◌, ℕ, zero, suc, ◌<◌, List, [], ◌∷◌, ◌++◌, Some, ◌⊎◌, inl, inr, length, refl, ap, arith}
use Rattle.std.proofs.lemmas.Bool.Decides.{nat_tests}
use Rattle.std.specs.Prelude.{slice_get, slice_set}

pub nat_cases : (a b : ℕ) → (a ≡ b) ⊎ (a ≢ b)
nat_cases a b = grind (arith, nat_tests)

pub get-inside : {X : Type 0} (xs : List X) (k : ℕ) → k < length xs → (x : X) × (slice_get xs k ≡ Some x)
get-inside [] k inside = absurd (omega arith)
get-inside (x ∷ xs) zero inside = (x, refl)
get-inside (x ∷ xs) (suc k) inside = get-inside xs k (omega arith)

-- what stands in a list that grew stood there before, or is what was added
pub get-snoc : {X : Type 0} (xs : List X) (x y : X) (k : ℕ) → slice_get (xs ++ x ∷ []) k ≡ Some y → (slice_get xs k ≡ Some y) ⊎ (x ≡ y)
get-snoc [] x y zero found = inr (let e : x ≡ y = cc in e)
get-snoc [] x y (suc k) found = absurd (let b : ⊥ = cc in b)
get-snoc (z ∷ xs) x y zero found = inl found
get-snoc (z ∷ xs) x y (suc k) found = get-snoc xs x y k found

pub get-set : {X : Type 0} (xs : List X) (k : ℕ) (old new : X) → slice_get xs k ≡ Some old → slice_get (slice_set xs k new) k ≡ Some new
get-set [] k old new at = absurd (let b : ⊥ = cc in b)
get-set (x ∷ xs) zero old new at = refl
get-set (x ∷ xs) (suc k) old new at = get-set xs k old new at

pub get-set_same : {X : Type 0} (xs : List X) (k : ℕ) (old new got : X) → slice_get xs k ≡ Some old → slice_get (slice_set xs k new) k ≡ Some got → new ≡ got
get-set_same [] k old new got at found = absurd (let b : ⊥ = cc in b)
get-set_same (x ∷ xs) zero old new got at found = let e : new ≡ got = cc in e
get-set_same (x ∷ xs) (suc k) old new got at found = get-set_same xs k old new got at found

pub get-set_other : {X : Type 0} (xs : List X) (k other : ℕ) (new : X) → other ≢ k → slice_get (slice_set xs k new) other ≡ slice_get xs other
get-set_other [] k other new differ = refl
get-set_other (x ∷ xs) zero zero new differ = absurd (differ refl)
get-set_other (x ∷ xs) zero (suc other) new differ = refl
get-set_other (x ∷ xs) (suc k) zero new differ = refl
get-set_other (x ∷ xs) (suc k) (suc other) new differ = get-set_other xs k other new (λ same. differ (ap suc same))
