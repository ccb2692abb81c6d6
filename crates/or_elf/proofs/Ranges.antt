-- What is kept of the numbers of a range, found one number after another.
use Rattle.std.proofs.Common.{◌≡◌, ◌∙◌, ap, sym, ℕ, suc, ◌+◌, ◌-◌, ◌<◌, ◌≤◌, Bool, List, [], ◌∷◌, ◌++◌, true, false, append_assoc, arith, append-nil, map, Some, None}
use Rattle.std.specs.List.{filter, find, range_with_len}

abbrev pub kept_of : {X : Type 0} → (ℕ → X) → (ℕ → Bool) → ℕ → ℕ → List X
kept_of f test index count = map f (filter test (range_with_len index count))

-- the next number is kept
pub kept_taken : {X : Type 0} (f : ℕ → X) (test : ℕ → Bool) (index count : ℕ) (old new whole : List X) → index < count
    → test index ≡ true → new ≡ old ++ f index ∷ []
    → old ++ kept_of f test index (count - index) ≡ whole → new ++ kept_of f test (index + 1) (count - (index + 1)) ≡ whole
kept_taken f test index count old new whole more passes taken read =
    let e : count - index ≡ suc (count - (index + 1)) = omega arith in
    let shape : kept_of f test index (count - index) ≡ f index ∷ kept_of f test (index + 1) (count - (index + 1)) = rw (e, passes) in
    ap (λ s. s ++ kept_of f test (index + 1) (count - (index + 1))) taken
    ∙ append_assoc old (f index ∷ []) (kept_of f test (index + 1) (count - (index + 1)))
    ∙ ap (λ s. old ++ s) (sym shape) ∙ read

-- the next number is passed over
pub kept_passed : {X : Type 0} (f : ℕ → X) (test : ℕ → Bool) (index count : ℕ) (old new whole : List X) → index < count
    → test index ≡ false → new ≡ old
    → old ++ kept_of f test index (count - index) ≡ whole → new ++ kept_of f test (index + 1) (count - (index + 1)) ≡ whole
kept_passed f test index count old new whole more fails same read =
    let e : count - index ≡ suc (count - (index + 1)) = omega arith in
    let shape : kept_of f test index (count - index) ≡ kept_of f test (index + 1) (count - (index + 1)) = rw (e, fails) in
    ap (λ s. s ++ kept_of f test (index + 1) (count - (index + 1))) same ∙ ap (λ s. old ++ s) (sym shape) ∙ read

-- behind the last number there is none
pub kept_none : {X : Type 0} (f : ℕ → X) (test : ℕ → Bool) (index count : ℕ) (old whole : List X) → count ≤ index
    → old ++ kept_of f test index (count - index) ≡ whole → old ≡ whole
kept_none f test index count old whole done read =
    let e : count - index ≡ 0 = omega arith in
    let shape : kept_of f test index (count - index) ≡ [] = rw e in
    sym (append-nil old) ∙ ap (λ s. old ++ s) (sym shape) ∙ read

-- the same of the first number that passes
pub first_found : (test : ℕ → Bool) (index count : ℕ) → index < count → test index ≡ true → find test (range_with_len index (count - index)) ≡ Some index
first_found test index count more passes =
    let e : count - index ≡ suc (count - (index + 1)) = omega arith in rw (e, passes)

pub first_passed : (test : ℕ → Bool) (index count : ℕ) → index < count → test index ≡ false
    → find test (range_with_len (index + 1) (count - (index + 1))) ≡ find test (range_with_len index (count - index))
first_passed test index count more fails =
    let e : count - index ≡ suc (count - (index + 1)) = omega arith in rw (e, fails)

pub first_none : (test : ℕ → Bool) (index count : ℕ) → count ≤ index → find test (range_with_len index (count - index)) ≡ None
first_none test index count done =
    let e : count - index ≡ 0 = omega arith in rw e
