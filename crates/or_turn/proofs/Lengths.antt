-- How long a list of core numbers is, by how often each stands in it.
use Rattle.std.proofs.Common.{◌≡◌, ℕ, zero, suc, ◌+◌, ◌*◌, ◌<◌, ◌≤◌, List, [], ◌∷◌, length, refl, ap, ◌∙◌, arith}
use mathlib.Core.Logic.{dite}
use native.Mathlib.Decide.{ℕ_discrete, dec_lt}
use Rattle.or_turn.specs.Schedules.{count}
use Rattle.or_turn.proofs.Replays.{count_none, count_same, count_other, count_cons}

-- no entry is at or past n
abbrev pub AllBelow : ℕ → List ℕ → Type 0
AllBelow n [] = Unit {0}
AllBelow n (x ∷ xs) = (x < n) × AllBelow n xs

-- the entries of all numbers below n
counts : ℕ → List ℕ → ℕ
counts zero xs = 0
counts (suc n) xs = counts n xs + count n xs

counts_none : (n : ℕ) → counts n [] ≡ 0
unfolding counts
counts_none zero = refl
counts_none (suc n) = let h = counts_none n in let z = count_none n in omega arith

counts_past : (n x : ℕ) (xs : List ℕ) → n ≤ x → counts n (x ∷ xs) ≡ counts n xs
unfolding counts
counts_past zero x xs h = refl
counts_past (suc n) x xs h = let k : count n (x ∷ []) ≡ 0 = count_other n x (λ e. omega arith) in let sum = count_cons n x xs in let r = counts_past n x xs (omega arith) in omega arith

counts_here : (n x : ℕ) (xs : List ℕ) → x < n → counts n (x ∷ xs) ≡ counts n xs + 1
unfolding counts
counts_here zero x xs h = absurd (omega arith)
counts_here (suc n) x xs h = let sum = count_cons n x xs in dite (ℕ_discrete x n)
    (λ e. let k : count n (x ∷ []) ≡ 1 = ap (λ (y : ℕ). count n (y ∷ [])) e ∙ count_same n in let r = counts_past n x xs (omega arith) in omega arith)
    (λ other. let k : count n (x ∷ []) ≡ 0 = count_other n x other in let r = counts_here n x xs (omega arith) in omega arith)

length_counts : (n : ℕ) (xs : List ℕ) → AllBelow n xs → length xs ≤ counts n xs
length_counts n [] h = omega arith
length_counts n (x ∷ xs) h = let l = length_counts n xs h.1 in let m = counts_here n x xs h.0 in omega arith

counts_most : (n most : ℕ) (xs : List ℕ) → ((c : ℕ) → c < n → count c xs ≤ most) → counts n xs ≤ n * most
unfolding counts
counts_most zero most xs h = omega arith
counts_most (suc n) most xs h = let r = counts_most n most xs (λ c l. h c (omega arith)) in let k = h n (omega arith) in grind arith

-- a list of numbers below n, each at most so often, is short
pub length_most : (n most : ℕ) (xs : List ℕ) → AllBelow n xs → ((c : ℕ) → c < n → count c xs ≤ most) → length xs ≤ n * most
length_most n most xs all few = let a = length_counts n xs all in let b = counts_most n most xs few in omega arith

counts_length : (n : ℕ) (xs : List ℕ) → counts n xs ≤ length xs
counts_length n [] = let e = counts_none n in omega arith
counts_length n (x ∷ xs) = let l = counts_length n xs in dite (dec_lt x n)
    (λ h. let m = counts_here n x xs h in omega arith)
    (λ h. let m = counts_past n x xs (omega arith) in omega arith)

counts_least : (n : ℕ) (xs : List ℕ) → ((c : ℕ) → c < n → 0 < count c xs) → n ≤ counts n xs
unfolding counts
counts_least zero xs h = omega arith
counts_least (suc n) xs h = let r = counts_least n xs (λ c l. h c (omega arith)) in let k = h n (omega arith) in omega arith

-- a list that has each number below n is long
pub length_least : (n : ℕ) (xs : List ℕ) → ((c : ℕ) → c < n → 0 < count c xs) → n ≤ length xs
length_least n xs h = let a = counts_length n xs in let b = counts_least n xs h in omega arith
