-- One draw more.
use Rattle.std.proofs.Common.{◌≡◌, ℕ, ◌+◌, ◌%◌, ◌/◌, ◌^◌, ◌<◌, zero, suc, [], ◌∷◌, ◌++◌, length, refl, ap, ◌∙◌, add-one, length-append, arith}
use Rattle.std.specs.List.{All}
use Rattle.std.proofs.lemmas.List.Elements.{All-append, All-nil}
use Rattle.or_hunt.specs.Draws.{next_state, state, greatest, exponents, first_state, unused}

pub exponents-more : (seed n : ℕ) → exponents seed (n + 1) ≡ exponents seed n ++ greatest (next_state (first_state seed n)) ∷ []
exponents-more seed n =
    let e : unused + suc n ≡ suc (unused + n) = omega arith in
    ap (exponents seed) (add-one n) ∙ ap (λ k. exponents seed n ++ greatest (state seed k) ∷ []) e

pub first_state-more : (seed n : ℕ) → first_state seed (n + 1) ≡ next_state (first_state seed n)
first_state-more seed n =
    let e : unused + (n + 1) ≡ suc (unused + n) = omega arith in
    ap (state seed) e

mod_small : (y : ℕ) → y % 11 < 11
mod_small y = omega arith

small_one : (x : ℕ) → x < 11 → All (λ e. e < 11) (x ∷ [])
small_one x small zero d inside = small
small_one x small (suc k) d inside = absurd (omega (arith, inside))

pub exponents-small : (seed n : ℕ) → All (λ e. e < 11) (exponents seed n)
exponents-small seed zero = All-nil (λ e. e < 11)
exponents-small seed (suc n) =
    All-append (λ e. e < 11) (exponents seed n) (greatest (state seed (unused + suc n)) ∷ []) (exponents-small seed n) (small_one (greatest (state seed (unused + suc n))) (mod_small (state seed (unused + suc n) / 2 ^ 59)))

pub exponents-length : (seed n : ℕ) → length (exponents seed n) ≡ n
exponents-length seed zero = refl
exponents-length seed (suc n) = omega (arith, length-append (exponents seed n) (greatest (state seed (unused + suc n)) ∷ []), exponents-length seed n)

pub ruleset drawing = (exponents-more, first_state-more, exponents-small, exponents-length)
