-- The input that is left behind a place.
use Rattle.std.proofs.Common.{◌≡◌, ◌∙◌, ap, sym, refl, ℕ, ◌+◌, ◌<◌, ◌≤◌, Bool, true, false, List, length, drop, arith, add-one}
use Rattle.std.proofs.Math.Seq.{drop-cons}
use Rattle.std.specs.Prelude.{nat_lt, slice_index}
use Rattle.std.proofs.lemmas.List.{drop_all}
use Rattle.std.proofs.lemmas.Bool.Decides.{nat_tests}
use Rattle.or_parts.specs.Uart.{has_input, next_input, after_input}

has_by : (n : ℕ) (xs : List ℕ) (b : Bool) → nat_lt n (length xs) ≡ b → has_input (drop n xs) ≡ b
has_by n xs true test =
    let inside : n < length xs = grind (arith, nat_tests) in
    ap has_input (drop-cons xs n 0 inside)
has_by n xs false test =
    let past : length xs ≤ n = grind (arith, nat_tests) in
    ap has_input (drop_all n xs past)

pub has_input_drop : (n : ℕ) (xs : List ℕ) → has_input (drop n xs) ≡ nat_lt n (length xs)
has_input_drop n xs = has_by n xs (nat_lt n (length xs)) refl

pub next_input_drop : (n : ℕ) (xs : List ℕ) → n < length xs → next_input (drop n xs) ≡ slice_index xs n
next_input_drop n xs inside = ap next_input (drop-cons xs n 0 inside)

pub next_input_end : (n : ℕ) (xs : List ℕ) → length xs ≤ n → next_input (drop n xs) ≡ 0
next_input_end n xs past = ap next_input (drop_all n xs past)

pub after_input_drop : (n : ℕ) (xs : List ℕ) → n < length xs → after_input (drop n xs) ≡ drop (n + 1) xs
after_input_drop n xs inside = rw add-one (ap after_input (drop-cons xs n 0 inside))

pub after_input_end : (n : ℕ) (xs : List ℕ) → length xs ≤ n → after_input (drop n xs) ≡ drop n xs
after_input_end n xs past = ap after_input (drop_all n xs past) ∙ sym (drop_all n xs past)

pub ruleset inputs = (has_input_drop, next_input_drop, next_input_end, after_input_drop, after_input_end)
