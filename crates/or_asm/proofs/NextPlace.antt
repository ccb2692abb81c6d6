-- The next greater place among sorted ones.
use Rattle.std.proofs.Common.{◌≡◌, ℕ, zero, suc, ◌+◌, ◌<◌, ◌≤◌, min, Bool, true, false, cond, List, [], ◌∷◌, length, slice_index_or, Result, Ok, Err, arith}
use Rattle.std.specs.Ordering.{nat_cmp}
use Rattle.std.specs.Prelude.{IsPermutation, IsSorted, nat_lt}
use Rattle.std.specs.List.{All}
use Rattle.std.specs.List.Sorted.{IsBinarySearchResult}
use Rattle.std.specs.Result.{MatchResult}
use Rattle.std.proofs.lemmas.Bool.Decides.{nat_tests}
use Rattle.std.proofs.lemmas.List.Sorted.{All-permutation, IsPermutation-sym, IsNonDecreasingBy-from_sort, searched}
use Rattle.std.proofs.lemmas.List.{get_or_default}
use Rattle.std.proofs.lemmas.List.Sums.{sum_by-cons}
use Rattle.or_asm.specs.Program.{word_count}
use Rattle.or_asm.specs.Symbols.{next_among}

-- the next place is the greatest of the numbers that are at most the end and at most each greater place

abbrev IsBelow : ℕ → ℕ → List ℕ → Type 0
IsBelow place bound places = All (λ other. place < other → bound ≤ other) places

step_below : (greater : Bool) (other next end : ℕ) → next ≤ end → cond greater (min other next) next ≤ end
step_below true other next end h = omega arith
step_below false other next end h = h

pub next_below : (places : List ℕ) (place end : ℕ) → next_among places place end ≤ end
next_below [] place end = omega arith
next_below (other ∷ others) place end = step_below (nat_lt place other) other (next_among others place end) end (next_below others place end)

next_here : (other next place : ℕ) → place < other → cond (nat_lt place other) (min other next) next ≤ other
next_here other next place h = grind (arith, nat_tests)

step_less : (greater : Bool) (other next : ℕ) → cond greater (min other next) next ≤ next
step_less true other next = omega arith
step_less false other next = omega arith

next_bounds : (places : List ℕ) (place end : ℕ) → IsBelow place (next_among places place end) places
next_bounds [] place end k d below = absurd (omega arith)
next_bounds (other ∷ others) place end zero d below = λ greater. next_here other (next_among others place end) place greater
next_bounds (other ∷ others) place end (suc k) d below = λ greater.
    let rest = next_bounds others place end k d (omega arith) greater in
    let less = step_less (nat_lt place other) other (next_among others place end) in
    omega (arith, rest, less)

step_greatest : (place other next bound : ℕ) → (place < other → bound ≤ other) → bound ≤ next → bound ≤ cond (nat_lt place other) (min other next) next
step_greatest place other next bound here rest = grind (arith, nat_tests)

next_greatest : (places : List ℕ) (place end bound : ℕ) → bound ≤ end → IsBelow place bound places → bound ≤ next_among places place end
next_greatest [] place end bound h all = h
next_greatest (other ∷ others) place end bound h all =
    step_greatest place other (next_among others place end) bound (all 0 0 (omega arith))
    (next_greatest others place end bound h (λ k d below. all (suc k) d (omega arith)))

-- the order of the places does not matter
pub next_permuted : (places others : List ℕ) (place end : ℕ) → IsPermutation places others → next_among others place end ≡ next_among places place end
next_permuted places others place end same =
    let there = next_greatest others place end (next_among places place end) (next_below places place end)
    (All-permutation (λ other. place < other → next_among places place end ≤ other) places others same (next_bounds places place end)) in
    let back = next_greatest places place end (next_among others place end) (next_below others place end)
    (All-permutation (λ other. place < other → next_among others place end ≤ other) others places (IsPermutation-sym places others same) (next_bounds others place end)) in
    omega (arith, there, back)

-- a list whose elements from an index on rise and are greater than a place, and no others are
abbrev Parts : List ℕ → ℕ → ℕ → Type 0
Parts places place i = ((k : ℕ) → k < i → slice_index_or places k 0 ≤ place) × ((k : ℕ) → i ≤ k → k < length places → place < slice_index_or places k 0)

abbrev Rises : List ℕ → Type 0
Rises places = (i j : ℕ) → i ≤ j → j < length places → slice_index_or places i 0 ≤ slice_index_or places j 0

next_inside : (places : List ℕ) (place end i : ℕ) → i < length places → Parts places place i → Rises places → next_among places place end ≡ min (slice_index_or places i 0) end
next_inside places place end i inside parts rises =
    let at = slice_index_or places i 0 in
    let least : IsBelow place (min at end) places = λ k d below greater.
    let same : slice_index_or places k d ≡ slice_index_or places k 0 = get_or_default places k d 0 below in
    let low = parts.0 k in
    let up : i ≤ k → at ≤ slice_index_or places k 0 = λ behind. rises i k behind below in
    grind (arith, low, up, same, greater) in
    let up = next_greatest places place end (min at end) (omega arith) least in
    let down = next_bounds places place end i 0 inside (parts.1 i (omega arith) inside) in
    let end_down = next_below places place end in
    omega (arith, up, down, end_down)

next_outside : (places : List ℕ) (place end i : ℕ) → length places ≤ i → Parts places place i → next_among places place end ≡ end
next_outside places place end i outside parts =
    let least : IsBelow place end places = λ k d below greater.
    let same : slice_index_or places k d ≡ slice_index_or places k 0 = get_or_default places k d 0 below in
    let low = parts.0 k (omega arith) in
    absurd (omega (arith, low, same, greater)) in
    let up = next_greatest places place end end (omega arith) least in
    let down = next_below places place end in
    omega (arith, up, down)

next_hit : (places : List ℕ) (place end i : ℕ) → i < length places → slice_index_or places i 0 ≡ place + 1 → next_among places place end ≡ min (place + 1) end
next_hit places place end i inside is =
    let least : IsBelow place (min (place + 1) end) places = λ k d below greater. omega (arith, greater) in
    let up = next_greatest places place end (min (place + 1) end) (omega arith) least in
    let down = next_bounds places place end i 0 inside (omega (arith, is)) in
    let end_down = next_below places place end in
    omega (arith, up, down, end_down, is)

rising : (places : List ℕ) → IsSorted nat_cmp places → Rises places
rising places sorted i j before inside = IsNonDecreasingBy-from_sort (λ n. n) places sorted i j 0 before inside

-- what a search for the place behind this one finds
abbrev Found : List ℕ → ℕ → ℕ → Result ℕ ℕ → Type 0
Found places place end (Ok i) = next_among places place end ≡ min (place + 1) end
Found places place end (Err i) = (i < length places → next_among places place end ≡ min (slice_index_or places i 0) end) × (length places ≤ i → next_among places place end ≡ end)

found_step : (places : List ℕ) (place end : ℕ) (r : Result ℕ ℕ) → Rises places
    → MatchResult r (λ i. (i < length places) × (slice_index_or places i 0 ≡ place + 1))
    (λ i. (i ≤ length places) × ((k : ℕ) → k < i → slice_index_or places k 0 < place + 1) × ((k : ℕ) → i ≤ k → k < length places → place + 1 < slice_index_or places k 0))
    → Found places place end r
found_step places place end (Ok i) rises at = next_hit places place end i at.0 at.1
found_step places place end (Err i) rises at =
    let parts : Parts places place i = ((λ k before. let low = at.1 k before in omega (arith, low)), (λ k behind below. let high = at.2 k behind below in omega (arith, high))) in
    ((λ inside. next_inside places place end i inside parts rises), (λ outside. next_outside places place end i outside parts))

pub next_found : (places : List ℕ) (place end : ℕ) (r : Result ℕ ℕ) → IsSorted nat_cmp places → IsBinarySearchResult (λ y. nat_cmp y (place + 1)) places r → Found places place end r
next_found places place end r sorted search =
    found_step places place end r (rising places sorted) (searched places (place + 1) r search (rising places sorted))

-- an end is behind a place that the piece covers, and near
pub next_within : (places : List ℕ) (place end : ℕ) → place < end → (place < next_among places place end) × (next_among places place end ≤ end)
next_within [] place end h = (h, omega arith)
next_within (other ∷ others) place end h =
    let rest = next_within others place end h in
    grind (arith, nat_tests, rest.0, rest.1)

-- a piece has no more words than its program
pub piece_words : (pieces : List (ℕ × List ℕ)) → All (λ piece. length piece.1 ≤ word_count pieces) pieces
piece_words [] k d below = absurd (omega arith)
piece_words (piece ∷ pieces) zero d below =
    let all : word_count (piece ∷ pieces) ≡ length piece.1 + word_count pieces = sum_by-cons (λ p. length p.1) piece pieces in
    omega (arith, all)
piece_words (piece ∷ pieces) (suc k) d below =
    let all : word_count (piece ∷ pieces) ≡ length piece.1 + word_count pieces = sum_by-cons (λ p. length p.1) piece pieces in
    let rest = piece_words pieces k d (omega arith) in
    omega (arith, all, rest)
