-- Numbers at an offset, from a part of a list that holds them.
use Rattle.std.proofs.Common.{◌≡◌, ◌∙◌, ap, sym, refl, ℕ, zero, suc, ◌+◌, ◌-◌, ◌<◌, ◌≤◌, List, drop, get_or, arith}
use Rattle.std.proofs.lemmas.List.{get_or-take, get_or-drop}
use Rattle.byteorder.specs.Endian.{big_from, big_number}
use Rattle.or_elf.specs.Header.{half_at, word_at}
use Rattle.or_elf.specs.Loading.{part}

-- two lists that agree in a part agree at each place in it
pub get_or-part : (xs ys : List ℕ) (start size i : ℕ) → part xs start size ≡ part ys start size → start ≤ i → i < start + size → get_or xs i 0 ≡ get_or ys i 0
get_or-part xs ys start size i same from below =
    let e : start + (i - start) ≡ i = omega arith in
    let inside : i - start < size = omega arith in
    let left : get_or (part xs start size) (i - start) 0 ≡ get_or xs i 0 =
    get_or-take size (drop start xs) (i - start) 0 inside ∙ get_or-drop start xs (i - start) 0 ∙ ap (λ k. get_or xs k 0) e in
    let right : get_or (part ys start size) (i - start) 0 ≡ get_or ys i 0 =
    get_or-take size (drop start ys) (i - start) 0 inside ∙ get_or-drop start ys (i - start) 0 ∙ ap (λ k. get_or ys k 0) e in
    sym left ∙ ap (λ part. get_or part (i - start) 0) same ∙ right

-- the number in n bytes reads the first n bytes alone
big_from_same : (n i : ℕ) (xs ys : List ℕ) → ((k : ℕ) → k < i + n → get_or xs k 0 ≡ get_or ys k 0) → big_from i n xs ≡ big_from i n ys
big_from_same zero i xs ys same = refl
big_from_same (suc n) i xs ys same =
    let first : get_or xs i 0 ≡ get_or ys i 0 = same i (omega arith) in
    let others : big_from (suc i) n xs ≡ big_from (suc i) n ys = big_from_same n (suc i) xs ys (λ k below. same k (omega arith)) in
    cc

big_number_same : (n at : ℕ) (xs ys : List ℕ) → ((k : ℕ) → at ≤ k → k < at + n → get_or xs k 0 ≡ get_or ys k 0) → big_number n (drop at xs) ≡ big_number n (drop at ys)
big_number_same n at xs ys same =
    big_from_same n 0 (drop at xs) (drop at ys)
    (λ k below. get_or-drop at xs k 0 ∙ same (at + k) (omega arith) (omega arith) ∙ sym (get_or-drop at ys k 0))

pub word_at-part : (xs ys : List ℕ) (start size at : ℕ) → part xs start size ≡ part ys start size → start ≤ at → at + 4 ≤ start + size → word_at xs at ≡ word_at ys at
unfolding word_at
word_at-part xs ys start size at same from below =
    big_number_same 4 at xs ys (λ k f b. get_or-part xs ys start size k same (omega arith) (omega arith))

pub half_at-part : (xs ys : List ℕ) (start size at : ℕ) → part xs start size ≡ part ys start size → start ≤ at → at + 2 ≤ start + size → half_at xs at ≡ half_at ys at
unfolding half_at
half_at-part xs ys start size at same from below =
    big_number_same 2 at xs ys (λ k f b. get_or-part xs ys start size k same (omega arith) (omega arith))
