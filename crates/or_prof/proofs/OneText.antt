-- What was added has one text.
use Rattle.std.proofs.Common.{◌≡◌, ◌∙◌, ap, refl, sym, subst, ℕ, zero, suc, ◌+◌, ◌<◌, ◌≤◌, ◌==◌, cond, Bool, true, false, List, [], ◌∷◌, ◌++◌, take, Option, Some, ◌⊎◌, inl, inr, length, get_or, arith}
use Rattle.std.proofs.lemmas.Bool.Decides.{nat_tests}
use Rattle.std.proofs.lemmas.List.Sums.{sum_by-cons}
use Rattle.std.proofs.lemmas.List.Sorted.{sum_by-IsPermutation}
use Rattle.std.specs.Prelude.{slice_get, count_by, nat_lt, ◌&&◌}
use Rattle.std.specs.List.{flat_map}
use Rattle.std.specs.List.Sorted.{IsSorted}
use Rattle.std.specs.Ordering.{ordering_then, is_lt}
use Rattle.std.specs.declared.cmp.Ordering.TheVariants.{Less, Equal, Greater}
use Rattle.or_elf.specs.Symbols.{SymbolTable}
use Rattle.or_prof.specs.declared.ranking.Line.{Line}
use Rattle.or_prof.specs.Profile.{Addition, items_of, count_of, spot_count}
use Rattle.or_prof.specs.Text.{rank, lines_of, is_line, AreRanked, spot_text, front_text, head_line, IsHotText, IsCoreText, AreCoreTexts, IsProfText}

-- a line may stand before another
abbrev Before : Line → Line → Type 0
Before one other = (other.count < one.count) ⊎ ((other.count ≡ one.count) × (one.key ≤ other.key))

-- by tests: whether the first count is less, whether the counts are equal, and whether the second index is less
before_by : (one other : Line) (less equal lower : Bool) → nat_lt one.count other.count ≡ less → (one.count == other.count) ≡ equal → nat_lt other.key one.key ≡ lower
    → is_lt (ordering_then (cond less Less (cond equal Equal Greater)) (cond lower Less (cond (other.key == one.key) Equal Greater))) ≡ false → Before one other
before_by one other true equal lower less same low is = absurd (let b : ⊥ = cc in b)
before_by one other false false lower less same low is = inl (grind (arith, nat_tests))
before_by one other false true true less same low is = absurd (let b : ⊥ = cc in b)
before_by one other false true false less same low is = inr (grind (arith, nat_tests), grind (arith, nat_tests))

ranked_before : (one other : Line) → is_lt (rank other one) ≡ false → Before one other
ranked_before one other is = before_by one other (nat_lt one.count other.count) (one.count == other.count) (nat_lt other.key one.key) refl refl refl is

before_same : (one : Line) → Before one one
before_same one = inr (refl, omega arith)

before_trans : (one two three : Line) → Before one two → Before two three → Before one three
before_trans one two three (inl a) (inl b) = inl (omega arith)
before_trans one two three (inl a) (inr b) = inl (let e = b.0 in omega arith)
before_trans one two three (inr a) (inl b) = inl (let e = a.0 in omega arith)
before_trans one two three (inr a) (inr b) = inr (b.0 ∙ a.0, let l = a.1 in let m = b.1 in omega arith)

same_line : (one other : Line) → one.count ≡ other.count → one.key ≡ other.key → one ≡ other
same_line one other count index =
    let e : ◌≡◌ {A = Line} (record { count = one.count; key = one.key }) (record { count = other.count; key = other.key }) = cc in e

before_both : (one other : Line) → Before one other → Before other one → one ≡ other
before_both one other (inl a) (inl b) = absurd (omega arith)
before_both one other (inl a) (inr b) = absurd (let e = b.0 in omega arith)
before_both one other (inr a) (inl b) = absurd (let e = a.0 in omega arith)
before_both one other (inr a) (inr b) = same_line one other (sym a.0) (let l = a.1 in let m = b.1 in omega arith)

-- the lines stand in order, the first of them behind one
From : Line → List Line → Type 0
From one [] = Unit {0}
From one (line ∷ others) = Before one line × From line others

InOrder : List Line → Type 0
InOrder [] = Unit {0}
InOrder (line ∷ others) = From line others

order_tail : (line : Line) (others : List Line) → From line others → InOrder others
unfolding From InOrder
order_tail line [] is = tt
order_tail line (next ∷ others) is = is.1

from_sorted : (line : Line) (others : List Line) → IsSorted rank (line ∷ others) → From line others
unfolding From
from_sorted line [] sorted = tt
from_sorted line (next ∷ others) sorted = (
  ranked_before line next (sorted 0 line (omega arith) (omega arith)),
  from_sorted next others (λ k d low inside.
      let behind : suc k + 1 ≡ suc (k + 1) = omega arith in
      subst (λ n. is_lt (rank (get_or (line ∷ next ∷ others) n d) (get_or (next ∷ others) k d)) ≡ false) behind (sorted (suc k) d (omega arith) (omega arith))),
)

in_order : (lines : List Line) → IsSorted rank lines → InOrder lines
unfolding InOrder
in_order [] sorted = tt
in_order (line ∷ others) sorted = from_sorted line others sorted

-- the first line stands before each
first_before : (line : Line) (others : List Line) (k : ℕ) (other : Line) → From line others → slice_get (line ∷ others) k ≡ Some other → Before line other
unfolding From
first_before line others zero other is found = let e : line ≡ other = cc in subst (Before line) e (before_same line)
first_before line [] (suc k) other is found = absurd (let b : ⊥ = cc in b)
first_before line (next ∷ others) (suc k) other is found = before_trans line next other is.0 (first_before next others k other is.1 found)

is_itself : (one : Line) → is_line one one ≡ true
unfolding is_line
is_itself one = grind (arith, nat_tests)

and_both : (a b : Bool) → (a && b) ≡ true → (a ≡ true) × (b ≡ true)
and_both true b is = (refl, is)
and_both false b is = absurd (let c : ⊥ = cc in c)

equal_by : (a b : ℕ) → (a == b) ≡ true → a ≡ b
equal_by a b is = grind (arith, nat_tests)

is_that : (one other : Line) → is_line one other ≡ true → one ≡ other
unfolding is_line
is_that one other is =
    let both = and_both (one.count == other.count) (one.key == other.key) is in
    same_line one other (equal_by one.count other.count both.0) (equal_by one.key other.key both.1)

-- a line that is counted stands somewhere
standing : (one : Line) (lines : List Line) → 1 ≤ count_by (is_line one) lines → (k : ℕ) × (slice_get lines k ≡ Some one)
standing one [] some = absurd (omega arith)
standing one (line ∷ others) some = here (is_line one line) refl (standing one others) where
  here : (same : Bool) → is_line one line ≡ same → (1 ≤ count_by (is_line one) others → (k : ℕ) × (slice_get others k ≡ Some one))
      → (k : ℕ) × (slice_get (line ∷ others) k ≡ Some one)
  here true same behind = (0, ap Some (sym (is_that one line same)))
  here false same behind =
      let all = sum_by-cons (λ (l : Line). cond (is_line one l) 1 0) line others in
      let none : cond {A = ℕ} (is_line one line) 1 0 ≡ 0 = ap (λ (b : Bool). cond {A = ℕ} b 1 0) same in
      let later = behind (omega (arith, all, none, some)) in (suc later.0, later.1)

-- the same lines, each as often
Alike : List Line → List Line → Type 0
Alike lines others = (one : Line) → count_by (is_line one) lines ≡ count_by (is_line one) others

counts_itself : (line : Line) → cond {A = ℕ} (is_line line line) 1 0 ≡ 1
counts_itself line = ap (λ (b : Bool). cond {A = ℕ} b 1 0) (is_itself line)

first_stands : (line : Line) (others lines : List Line) → Alike (line ∷ others) lines → (k : ℕ) × (slice_get lines k ≡ Some line)
unfolding Alike
first_stands line others lines alike =
    let all = sum_by-cons (λ (l : Line). cond (is_line line l) 1 0) line others in
    let one = counts_itself line in
    let same = alike line in
    standing line lines (omega (arith, all, one, same))

one_order : (lines others : List Line) → InOrder lines → InOrder others → Alike lines others → lines ≡ others
unfolding InOrder Alike
one_order [] [] is also alike = refl
one_order [] (other ∷ others) is also alike =
    let same = alike other in let all = sum_by-cons (λ (l : Line). cond (is_line other l) 1 0) other others in
    let one = counts_itself other in absurd (omega (arith, same, all, one))
one_order (line ∷ lines) [] is also alike =
    let same = alike line in let all = sum_by-cons (λ (l : Line). cond (is_line line l) 1 0) line lines in
    let one = counts_itself line in absurd (omega (arith, same, all, one))
one_order (line ∷ lines) (other ∷ others) is also alike =
    let there = first_stands line lines (other ∷ others) alike in
    let here = first_stands other others (line ∷ lines) (λ one. sym (alike one)) in
    let same : line ≡ other = before_both line other (first_before line lines here.0 other is here.1) (first_before other others there.0 line also there.1) in
    let rest : (of : Line) → count_by (is_line of) lines ≡ count_by (is_line of) others = λ of. (
    let one = sum_by-cons (λ (l : Line). cond (is_line of l) 1 0) line lines in
    let two = sum_by-cons (λ (l : Line). cond (is_line of l) 1 0) other others in
    let head : cond {A = ℕ} (is_line of line) 1 0 ≡ cond (is_line of other) 1 0 = ap (λ (l : Line). cond {A = ℕ} (is_line of l) 1 0) same in
    let both = alike of in omega (arith, one, two, head, both)) in
    ap (λ (l : Line). l ∷ lines) same ∙ ap (λ (l : List Line). other ∷ l) (one_order lines others (order_tail line lines is) (order_tail other others also) rest)

pub one_ranking : (lines one other : List Line) → AreRanked lines one → AreRanked lines other → one ≡ other
unfolding Alike
one_ranking lines one other is also =
    one_order one other (in_order one is.order) (in_order other also.order)
    (λ of. sum_by-IsPermutation (λ (l : Line). cond (is_line of l) 1 0) lines one is.same ∙ sym (sum_by-IsPermutation (λ (l : Line). cond (is_line of l) 1 0) lines other also.same))

pub one_hot : (at : ℕ → ℕ) (text other : List ℕ) → IsHotText at text → IsHotText at other → text ≡ other
unfolding Alike
one_hot at text other is also =
    is.is ∙ (ap (λ (l : List Line). flat_map spot_text (take 8 l))
    (one_order is.ranked also.ranked (in_order is.ranked is.order) (in_order also.ranked also.order) (λ of. is.are of ∙ sym (also.are of))) ∙ sym also.is)

pub one_core : (symbols : SymbolTable) (core steps : ℕ) (count : Option ℕ → ℕ) (at : ℕ → ℕ) (text other : List ℕ) → IsCoreText symbols core steps count at text → IsCoreText symbols core steps count at other → text ≡ other
one_core symbols core steps count at text other is also =
    is.is ∙ (ap (λ (l : List Line). front_text symbols core steps count l ++ is.hot) (one_ranking (lines_of count symbols.functions) is.lines also.lines is.ranked also.ranked)
    ∙ (ap (λ (l : List ℕ). front_text symbols core steps count also.lines ++ l) (one_hot at is.hot also.hot is.is_hot also.is_hot) ∙ sym also.is))

pub one_behind : (hot : Bool) (symbols : SymbolTable) (additions : List Addition) (cores : ℕ) (text other : List ℕ) → AreCoreTexts hot symbols additions cores text → AreCoreTexts hot symbols additions cores other → text ≡ other
one_behind hot symbols additions zero text other is also = is ∙ sym also
one_behind hot symbols additions (suc core) text other is also =
    let items = items_of core additions in
    is.is ∙ (ap (λ (l : List ℕ). l ++ is.second) (one_behind hot symbols additions core is.first also.first is.is_first also.is_first)
    ∙ (ap (λ (l : List ℕ). also.first ++ l) (one_core symbols core (length items) (count_of symbols items) (spot_count hot symbols items) is.second also.second is.is_second also.is_second) ∙ sym also.is))

pub one_text : (hot : Bool) (cores : ℕ) (symbols : SymbolTable) (additions : List Addition) (text other : List ℕ) → IsProfText hot cores symbols additions text → IsProfText hot cores symbols additions other → text ≡ other
one_text hot cores symbols additions text other is also =
    is.is ∙ (ap (λ (l : List ℕ). head_line ++ l) (one_behind hot symbols additions cores is.behind also.behind is.is_behind also.is_behind) ∙ sym also.is)
