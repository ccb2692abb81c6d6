-- The counts of a core's lines, and of its items without a function, sum to its items.
use Rattle.std.proofs.Common.{◌≡◌, ◌∙◌, ap, refl, sym, subst, ℕ, zero, suc, ◌+◌, ◌<◌, ◌≤◌, ◌/◌, ◌==◌, cond, Bool, true, false, List, [], ◌∷◌, Option, Some, None, length, add-zero, add-one, arith}
use Rattle.std.proofs.lemmas.Bool.Decides.{nat_tests}
use Rattle.std.proofs.lemmas.List.Sums.{sum_by-cons}
use Rattle.std.proofs.lemmas.List.Sorted.{sum_by-IsPermutation}
use Rattle.std.specs.Prelude.{IfSome, slice_get, sum_by, map, nat_lt}
use Rattle.std.specs.List.{filter, range_with_len}
use Rattle.std.specs.Option.{option_map}
use Rattle.or_elf.specs.declared.symbols.Symbol.{Symbol as Function}
use Rattle.or_elf.specs.Symbols.{SymbolTable, function_type, is_of_type, symbol_start, symbol_at, symbols_among, symbol_table, symbols_in, symbols_of, has_sections, no_symbols, section_at, innermost, function_of}
use Rattle.or_prof.specs.declared.ranking.Line.{Line}
use Rattle.or_prof.specs.Profile.{is_same, count_of}
use Rattle.or_prof.specs.Text.{line_of, lines_of, AreRanked}
use Rattle.or_prof.proofs.Counting.{innermost_holds}

-- the indices of these functions ascend from a number on
Ascend : ℕ → List Function → Type 0
Ascend n [] = Unit {0}
Ascend n (function ∷ others) = (n ≤ function.index) × Ascend (suc function.index) others

how_often : List Function → ℕ → ℕ
how_often functions index = sum_by (λ (function : Function). cond (index == function.index) 1 0) functions

other_index : (index at : ℕ) → index < at → cond {A = ℕ} (index == at) 1 0 ≡ 0
other_index index at less = grind (arith, nat_tests)

same_index : (index at : ℕ) → index ≡ at → cond {A = ℕ} (index == at) 1 0 ≡ 1
same_index index at same = grind (arith, nat_tests)

after_index : (index at : ℕ) → at < index → cond {A = ℕ} (index == at) 1 0 ≡ 0
after_index index at less = grind (arith, nat_tests)

often_cons : (function : Function) (others : List Function) (index : ℕ) → how_often (function ∷ others) index ≡ cond (index == function.index) 1 0 + how_often others index
unfolding how_often
often_cons function others index = sum_by-cons (λ (f : Function). cond (index == f.index) 1 0) function others

-- an index before these
not_among : (n index : ℕ) (functions : List Function) → Ascend n functions → index < n → how_often functions index ≡ 0
unfolding Ascend how_often
not_among n index [] ascend before = refl
not_among n index (function ∷ others) ascend before =
    let here = other_index index function.index (let low = ascend.0 in omega arith) in
    let rest = not_among (suc function.index) index others ascend.1 (let low = ascend.0 in omega arith) in
    let all = often_cons function others index in omega (arith, here, rest, all)

from_on : (n : ℕ) (functions : List Function) (k : ℕ) (function : Function) → Ascend n functions → slice_get functions k ≡ Some function → n ≤ function.index
unfolding Ascend
from_on n [] k function ascend found = absurd (let b : ⊥ = cc in b)
from_on n (first ∷ others) zero function ascend found = let e : first ≡ function = cc in subst (λ (f : Function). n ≤ f.index) e ascend.0
from_on n (first ∷ others) (suc k) function ascend found = let later = from_on (suc first.index) others k function ascend.1 found in let low = ascend.0 in omega arith

-- the index of each of them stands once
once : (n : ℕ) (functions : List Function) (k : ℕ) (function : Function) → Ascend n functions → slice_get functions k ≡ Some function → how_often functions function.index ≡ 1
unfolding Ascend
once n [] k function ascend found = absurd (let b : ⊥ = cc in b)
once n (first ∷ others) zero function ascend found =
    let e : first ≡ function = cc in
    let here = same_index function.index first.index (ap (λ (f : Function). f.index) (sym e)) in
    let rest = not_among (suc first.index) function.index others ascend.1 (let same = ap (λ (f : Function). f.index) e in omega arith) in
    let all = often_cons first others function.index in omega (arith, here, rest, all)
once n (first ∷ others) (suc k) function ascend found =
    let later = from_on (suc first.index) others k function ascend.1 found in
    let here = after_index function.index first.index later in
    let rest = once (suc first.index) others k function ascend.1 found in
    let all = often_cons first others function.index in omega (arith, here, rest, all)

lower : (low high : ℕ) (functions : List Function) → low ≤ high → Ascend high functions → Ascend low functions
unfolding Ascend
lower low high [] less ascend = tt
lower low high (function ∷ others) less ascend = (let at = ascend.0 in omega arith, ascend.1)

-- of the symbols from an index on
kept_or_not : (bytes : List ℕ) (first index : ℕ) (keeps : Bool) (others : List ℕ) → Ascend (suc index) (map (symbol_at bytes first) others)
    → Ascend index (map (symbol_at bytes first) (cond keeps (index ∷ others) others))
unfolding Ascend
kept_or_not bytes first index true others ascend = (omega arith, ascend)
kept_or_not bytes first index false others ascend = lower index (suc index) (map (symbol_at bytes first) others) (omega arith) ascend

among_ascend : (kind : ℕ) (bytes : List ℕ) (first index count : ℕ) → Ascend index (symbols_among kind bytes first index count)
unfolding symbols_among Ascend
among_ascend kind bytes first index zero = tt
among_ascend kind bytes first index (suc count) =
    kept_or_not bytes first index (is_of_type kind bytes (symbol_start first index)) (filter (λ i. is_of_type kind bytes (symbol_start first i)) (range_with_len (index + 1) count))
    (subst (λ (n : ℕ). Ascend n (map (symbol_at bytes first) (filter (λ i. is_of_type kind bytes (symbol_start first i)) (range_with_len (index + 1) count)))) (add-one index)
    (among_ascend kind bytes first (index + 1) count))

in_ascend : (bytes : List ℕ) (table : Option ℕ) → Ascend 0 ((symbols_in bytes table).functions)
unfolding Ascend
in_ascend bytes None = tt
in_ascend bytes (Some table) = among_ascend function_type bytes ((section_at bytes table).offset) 0 ((section_at bytes table).size / 16)

where_sections : (bytes : List ℕ) (has : Bool) → Ascend 0 ((cond has (symbols_in bytes (symbol_table bytes)) no_symbols).functions)
unfolding Ascend
where_sections bytes true = in_ascend bytes (symbol_table bytes)
where_sections bytes false = tt

symbols_ascend : (bytes : List ℕ) → Ascend 0 ((symbols_of bytes).functions)
unfolding symbols_of
symbols_ascend bytes = where_sections bytes (has_sections bytes)

sum_more : (a b c : Function → ℕ) (functions : List Function) → ((function : Function) → c function ≡ a function + b function) → sum_by c functions ≡ sum_by a functions + sum_by b functions
sum_more a b c [] each = refl
sum_more a b c (function ∷ others) each =
    let one = each function in let rest = sum_more a b c others each in
    let x = sum_by-cons a function others in let y = sum_by-cons b function others in let z = sum_by-cons c function others in omega (arith, one, rest, x, y, z)

sum_none : (functions : List Function) → sum_by (λ (function : Function). 0) functions ≡ 0
sum_none [] = refl
sum_none (function ∷ others) = let rest = sum_none others in let x = sum_by-cons (λ (f : Function). 0) function others in omega (arith, rest, x)

-- an item is counted once
one_count : (functions : List Function) (found : Option ℕ) → IfSome found (λ index. how_often functions index ≡ 1)
    → sum_by (λ (function : Function). cond (is_same found (Some function.index)) 1 0) functions + cond (is_same found None) 1 0 ≡ 1
unfolding how_often
one_count functions None known = let none = sum_none functions in omega (arith, none)
one_count functions (Some index) known = add-zero (sum_by (λ (function : Function). cond (index == function.index) 1 0) functions) ∙ known

module _ (symbols : SymbolTable) (known : (pc : ℕ) → IfSome (function_of symbols pc) (λ index. how_often symbols.functions index ≡ 1)) where
  count_cons : (pc : ℕ) (items : List ℕ) (found : Option ℕ) → count_of symbols (pc ∷ items) found ≡ cond (is_same (function_of symbols pc) found) 1 0 + count_of symbols items found
  count_cons pc items found = sum_by-cons (λ other. cond (is_same (function_of symbols other) found) 1 0) pc items

  -- each item is counted once
  counts_are : (items : List ℕ) → sum_by (λ (function : Function). count_of symbols items (Some function.index)) symbols.functions + count_of symbols items None ≡ length items
  counts_are [] = let none = sum_none symbols.functions in omega (arith, none)
  counts_are (pc ∷ items) =
      let more = sum_more (λ (function : Function). cond (is_same (function_of symbols pc) (Some function.index)) 1 0) (λ (function : Function). count_of symbols items (Some function.index))
      (λ (function : Function). count_of symbols (pc ∷ items) (Some function.index)) symbols.functions (λ (function : Function). count_cons pc items (Some function.index)) in
      let none = count_cons pc items None in
      let one = one_count symbols.functions (function_of symbols pc) (known pc) in
      let rest = counts_are items in
      omega (arith, more, none, one, rest)

-- the lines leave out only what counts nothing
kept_line : (count : ℕ) (line : Line) (others : List Line) → line.count ≡ count → sum_by (λ (l : Line). l.count) (cond (nat_lt 0 line.count) (line ∷ others) others) ≡ count + sum_by (λ (l : Line). l.count) others
kept_line count line others same = kept_by (nat_lt 0 line.count) refl where
  kept_by : (some : Bool) → nat_lt 0 line.count ≡ some → sum_by (λ (l : Line). l.count) (cond some (line ∷ others) others) ≡ count + sum_by (λ (l : Line). l.count) others
  kept_by true is = let x = sum_by-cons (λ (l : Line). l.count) line others in omega (arith, x, same)
  kept_by false is = let zero : line.count ≡ 0 = grind (arith, nat_tests) in omega (arith, zero, same)

sum_lines : (count : Option ℕ → ℕ) (functions : List Function) → sum_by (λ (line : Line). line.count) (lines_of count functions) ≡ sum_by (λ (function : Function). count (Some function.index)) functions
sum_lines count [] = refl
sum_lines count (function ∷ others) =
    let one = kept_line (count (Some function.index)) (line_of count function) (lines_of count others) refl in
    let rest = sum_lines count others in
    let x = sum_by-cons (λ (f : Function). count (Some f.index)) function others in omega (arith, one, rest, x)

-- the function of a pc of a file has an index of its own
file_known : (bytes : List ℕ) (pc : ℕ) → IfSome (function_of (symbols_of bytes) pc) (λ index. how_often (symbols_of bytes).functions index ≡ 1)
file_known bytes pc = known_by (innermost (symbols_of bytes).functions pc 1)
    (innermost_holds (λ (function : Function). how_often (symbols_of bytes).functions function.index ≡ 1) (symbols_of bytes).functions pc 1
    (λ k function found. once 0 (symbols_of bytes).functions k function (symbols_ascend bytes) found)) where
      known_by : (found : Option Function) → IfSome found (λ (function : Function). how_often (symbols_of bytes).functions function.index ≡ 1)
          → IfSome (option_map (λ (function : Function). function.index) found) (λ index. how_often (symbols_of bytes).functions index ≡ 1)
      known_by None is = tt
      known_by (Some function) is = is

pub lines_sum : (bytes items : List ℕ) (ranked : List Line) → AreRanked (lines_of (count_of (symbols_of bytes) items) (symbols_of bytes).functions) ranked
    → sum_by (λ (line : Line). line.count) ranked + count_of (symbols_of bytes) items None ≡ length items
lines_sum bytes items ranked are =
    let same = sum_by-IsPermutation (λ (line : Line). line.count) (lines_of (count_of (symbols_of bytes) items) (symbols_of bytes).functions) ranked are.same in
    let lines = sum_lines (count_of (symbols_of bytes) items) (symbols_of bytes).functions in
    let all = counts_are (symbols_of bytes) (file_known bytes) items in omega (arith, same, lines, all)
