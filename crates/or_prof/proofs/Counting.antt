-- One item more is counted.
use Rattle.std.proofs.Common.{◌≡◌, ◌∙◌, ap, refl, sym, subst, ℕ, zero, suc, ◌+◌, ◌<◌, ◌==◌, cond, Bool, true, false, List, [], ◌∷◌, ◌++◌, Option, Some, None, length, add-zero, zero-add, arith}
use Rattle.std.proofs.lemmas.Grind.{common_steps}
use Rattle.std.proofs.lemmas.Bool.Decides.{nat_tests}
use Rattle.std.proofs.lemmas.List.Sums.{sum_by-append}
use Rattle.std.proofs.lemmas.List.{length-append}
use Rattle.std.specs.Prelude.{IfSome, slice_get, slice_index, slice_set, count_by, if◌then◌else◌, nat_lt, ◌&&◌}
use Rattle.or_elf.specs.declared.symbols.Symbol.{Symbol as Function}
use Rattle.or_elf.specs.Symbols.{SymbolTable, covers, later_start, innermost, function_of}
use Rattle.or_prof.specs.Tally.{Counts, Spotted, count_in, counted, is_none, IsCounted, AreBelow}
use Rattle.or_prof.specs.Profile.{is_same, spot_count, AreCounts}

one_of : (P : Function → Type 0) (b : Bool) (first second : Function) → P first → P second → IfSome (cond b (Some second) (Some first)) P
one_of P true first second is also = also
one_of P false first second is also = is

-- the later of two functions is one of them
later_holds : (P : Function → Type 0) (first second : Option Function) → IfSome first P → IfSome second P → IfSome (later_start first second) P
later_holds P None second is also = also
later_holds P (Some first) None is also = is
later_holds P (Some first) (Some second) is also = one_of P (nat_lt first.value second.value) first second is also

where_covers : (P : Function → Type 0) (b : Bool) (function : Function) → P function → IfSome (cond b (Some function) None) P
where_covers P true function is = is
where_covers P false function is = tt

-- the innermost function is one of the functions
pub innermost_holds : (P : Function → Type 0) (functions : List Function) (address count : ℕ) → ((k : ℕ) (function : Function) → slice_get functions k ≡ Some function → P function)
    → IfSome (innermost functions address count) P
unfolding innermost
innermost_holds P [] address count each = tt
innermost_holds P (function ∷ others) address count each =
    later_holds P (if covers address count function then Some function else None) (innermost others address count)
    (where_covers P (covers address count function) function (each zero function refl))
    (innermost_holds P others address count (λ k other found. each (suc k) other found))

index_below : (size : ℕ) (found : Option Function) → IfSome found (λ (function : Function). function.index < size)
    → IfSome (Rattle.std.specs.Option.option_map (λ (function : Function). function.index) found) (λ index. index < size)
index_below size None is = tt
index_below size (Some function) is = is

-- the index of a pc's function is below the size
pub function_known : (size : ℕ) (symbols : SymbolTable) (pc : ℕ) → AreBelow size symbols.functions → IfSome (function_of symbols pc) (λ index. index < size)
function_known size symbols pc below =
    index_below size (innermost symbols.functions pc 1) (innermost_holds (λ (function : Function). function.index < size) symbols.functions pc 1 below)

raised_at : (xs : List ℕ) (i j : ℕ) → i < length xs → slice_index (slice_set xs i (slice_index xs i + 1)) j ≡ slice_index xs j + cond (i == j) 1 0
raised_at xs i j inside = grind (arith, common_steps, nat_tests)

-- one count rises by one
count_more : (counts : Counts) (found function : Option ℕ) (spots : Spotted) → IfSome found (λ index. index < length counts.by_index)
    → count_in (counted counts found spots) function ≡ count_in counts function + cond (is_same found function) 1 0
count_more counts None None spots known = refl
count_more counts None (Some other) spots known = sym (add-zero (slice_index counts.by_index other))
count_more counts (Some index) None spots known = sym (add-zero counts.outside)
count_more counts (Some index) (Some other) spots known = raised_at counts.by_index index other known

steps_more : (counts : Counts) (found : Option ℕ) (spots : Spotted) → (counted counts found spots).steps ≡ counts.steps + 1
steps_more counts None spots = refl
steps_more counts (Some index) spots = refl

pub steps_counted : (hot : Bool) (counts new : Counts) (found : Option ℕ) (pc : ℕ) → IsCounted hot counts found pc new → new.steps ≡ counts.steps + 1
steps_counted hot counts new found pc is = ap (λ (c : Counts). c.steps) is.counts ∙ steps_more counts found new.spots

count_snoc : (p : ℕ → Bool) (items : List ℕ) (pc : ℕ) → count_by p (items ++ pc ∷ []) ≡ count_by p items + cond (p pc) 1 0
count_snoc p items pc = sum_by-append (λ other. cond (p other) 1 0) items (pc ∷ []) ∙ ap (λ n. count_by p items + n) (zero-add (cond (p pc) 1 0))

-- the pc of one item more
spots_more : (hot : Bool) (symbols : SymbolTable) (items : List ℕ) (pc other : ℕ)
    → spot_count hot symbols (items ++ pc ∷ []) other ≡ spot_count hot symbols items other + cond (hot && (is_none (function_of symbols pc) && (pc == other))) 1 0
spots_more false symbols items pc other = refl
spots_more true symbols items pc other = count_snoc (λ item. is_none (function_of symbols item) && (item == other)) items pc

pub counted_is : (hot : Bool) (symbols : SymbolTable) (items : List ℕ) (pc : ℕ) (counts new : Counts) → AreBelow (length counts.by_index) symbols.functions
    → IsCounted hot counts (function_of symbols pc) pc new → AreCounts hot symbols items counts → AreCounts hot symbols (items ++ pc ∷ []) new
counted_is hot symbols items pc counts new below is are = record {
  each = λ function. ap (λ (c : Counts). count_in c function) is.counts
      ∙ (count_more counts (function_of symbols pc) function new.spots (function_known (length counts.by_index) symbols pc below)
      ∙ (ap (λ n. n + cond (is_same (function_of symbols pc) function) 1 0) (are.each function)
      ∙ sym (count_snoc (λ other. is_same (function_of symbols other) function) items pc)));
  spots = λ other. is.spots other
      ∙ (ap (λ n. n + cond (hot && (is_none (function_of symbols pc) && (pc == other))) 1 0) (are.spots other) ∙ sym (spots_more hot symbols items pc other));
  steps = steps_counted hot counts new (function_of symbols pc) pc is ∙ (ap (λ n. n + 1) are.steps ∙ sym (length-append items (pc ∷ [])));
}

pub counted_by : (hot : Bool) (symbols : SymbolTable) (items : List ℕ) (pc : ℕ) (found : Option ℕ) (counts new : Counts) → found ≡ function_of symbols pc
    → IsCounted hot counts found pc new → AreBelow (length counts.by_index) symbols.functions → AreCounts hot symbols items counts → AreCounts hot symbols (items ++ pc ∷ []) new
counted_by hot symbols items pc found counts new function is below are =
    counted_is hot symbols items pc counts new below (subst (λ (f : Option ℕ). IsCounted hot counts f pc new) function is) are

pub ruleset counting = (function_known, steps_counted)
