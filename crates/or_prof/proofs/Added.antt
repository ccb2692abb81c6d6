-- A profile at its opening, and with one trace more.
use Rattle.std.proofs.Common.{◌≡◌, ◌≢◌, ◌∙◌, ap, refl, sym, subst, ℕ, ◌==◌, cond, Bool, true, false, List, [], ◌∷◌, ◌++◌, Option, Some, None, inl, inr, append-nil, arith}
use Rattle.std.proofs.lemmas.Grind.{common_steps}
use Rattle.std.proofs.lemmas.Bool.Decides.{nat_tests}
use Rattle.std.proofs.lemmas.List.Elements.{filter-append}
use Rattle.std.proofs.lemmas.List.Concat.{flat_map-append}
use Rattle.std.specs.Prelude.{slice_get, slice_index, slice_set, replicate}
use Rattle.std.specs.List.{filter, flat_map}
use Rattle.or_elf.specs.Symbols.{SymbolTable}
use Rattle.or_prof.specs.Tally.{Counts, count_in, no_counts, AreEmpty}
use Rattle.or_prof.proofs.Gets.{nat_cases, get-set_same, get-set_other}
use Rattle.or_prof.specs.Profile.{Addition, items_of, count_of, spot_count, AreCounts, IsProfile}

zero_at : (size index : ℕ) → slice_index (replicate size 0) index ≡ 0
zero_at size index = grind (arith, common_steps)

counts_none : (symbols : SymbolTable) (size : ℕ) (function : Option ℕ) → count_in (no_counts size) function ≡ count_of symbols [] function
counts_none symbols size None = refl
counts_none symbols size (Some index) = zero_at size index

-- nothing was added
spots_none : (hot : Bool) (symbols : SymbolTable) (pc : ℕ) → 0 ≡ spot_count hot symbols [] pc
spots_none false symbols pc = refl
spots_none true symbols pc = refl

are_none : (hot : Bool) (symbols : SymbolTable) (size : ℕ) → AreCounts hot symbols [] (no_counts size)
are_none hot symbols size = record { each = counts_none symbols size; spots = spots_none hot symbols; steps = refl }

pub opened : (hot : Bool) (symbols : SymbolTable) (count size : ℕ) (cores : List Counts) → AreEmpty count size cores → IsProfile (record { symbols = symbols; hot = hot; cores = cores }) []
opened hot symbols count size cores empty = record {
  counts = λ core counts found. subst (AreCounts hot symbols []) (sym (empty.each core counts found)) (are_none hot symbols size);
}

-- the items of a core, with one trace more
items_more : (core : ℕ) (additions : List Addition) (addition : Addition) → items_of core (additions ++ addition ∷ []) ≡ items_of core additions ++ items_of core (addition ∷ [])
items_more core additions addition =
    ap (flat_map (λ (a : Addition). a.trace)) (filter-append (λ (a : Addition). a.core == core) additions (addition ∷ []))
    ∙ flat_map-append (λ (a : Addition). a.trace) (filter (λ (a : Addition). a.core == core) additions) (filter (λ (a : Addition). a.core == core) (addition ∷ []))

same_number : (core : ℕ) (addition : Addition) (b : Bool) → (addition.core == core) ≡ b
    → items_of core (addition ∷ []) ≡ flat_map (λ (a : Addition). a.trace) (cond b (addition ∷ []) [])
same_number core addition b is = ap (λ (t : Bool). flat_map (λ (a : Addition). a.trace) (cond t (addition ∷ []) [])) is

items_own : (core : ℕ) (trace : List ℕ) → items_of core (record { core = core; trace = trace } ∷ []) ≡ trace
items_own core trace = same_number core (record { core = core; trace = trace }) true (grind (arith, nat_tests)) ∙ append-nil trace

items_other : (core other : ℕ) (trace : List ℕ) → other ≢ core → items_of other (record { core = core; trace = trace } ∷ []) ≡ []
items_other core other trace differ = same_number other (record { core = core; trace = trace }) false (grind (arith, nat_tests))

-- one core's counts are those of its trace too, and the others' as before
pub added : (hot : Bool) (symbols : SymbolTable) (cores : List Counts) (core : ℕ) (trace : List ℕ) (old new : Counts) (additions : List Addition) → slice_get cores core ≡ Some old
    → ((items : List ℕ) → AreCounts hot symbols items old → AreCounts hot symbols (items ++ trace) new) → IsProfile (record { symbols = symbols; hot = hot; cores = cores }) additions
    → IsProfile (record { symbols = symbols; hot = hot; cores = slice_set cores core new }) (additions ++ record { core = core; trace = trace } ∷ [])
added hot symbols cores core trace old new additions at more is = record {
  counts = λ other got found. elim (nat_cases other core) [
    | inl same ↦
        subst (λ (c : ℕ). AreCounts hot symbols (items_of c (additions ++ record { core = core; trace = trace } ∷ [])) got) (sym same)
        (subst (AreCounts hot symbols (items_of core (additions ++ record { core = core; trace = trace } ∷ [])))
        (get-set_same cores core old new got at (subst (λ (c : ℕ). slice_get (slice_set cores core new) c ≡ Some got) same found))
        (subst (λ (l : List ℕ). AreCounts hot symbols l new)
        (sym (items_more core additions (record { core = core; trace = trace }) ∙ ap (λ (l : List ℕ). items_of core additions ++ l) (items_own core trace)))
        (more (items_of core additions) (is.counts core old at))))
    | inr differ ↦
        subst (λ (l : List ℕ). AreCounts hot symbols l got)
        (sym (items_more other additions (record { core = core; trace = trace }) ∙ (ap (λ (l : List ℕ). items_of other additions ++ l) (items_other core other trace differ)
        ∙ append-nil (items_of other additions))))
        (is.counts other got (sym (get-set_other cores core other new differ) ∙ found))
  ];
}
