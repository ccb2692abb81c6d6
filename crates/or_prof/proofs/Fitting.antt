-- What does not fit: each text of a core or of a profile is longer than what was appended of it.
use Rattle.std.proofs.Common.{◌≡◌, ◌∙◌, ap, sym, subst, ℕ, zero, suc, ◌+◌, ◌<◌, ◌≤◌, ◌⊎◌, inl, inr, List, ◌++◌, Bool, Option, length, take, length-append, arith}
use Rattle.std.specs.List.{flat_map}
use Rattle.std.specs.List.Sorted.{IsSorted}
use Rattle.std.proofs.lemmas.Bool.{cases_lt}
use mathlib.Core.Path.{fun_ext}
use Rattle.or_elf.specs.Symbols.{SymbolTable}
use Rattle.or_elf.specs.declared.symbols.Symbol.{Symbol as Function}
use Rattle.or_prof.specs.declared.ranking.Line.{Line}
use Rattle.or_prof.specs.Tally.{Counts, count_in, spot_at}
use Rattle.or_prof.specs.Profile.{Profiled, Addition, items_of, count_of, spot_count, AreCounts}
use Rattle.or_prof.specs.Text.{rank, lines_of, AreRanked, AreSpots, spot_text, IsHotText, front_text, head_line, IsCoreText, AreCoreTexts, IsProfText, Appends}
use Rattle.or_prof.proofs.OneText.{one_ranking, one_hot, one_behind}

-- the text of a core is as long as that of these ranked lines, with its pcs behind
pub core_length : (symbols : SymbolTable) (core : ℕ) (counts : Counts) (functions : List Function) (ranked shown : List Line) (text : List ℕ) → functions ≡ symbols.functions
    → AreRanked (lines_of (count_in counts) functions) ranked → shown ≡ ranked
    → (is : IsCoreText symbols core counts.steps (count_in counts) (spot_at counts.spots) text) → length text ≡ length (front_text symbols core counts.steps (count_in counts) shown) + length is.hot
core_length symbols core counts functions ranked shown text all are same is =
    let own = subst (λ (fs : List Function). AreRanked (lines_of (count_in counts) fs) ranked) all are in
    let lines = subst (AreRanked (lines_of (count_in counts) symbols.functions)) (sym same) own in
    let front = front_text symbols core counts.steps (count_in counts) in
    ap length is.is ∙ (length-append (front is.lines) is.hot
    ∙ ap (λ (l : List Line). length (front l) + length is.hot) (one_ranking (lines_of (count_in counts) symbols.functions) is.lines shown is.ranked lines))

-- the lines of pcs are as long as these, the first of the ranked ones
pub hot_length : (at : ℕ → ℕ) (ranked lines shown : List Line) (text : List ℕ) → AreSpots at ranked → IsSorted rank ranked → lines ≡ ranked → shown ≡ take 8 lines
    → IsHotText at text → length text ≡ length (flat_map spot_text shown)
hot_length at ranked lines shown text are order same first is =
    ap length (one_hot at text (flat_map spot_text shown) is (record { ranked = ranked; are = are; order = order; is = ap (flat_map spot_text) (first ∙ ap (take 8) same) }))

-- what the items are was counted
counted_is : (hot : Bool) (symbols : SymbolTable) (core : ℕ) (items : List ℕ) (counts : Counts) (text : List ℕ) → AreCounts hot symbols items counts
    → IsCoreText symbols core (length items) (count_of symbols items) (spot_count hot symbols items) text → IsCoreText symbols core counts.steps (count_in counts) (spot_at counts.spots) text
counted_is hot symbols core items counts text are is =
    subst (λ (n : ℕ). IsCoreText symbols core n (count_in counts) (spot_at counts.spots) text) (sym are.steps)
    (subst (λ (count : Option ℕ → ℕ). IsCoreText symbols core (length items) count (spot_at counts.spots) text) (sym (fun_ext are.each))
    (subst (λ (at : ℕ → ℕ). IsCoreText symbols core (length items) (count_of symbols items) at text) (sym (fun_ext are.spots)) is))

-- a core's own text, which ends within that of all cores
record Within (hot : Bool) (symbols : SymbolTable) (additions : List Addition) (core : ℕ) (front behind : List ℕ) : Type 0 where
  own : List ℕ
  is_own : IsCoreText symbols core (length (items_of core additions)) (count_of symbols (items_of core additions)) (spot_count hot symbols (items_of core additions)) own
  fits : length front + length own ≤ length behind

within : (hot : Bool) (symbols : SymbolTable) (additions : List Addition) (core cores : ℕ) (front behind : List ℕ) → core < cores → AreCoreTexts hot symbols additions core front
    → AreCoreTexts hot symbols additions cores behind → Within hot symbols additions core front behind
within hot symbols additions core zero front behind inside is all = absurd (omega arith)
within hot symbols additions core (suc n) front behind inside is all =
    by_case (λ less. within hot symbols additions core n front all.first less is all.is_first) (cases_lt core n) where
      by_case : (core < n → Within hot symbols additions core front all.first) → (core < n) ⊎ (n ≤ core) → Within hot symbols additions core front behind
      by_case before (inl less) =
          let long = ap length all.is ∙ length-append all.first all.second in
          let w = before less in
          let fits = w.fits in record { own = w.own; is_own = w.is_own; fits = omega (arith, fits, long) }
      by_case before (inr last) =
          let long = ap length all.is ∙ length-append all.first all.second in
          let e : n ≡ core = omega arith in
          let same : front ≡ all.first = one_behind hot symbols additions core front all.first is (subst (λ (k : ℕ). AreCoreTexts hot symbols additions k all.first) e all.is_first) in
          let equal = ap length same in
          record {
            own = all.second;
            is_own = subst (λ (k : ℕ). IsCoreText symbols k (length (items_of k additions)) (count_of symbols (items_of k additions)) (spot_count hot symbols (items_of k additions)) all.second) e all.is_second;
            fits = omega (arith, equal, long);
          }

-- the text of the next core did not fit, so no text of the profile does
pub profile_lacks : (hot : Bool) (symbols : SymbolTable) (additions : List Addition) (core cores capacity now size here : ℕ) (counts : Counts) (old begun middle text : List ℕ) → core < cores → AreCounts hot symbols (items_of core additions) counts
    → begun ≡ old ++ head_line → Appends (AreCoreTexts hot symbols additions core) begun middle → size ≡ length old → here ≡ length middle → capacity ≤ now
    → ((own : List ℕ) → IsCoreText symbols core counts.steps (count_in counts) (spot_at counts.spots) own → now < here + length own)
    → IsProfText hot cores symbols additions text → capacity < size + length text
profile_lacks hot symbols additions core cores capacity now size here counts old begun middle text inside are first before long all more lacks is =
    let w = within hot symbols additions core cores before.text is.behind inside before.is_text is.is_behind in
    let own = lacks w.own (counted_is hot symbols core (items_of core additions) counts w.own are w.is_own) in
    let written = ap length before.appended ∙ length-append begun before.text in
    let head = ap length first ∙ length-append old head_line in
    let whole = ap length is.is ∙ length-append head_line is.behind in
    let fits = w.fits in
    omega (arith, own, written, head, whole, fits, long, all, more)

pub same_profile : (hot : Bool) (symbols shown : SymbolTable) (cores tallies : List Counts) → shown ≡ symbols → tallies ≡ cores
    → ◌≡◌ {A = Profiled} (record { symbols = shown; hot = hot; cores = tallies }) (record { symbols = symbols; hot = hot; cores = cores })
same_profile hot symbols shown cores tallies s t = λ i. record { symbols = s i; hot = hot; cores = t i }
