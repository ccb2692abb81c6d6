-- The lines of the entries of a map of counts.
use Rattle.std.proofs.Common.{◌≡◌, ◌≢◌, ◌∙◌, ap, refl, sym, ℕ, ◌+◌, ◌<◌, ◌==◌, cond, true, false, List, [], ◌∷◌, Option, Some, None, ◌⊎◌, inl, inr, map, arith}
use Rattle.std.proofs.lemmas.Bool.Decides.{nat_tests}
use Rattle.std.proofs.lemmas.List.Sums.{sum_by-cons}
use Rattle.std.proofs.lemmas.Map.{lookup-none}
use Rattle.std.proofs.lemmas.Map.Entries.{lookup_head, lookup_tail, none_past_head}
use Rattle.std.specs.Cmp.{nat_eq_equiv}
use Rattle.std.specs.Prelude.{count_by, nat_eq, nat_lt, ◌&&◌, if◌then◌else◌, unwrap_or}
use Rattle.std.specs.List.{IsDistinct}
use Rattle.std.specs.Map.{lookup, keys_of}
use Rattle.std.specs.Option.{ForSome}
use Rattle.or_prof.specs.declared.ranking.Line.{Line}
use Rattle.or_prof.specs.Tally.{spot_at}
use Rattle.or_prof.specs.Text.{is_line, spot_line, AreSpots}
use Rattle.or_prof.proofs.Gets.{nat_cases}

-- how often a line stands by what is found at its pc
matches : Line → Option ℕ → ℕ
matches line None = 0
matches line (Some count) = cond (line.count == count) 1 0

is_same_pc : (a b : ℕ) → a ≡ b → nat_eq a b ≡ true
is_same_pc a b same = grind (arith, nat_tests)

is_other_pc : (a b : ℕ) → a ≢ b → nat_eq a b ≡ false
is_other_pc a b differ = grind (arith, nat_tests)

first_same : (line : Line) (e : ℕ × ℕ) → line.key ≡ e.0 → cond {A = ℕ} (is_line line (spot_line e)) 1 0 ≡ cond (line.count == e.1) 1 0
unfolding is_line
first_same line e same = grind (arith, nat_tests)

first_other : (line : Line) (e : ℕ × ℕ) → line.key ≢ e.0 → cond {A = ℕ} (is_line line (spot_line e)) 1 0 ≡ 0
unfolding is_line
first_other line e differ = grind (arith, nat_tests)

apart_behind : (e : ℕ × ℕ) (es : List (ℕ × ℕ)) → IsDistinct nat_eq (keys_of (e ∷ es)) → IsDistinct nat_eq (keys_of es)
unfolding IsDistinct
apart_behind e es apart = apart.1

stands : (line : Line) (es : List (ℕ × ℕ)) → IsDistinct nat_eq (keys_of es) → count_by (is_line line) (map spot_line es) ≡ matches line (lookup (nat_eq line.key) es)
unfolding matches
stands line [] apart = refl
stands line (e ∷ es) apart = by_case (nat_cases line.key e.0) (stands line es (apart_behind e es apart)) where
  all : count_by (is_line line) (map spot_line (e ∷ es)) ≡ cond (is_line line (spot_line e)) 1 0 + count_by (is_line line) (map spot_line es)
  all = sum_by-cons (λ (l : Line). cond (is_line line l) 1 0) (spot_line e) (map spot_line es)

  by_case : (line.key ≡ e.0) ⊎ (line.key ≢ e.0) → count_by (is_line line) (map spot_line es) ≡ matches line (lookup (nat_eq line.key) es)
      → count_by (is_line line) (map spot_line (e ∷ es)) ≡ matches line (lookup (nat_eq line.key) (e ∷ es))
  by_case (inl same) behind =
      let test = is_same_pc line.key e.0 same in
      let none = behind ∙ ap (matches line) (lookup-none (nat_eq line.key) es (none_past_head nat_eq_equiv line.key e es apart test)) in
      let first = first_same line e same in
      let sum : count_by (is_line line) (map spot_line (e ∷ es)) ≡ cond (line.count == e.1) 1 0 = omega (arith, all, first, none) in
      sum ∙ sym (ap (matches line) (lookup_head (nat_eq line.key) e es test))
  by_case (inr differ) behind =
      let test = is_other_pc line.key e.0 differ in
      let first = first_other line e differ in
      let sum : count_by (is_line line) (map spot_line (e ∷ es)) ≡ matches line (lookup (nat_eq line.key) es) = omega (arith, all, first, behind) in
      sum ∙ sym (ap (matches line) (lookup_tail (nat_eq line.key) e es test))

if_found : (line : Line) (found : Option ℕ) → ForSome found (λ count. 0 < count)
    → matches line found ≡ (if nat_lt 0 line.count && (unwrap_or found 0 == line.count) then 1 else 0)
unfolding matches
if_found line None some = grind (arith, nat_tests)
if_found line (Some count) some = let low : 0 < count = some count refl in grind (arith, nat_tests, low)

-- a map whose counts are above 0 has the line of each pc with a count once
pub entries_are : (es : List (ℕ × ℕ)) → IsDistinct nat_eq (keys_of es) → ((pc : ℕ) → ForSome (lookup (nat_eq pc) es) (λ count. 0 < count)) → AreSpots (spot_at es) (map spot_line es)
entries_are es apart some = λ line. stands line es apart ∙ if_found line (lookup (nat_eq line.key) es) (some line.key)
