-- What the changes of a data cache do to the lines that it holds, and why its lines stay those of RAM.
use Rattle.std.proofs.Common.{◌≡◌, ℕ, ◌+◌, ◌%◌, ◌<◌, ◌≤◌, Bool, true, false, List, Some, None, length, ◌≢◌, ◌⊎◌, inl, inr, subst, refl, ap, sym, ◌∙◌, arith}
use Rattle.std.specs.Prelude.{Option, slice_index_or, slice_set, slice_range, ◌==◌, if◌then◌else◌}
use Rattle.std.proofs.lemmas.Bool.Decides.{nat_tests}
use Rattle.std.proofs.lemmas.Bool.{false≢true}
use Rattle.std.proofs.lemmas.Grind.{common_steps}
use Rattle.std.proofs.Math.ListN.{length-set}
use Rattle.or_words.specs.declared.Width.{Width}
use Rattle.or_words.specs.declared.Width.TheVariants.{Byte, Half, Word}
use Rattle.or_parts.specs.declared.Line.{Line}
use Rattle.or_parts.specs.Memory.{stored, bytes_of}
use Rattle.or_parts.specs.Lines.{index_of, line_of, line_at_index, line_bytes, is_line_at, line_filled, line_dropped}
use Rattle.or_mem.specs.Caches.{line_stored, line_updated_from, line_updated}
use Rattle.or_bus.specs.Lines.{is_line, holds}
use Rattle.or_bus.specs.Coherence.{IsLineOf, IsCoherent}
use Rattle.or_bus.proofs.Ranges.{stored_in_range, stored_outside}

pub index_of_line : (pa : ℕ) → index_of (line_of pa) ≡ index_of pa
index_of_line pa = omega arith

-- one index holds one line
at_one : (here : Option Line) (a b : ℕ) → is_line a here ≡ true → is_line b here ≡ (a == b)
at_one None a b h = absurd (false≢true h)
at_one (Some line) a b h = grind (arith, nat_tests)

pub holds_one : (lines : List (Option Line)) (a b : ℕ) → index_of a ≡ index_of b → holds lines a ≡ true → holds lines b ≡ (a == b)
unfolding holds
holds_one lines a b same h = at_one (line_at_index lines (index_of b)) a b (ap (λ i. is_line a (slice_index_or lines i None)) (sym same) ∙ h)

pub holds-filled : (lines : List (Option Line)) (pa a : ℕ) (bytes : List ℕ) → length lines ≡ 128 → holds (line_filled lines pa bytes) a ≡ (if line_of pa == a then true else if index_of pa == index_of a then false else holds lines a)
unfolding holds line_filled
holds-filled lines pa a bytes len = grind (arith, nat_tests, common_steps, index_of_line pa)

pub holds-dropped : (lines : List (Option Line)) (pa a : ℕ) → length lines ≡ 128 → a % 32 ≡ 0 → holds (line_dropped lines pa) a ≡ (if line_of pa == a then false else holds lines a)
unfolding holds line_dropped
holds-dropped lines pa a len aligned = grind (arith, nat_tests, common_steps)

is_line-updated : (lines : List (Option Line)) (pa v a : ℕ) (width : Width) (here : Option Line) → length lines ≡ 128 → line_at_index lines (index_of pa) ≡ here → is_line a (line_at_index (line_updated_from here lines pa width v) (index_of a)) ≡ is_line a (line_at_index lines (index_of a))
is_line-updated lines pa v a width None len is = refl
is_line-updated lines pa v a width (Some line) len is = grind (arith, nat_tests, common_steps)

pub holds-updated : (lines : List (Option Line)) (pa v a : ℕ) (width : Width) → length lines ≡ 128 → holds (line_updated lines pa width v) a ≡ holds lines a
unfolding holds line_updated
holds-updated lines pa v a width len = is_line-updated lines pa v a width (line_at_index lines (index_of pa)) len refl

pub length-stored : (ram : List ℕ) (pa v : ℕ) (width : Width) → length (stored ram pa width v) ≡ length ram
length-stored ram pa v Byte = length-set ram pa _
length-stored ram pa v Half = simp length-set
length-stored ram pa v Word = simp length-set

-- an access in one line is clear of another
clear_of : (width : Width) (a pa : ℕ) → pa % bytes_of width ≡ 0 → a ≢ line_of pa → a % 32 ≡ 0 → (pa + bytes_of width ≤ a) ⊎ (a + 32 ≤ pa)
clear_of Byte a pa aligned apart base = grind arith
clear_of Half a pa aligned apart base = grind arith
clear_of Word a pa aligned apart base = grind arith

fits_line : (width : Width) (pa : ℕ) → pa % bytes_of width ≡ 0 → pa % 32 + bytes_of width ≤ 32
fits_line Byte pa aligned = omega arith
fits_line Half pa aligned = omega arith
fits_line Word pa aligned = omega arith

-- A LINE OF RAM IS FILLED IN

set_at : (lines : List (Option Line)) (i index : ℕ) (new other : Line) → length lines ≡ 128 → i < 128 → slice_index_or (slice_set lines i (Some new)) index None ≡ Some other → ((index ≡ i) × (new ≡ other)) ⊎ ((index ≢ i) × (slice_index_or lines index None ≡ Some other))
set_at lines i index new other len h is = grind (arith, common_steps)

pub coherent-filled : (ram : List ℕ) (lines : List (Option Line)) (pa : ℕ) → length lines ≡ 128 → IsCoherent ram lines → line_of pa + 32 ≤ length ram → IsCoherent ram (line_filled lines pa (line_bytes ram pa))
unfolding line_filled
coherent-filled ram lines pa len coherent inside index other h is =
    let line : Line = record { address = line_of pa; bytes = line_bytes ram pa } in
    let new : IsLineOf ram (index_of pa) line = record { aligned = omega arith; indexed = index_of_line pa; inside = inside; same = refl } in
    elim (set_at lines (index_of pa) index line other len (omega arith) is) [
      | inl same ↦ subst (λ l. IsLineOf ram index l) same.1 (subst (λ n. IsLineOf ram n line) (sym same.0) new)
      | inr old ↦ coherent index other h old.1
    ]

-- A LINE IS DROPPED

dropped_by : (lines : List (Option Line)) (pa index : ℕ) (other : Line) (here : Option Line) → length lines ≡ 128 → line_at_index lines (index_of pa) ≡ here
    → slice_index_or (if is_line_at here pa then slice_set lines (index_of pa) None else lines) index None ≡ Some other
    → (slice_index_or lines index None ≡ Some other) × (index ≡ index_of pa → other.address ≢ line_of pa)
dropped_by lines pa index other None len at is = grind (arith, nat_tests, common_steps)
dropped_by lines pa index other (Some line) len at is = grind (arith, nat_tests, common_steps)

-- what stands after a drop stood before, and has another index or address
dropped_at : (lines : List (Option Line)) (pa index : ℕ) (other : Line) → length lines ≡ 128 → slice_index_or (line_dropped lines pa) index None ≡ Some other → (slice_index_or lines index None ≡ Some other) × (index ≡ index_of pa → other.address ≢ line_of pa)
unfolding line_dropped
dropped_at lines pa index other len is = dropped_by lines pa index other (line_at_index lines (index_of pa)) len refl is

pub coherent-dropped : (ram : List ℕ) (lines : List (Option Line)) (pa : ℕ) → length lines ≡ 128 → IsCoherent ram lines → IsCoherent ram (line_dropped lines pa)
coherent-dropped ram lines pa len coherent index other h is = coherent index other h (dropped_at lines pa index other len is).0

-- A STORE

-- a line that a store does not touch
line_stays : (ram : List ℕ) (index : ℕ) (line : Line) (pa v : ℕ) (width : Width) → pa % bytes_of width ≡ 0 → line.address ≢ line_of pa → IsLineOf ram index line → IsLineOf (stored ram pa width v) index line
line_stays ram index line pa v width aligned apart is = record {
  aligned = is.aligned;
  indexed = is.indexed;
  inside = omega (arith, is.inside, length-stored ram pa v width);
  same = is.same ∙ sym (stored_outside width ram line.address pa v (clear_of width line.address pa aligned apart is.aligned));
}

-- a line that a store goes into
line_written : (ram : List ℕ) (index : ℕ) (line : Line) (pa v : ℕ) (width : Width) → pa % bytes_of width ≡ 0 → line.address ≡ line_of pa → IsLineOf ram index line → IsLineOf (stored ram pa width v) index (line_stored line pa width v)
line_written ram index line pa v width aligned here is = record {
  aligned = is.aligned;
  indexed = is.indexed;
  inside = omega (arith, is.inside, length-stored ram pa v width);
  same = ap (λ bs. stored bs (pa % 32) width v) is.same
      ∙ stored_in_range width ram line.address (pa % 32) v (fits_line width pa aligned)
      ∙ ap (λ n. slice_range (stored ram n width v) line.address (line.address + 32)) (let e : line.address + pa % 32 ≡ pa = omega arith in e);
}

pub coherent-dropped_stored : (ram : List ℕ) (lines : List (Option Line)) (pa v : ℕ) (width : Width) → length lines ≡ 128 → pa % bytes_of width ≡ 0 → IsCoherent ram lines → IsCoherent (stored ram pa width v) (line_dropped lines pa)
coherent-dropped_stored ram lines pa v width len aligned coherent index other h is =
    let before = dropped_at lines pa index other len is in
    let known : IsLineOf ram index other = coherent index other h before.0 in
    line_stays ram index other pa v width aligned (λ e. before.1 (sym known.indexed ∙ ap index_of e ∙ index_of_line pa) e) known

updated_when : (lines : List (Option Line)) (pa v index : ℕ) (width : Width) (other line : Line) (here : Bool) → length lines ≡ 128 → line_at_index lines (index_of pa) ≡ Some line → (line.address == line_of pa) ≡ here
    → slice_index_or (if here then slice_set lines (index_of pa) (Some (line_stored line pa width v)) else lines) index None ≡ Some other
    → ((line : Line) × (slice_index_or lines index None ≡ Some line) × (line.address ≡ line_of pa) × (other ≡ line_stored line pa width v))
    ⊎ ((slice_index_or lines index None ≡ Some other) × (index ≡ index_of pa → other.address ≢ line_of pa))
updated_when lines pa v index width other line true len at test is =
    elim (set_at lines (index_of pa) index (line_stored line pa width v) other len (omega arith) is) [
      | inl w ↦ inl (line, ap (λ n. slice_index_or lines n None) w.0 ∙ at, (let e : line.address ≡ line_of pa = grind (arith, nat_tests) in e), sym w.1)
      | inr w ↦ inr (w.1, λ e. absurd (w.0 e))
    ]
updated_when lines pa v index width other line false len at test is = inr (is, λ e a. absurd (let b : ⊥ = grind (arith, nat_tests) in b))

updated_by : (lines : List (Option Line)) (pa v index : ℕ) (width : Width) (other : Line) (here : Option Line) → length lines ≡ 128 → line_at_index lines (index_of pa) ≡ here → slice_index_or (line_updated_from here lines pa width v) index None ≡ Some other
    → ((line : Line) × (slice_index_or lines index None ≡ Some line) × (line.address ≡ line_of pa) × (other ≡ line_stored line pa width v))
    ⊎ ((slice_index_or lines index None ≡ Some other) × (index ≡ index_of pa → other.address ≢ line_of pa))
updated_by lines pa v index width other None len at is = grind (arith, nat_tests, common_steps)
updated_by lines pa v index width other (Some line) len at is = updated_when lines pa v index width other line (line.address == line_of pa) len at refl is

-- what stands after an update
updated_at : (lines : List (Option Line)) (pa v index : ℕ) (width : Width) (other : Line) → length lines ≡ 128 → slice_index_or (line_updated lines pa width v) index None ≡ Some other
    → ((line : Line) × (slice_index_or lines index None ≡ Some line) × (line.address ≡ line_of pa) × (other ≡ line_stored line pa width v))
    ⊎ ((slice_index_or lines index None ≡ Some other) × (index ≡ index_of pa → other.address ≢ line_of pa))
unfolding line_updated
updated_at lines pa v index width other len is = updated_by lines pa v index width other (line_at_index lines (index_of pa)) len refl is

pub coherent-updated : (ram : List ℕ) (lines : List (Option Line)) (pa v : ℕ) (width : Width) → length lines ≡ 128 → pa % bytes_of width ≡ 0 → IsCoherent ram lines → IsCoherent (stored ram pa width v) (line_updated lines pa width v)
coherent-updated ram lines pa v width len aligned coherent index other h is =
    elim (updated_at lines pa v index width other len is) [
      | inl w ↦ subst (λ l. IsLineOf (stored ram pa width v) index l) (sym w.3) (line_written ram index w.0 pa v width aligned w.2 (coherent index w.0 h w.1))
      | inr w ↦ (let known : IsLineOf ram index other = coherent index other h w.0 in
          line_stays ram index other pa v width aligned (λ e. w.1 (sym known.indexed ∙ ap index_of e ∙ index_of_line pa) e) known)
    ]

-- A CACHE KEEPS ITS NUMBER OF INDEXES

pub length-filled : (lines : List (Option Line)) (pa : ℕ) (bytes : List ℕ) → length (line_filled lines pa bytes) ≡ length lines
unfolding line_filled
length-filled lines pa bytes = length-set lines _ _

length-if : (b : Bool) (lines : List (Option Line)) (i : ℕ) (x : Option Line) → length (if b then slice_set lines i x else lines) ≡ length lines
length-if true lines i x = length-set lines i x
length-if false lines i x = refl

pub length-dropped : (lines : List (Option Line)) (pa : ℕ) → length (line_dropped lines pa) ≡ length lines
unfolding line_dropped
length-dropped lines pa = length-if (is_line_at (line_at_index lines (index_of pa)) pa) lines (index_of pa) None

length-updated_from : (lines : List (Option Line)) (pa v : ℕ) (width : Width) (here : Option Line) → length (line_updated_from here lines pa width v) ≡ length lines
length-updated_from lines pa v width None = refl
length-updated_from lines pa v width (Some line) = length-if (line.address == line_of pa) lines (index_of pa) _

pub length-updated : (lines : List (Option Line)) (pa v : ℕ) (width : Width) → length (line_updated lines pa width v) ≡ length lines
unfolding line_updated
length-updated lines pa v width = length-updated_from lines pa v width (line_at_index lines (index_of pa))
