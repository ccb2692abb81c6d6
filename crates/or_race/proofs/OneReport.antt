-- There is one report on a list of events.
use Rattle.std.proofs.Common.{◌≡◌, Bool, ℕ, ◌<◌, List, [], ◌∷◌, map, nat_cmp, Less, slice_get, refl, sym, ap, ◌∙◌, subst, ⊎_elim, inl, inr, arith}
use Rattle.std.specs.List.{AllByRecursion}
use Rattle.std.specs.List.Sorted.{IsStrictlySortedBy}
use Rattle.std.specs.Cmp.{ranked}
use Rattle.std.specs.Prelude.{Option}
use Rattle.or_elf.specs.Symbols.{SymbolTable}
use Rattle.or_race.specs.declared.line.Line.{Line}
use Rattle.or_race.specs.Event.{Event}
use Rattle.or_race.specs.Race.{Race, IsData, IsFirst, IsReported, HasLine}
use Rattle.or_race.specs.Text.{race_report_text, RaceText}
use Rattle.or_race.proofs.Places.{same_at}

abbrev words_of : List Line → List ℕ
words_of lines = map (λ line. line.word) lines

less : (a b : ℕ) → nat_cmp a b ≡ Less → a < b
less a b e = ranked a b Less (sym e)

-- what is below the words of lines is none of them
not_below : (k word : ℕ) (lines : List Line) → AllByRecursion (λ y. nat_cmp k y ≡ Less) (words_of lines) → HasLine word lines → k < word
not_below k word [] b h = elim h [ ]
not_below k word (line ∷ lines) b h = ⊎_elim
    (λ (t : line.word ≡ word). let l = less k line.word b.0 in omega arith)
    (λ (t : HasLine word lines). not_below k word lines b.1 t)
    h

module _ (locks : Bool) where
  -- a line of the word is among them, and is reported
  line_of : (es : List Event) (word : ℕ) (lines : List Line) → AllByRecursion (IsReported locks es) lines → HasLine word lines → (line : Line) × IsReported locks es line × (line.word ≡ word)
  line_of es word [] each h = elim h [ ]
  line_of es word (line ∷ lines) each h = ⊎_elim
      (λ (t : line.word ≡ word). (line, each.0, t))
      (λ (t : HasLine word lines). line_of es word lines each.1 t)
      h

  races : (es : List Event) (word : ℕ) (xs : List Line) (ys : List Line) → AllByRecursion (IsReported locks es) xs → ((w i j : ℕ) → Race locks es w i j → IsData locks es w → HasLine w ys) → HasLine word xs → HasLine word ys
  races es word xs ys each all h = let l = line_of es word xs each h in let f = l.1.0 in all word f.i f.j (subst (λ (w : ℕ). Race locks es w f.i f.j) l.2 f.race) (subst (IsData locks es) l.2 l.1.1)

  -- a word has one line
  one_line : (es : List Event) (a b : Line) → IsFirst locks es a → IsFirst locks es b → a.word ≡ b.word → a ≡ b
  one_line es a b p q same =
      let race_a = subst (λ (w : ℕ). Race locks es w p.i p.j) same p.race in
      let race_b = subst (λ (w : ℕ). Race locks es w q.i q.j) (sym same) q.race in
      let le_j = p.least q.i q.j race_b in let ge_j = q.least p.i p.j race_a in
      let same_j : p.j ≡ q.j = omega arith in
      let le_i = q.greatest p.i (subst (Race locks es b.word p.i) same_j race_a) in
      let ge_i = p.greatest q.i (subst (Race locks es a.word q.i) (sym same_j) race_b) in
      let same_i : p.i ≡ q.i = omega arith in
      let first = same_at es p.i p.race.first q.race.first p.race.at_first (ap (slice_get es) same_i ∙ q.race.at_first) in
      let second = same_at es p.j p.race.second q.race.second p.race.at_second (ap (slice_get es) same_j ∙ q.race.at_second) in
      let first_pc = p.first_pc ∙ ap (λ (e : Event). e.pc) first ∙ sym q.first_pc in
      let second_pc = p.second_pc ∙ ap (λ (e : Event). e.pc) second ∙ sym q.second_pc in
      same_line a b same first_pc second_pc (p.first_turn ∙ ap (λ (e : Event). e.turn) first ∙ sym q.first_turn) (p.first_core ∙ ap (λ (e : Event). e.core) first ∙ sym q.first_core) (p.second_turn ∙ ap (λ (e : Event). e.turn) second ∙ sym q.second_turn) (p.second_core ∙ ap (λ (e : Event). e.core) second ∙ sym q.second_core)
    where
      same_line : (a b : Line) → a.word ≡ b.word → a.first_pc ≡ b.first_pc → a.second_pc ≡ b.second_pc → a.first_turn ≡ b.first_turn → a.first_core ≡ b.first_core → a.second_turn ≡ b.second_turn → a.second_core ≡ b.second_core → a ≡ b
      same_line a b v p q w x y z = λ i. record { word = v i; first_turn = w i; first_core = x i; first_pc = p i; second_turn = y i; second_core = z i; second_pc = q i }

  same_lines : (es : List Event) (xs ys : List Line) → IsStrictlySortedBy nat_cmp (words_of xs) → IsStrictlySortedBy nat_cmp (words_of ys) → AllByRecursion (IsReported locks es) xs → AllByRecursion (IsReported locks es) ys → ((w : ℕ) → HasLine w xs → HasLine w ys) → ((w : ℕ) → HasLine w ys → HasLine w xs) → xs ≡ ys
  unfolding IsStrictlySortedBy
  same_lines es [] [] s t p q to from = refl
  same_lines es [] (y ∷ ys) s t p q to from = absurd (from y.word (inl refl))
  same_lines es (x ∷ xs) [] s t p q to from = absurd (to x.word (inl refl))
  same_lines es (x ∷ xs) (y ∷ ys) s t p q to from =
      let same : x.word ≡ y.word = ⊎_elim
      (λ (h : y.word ≡ x.word). sym h)
      (λ (h : HasLine x.word ys). let below = not_below y.word x.word ys t.0 h in ⊎_elim
      (λ (k : x.word ≡ y.word). k)
      (λ (k : HasLine y.word xs). let above = not_below x.word y.word xs s.0 k in absurd (omega arith))
      (from y.word (inl refl)))
      (to x.word (inl refl)) in
      let tails = same_lines es xs ys s.1 t.1 p.1 q.1
      (λ w h. ⊎_elim
      (λ (k : y.word ≡ w). let above = not_below x.word w xs s.0 h in absurd (omega arith))
      (λ (k : HasLine w ys). k)
      (to w (inr h)))
      (λ w h. ⊎_elim
      (λ (k : x.word ≡ w). let above = not_below y.word w ys t.0 h in absurd (omega arith))
      (λ (k : HasLine w xs). k)
      (from w (inr h))) in
      ap (λ z. z ∷ xs) (one_line es x y p.0.0 q.0.0 same) ∙ ap (λ zs. y ∷ zs) tails

  pub one_text : (symbols : Option SymbolTable) (es : List Event) (a b : List ℕ) → RaceText locks symbols es a → RaceText locks symbols es b → a ≡ b
  one_text symbols es a b p q = p.text_is ∙ ap (race_report_text locks symbols) (same_lines es p.lines q.lines p.report.sorted q.report.sorted p.report.each q.report.each
      (λ w h. races es w p.lines q.lines p.report.each q.report.all h)
      (λ w h. races es w q.lines p.lines q.report.each p.report.all h)) ∙ sym q.text_is
