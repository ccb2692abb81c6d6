-- The lines that are kept are those of the report.
use Rattle.std.proofs.Common.{◌≡◌, ℕ, zero, suc, ◌≤◌, List, [], ◌∷◌, ◌+◌, ◌++◌, length, length-append, map, slice_get, Option, Some, None, cond, true, false, Bool, unwrap_or, nat_cmp, Less, option_to_list, ◌&&◌, if◌then◌else◌, refl, sym, ap, ◌∙◌, subst, inl, inr, arith, append-nil, append_assoc}
use Rattle.std.specs.BTreeMap.{BTreeMap, is_at, get, values, IsOrdered, btree_map_len}
use Rattle.std.specs.Map.{lookup, keys_of, values_of}
use Rattle.std.specs.List.{AllByRecursion}
use Rattle.std.specs.List.Sorted.{IsStrictlySortedBy}
use Rattle.std.specs.Cmp.{nat_cmp_total}
use Rattle.std.proofs.lemmas.Map.Entries.{btree_map_get_place, length-values_of}
use Rattle.or_race.specs.declared.line.Line.{Line}
use Rattle.or_race.specs.declared.word.Word.{Word}
use Rattle.or_race.specs.declared.races.Races.{Races}
use Rattle.or_race.specs.Event.{Event}
use Rattle.or_race.specs.Race.{Race, IsData, IsReported, HasLine, IsReport}
use Rattle.or_race.specs.Kept.{FoundOk, SynchronizesOk, blank}
use Rattle.or_race.specs.Records.{Records, kept_of}
use Rattle.or_race.specs.Lines.{reported_line, found_lines}
use Rattle.or_elf.specs.Symbols.{SymbolTable}
use Rattle.or_race.specs.Text.{line_text, lines_text}

pub values_few : (words : BTreeMap ℕ Word) → length (values words) ≡ btree_map_len words
values_few words = length-values_of words.entries

-- the text of one more line
pub lines_text_some : (symbols : Option SymbolTable) (line : Line) (lines : List Line) → lines_text symbols (line ∷ lines) ≡ line_text symbols line ++ lines_text symbols lines
unfolding lines_text
lines_text_some symbols line lines = refl

pub lines_text_none : (symbols : Option SymbolTable) → lines_text symbols [] ≡ []
unfolding lines_text
lines_text_none symbols = refl

module _ (locks : Bool) where
  -- no more lines than words
  pub found_few : (ws : List Word) → length (found_lines locks ws) ≤ length ws
  found_few [] = omega arith
  found_few (w ∷ ws) = by_found (reported_line locks w) (found_few ws)
    where
      by_found : (found : Option Line) → length (found_lines locks ws) ≤ length ws → length (option_to_list found ++ found_lines locks ws) ≤ suc (length ws)
      by_found None h = omega arith
      by_found (Some line) h = omega arith

  -- one more word that races
  pub one_found : (rest : List Word) (w : Word) (ws : List Word) (line : Line) → rest ≡ w ∷ ws → reported_line locks w ≡ Some line → found_lines locks rest ≡ line ∷ found_lines locks ws
  one_found rest w ws line e f = ap (found_lines locks) e ∙ ap (λ o. option_to_list o ++ found_lines locks ws) f

  pub text_next : (symbols : Option SymbolTable) (out new total : List ℕ) (rest ws : List Word) (line : Line) → new ≡ out ++ line_text symbols line → found_lines locks rest ≡ line ∷ found_lines locks ws
      → out ++ lines_text symbols (found_lines locks rest) ≡ total → new ++ lines_text symbols (found_lines locks ws) ≡ total
  text_next symbols out new total rest ws line n f before =
      ap (λ x. x ++ lines_text symbols (found_lines locks ws)) n ∙ append_assoc out (line_text symbols line) (lines_text symbols (found_lines locks ws))
      ∙ ap (λ x. out ++ x) (sym (ap (lines_text symbols) f ∙ lines_text_some symbols line (found_lines locks ws))) ∙ before

  -- the next line ends within the text
  pub line_fits : (symbols : Option SymbolTable) (out total : List ℕ) (rest ws : List Word) (line : Line) → found_lines locks rest ≡ line ∷ found_lines locks ws
      → out ++ lines_text symbols (found_lines locks rest) ≡ total → length out + length (line_text symbols line) ≤ length total
  line_fits symbols out total rest ws line f before =
      let later = lines_text symbols (found_lines locks ws) in
      let long = ap length before in
      let parts = length-append out (lines_text symbols (found_lines locks rest)) in
      let next : length (lines_text symbols (found_lines locks rest)) ≡ length (line_text symbols line ++ later) =
      ap (λ ls. length (lines_text symbols ls)) f ∙ ap length (lines_text_some symbols line (found_lines locks ws)) in
      omega (arith, long, parts, next, length-append (line_text symbols line) later)

  pub text_end : (symbols : Option SymbolTable) (out total : List ℕ) (rest : List Word) → rest ≡ [] → out ++ lines_text symbols (found_lines locks rest) ≡ total → out ≡ total
  text_end symbols out total rest e before =
      sym (append-nil out) ∙ ap (λ x. out ++ x) (sym (ap (λ ws. lines_text symbols (found_lines locks ws)) e ∙ lines_text_none symbols)) ∙ before

-- ---- the report
all_at : {A : Type 0} (P : A → Type 0) (xs : List A) → ((i : ℕ) (x : A) → slice_get xs i ≡ Some x → P x) → AllByRecursion P xs
all_at P [] h = tt
all_at P (x ∷ xs) h = (h zero x refl, all_at P xs (λ i. h (suc i)))

-- what the reported line of a word tells
abbrev LineOk : Bool → List Event → ℕ → Option Line → Type 0
LineOk locks es word None = (i j : ℕ) → Race locks es word i j → IsData locks es word → ⊥
LineOk locks es word (Some line) = (line.word ≡ word) × IsReported locks es line

line_ok : (locks : Bool) (es : List Event) (word : ℕ) (found : Option Line) (b : Bool) → FoundOk locks es word found → SynchronizesOk es word b → LineOk locks es word (if locks && b then None else found)
line_ok true es word found true f s = λ i j race free. free s
line_ok true es word None false f s = λ i j race free. f i j race
line_ok true es word (Some line) false f s = (f.0, (f.1, subst (IsData true es) (sym f.0) s))
line_ok false es word None b f s = λ i j race free. f i j race
line_ok false es word (Some line) b f s = (f.0, (f.1, tt))

abbrev EntryOk : Bool → List Event → ℕ × Word → Type 0
EntryOk locks es e = LineOk locks es e.0 (reported_line locks e.1)

entries_ok : (locks : Bool) (races : Races) (es : List Event) → IsOrdered nat_cmp races.words → Records locks races es → AllByRecursion (EntryOk locks es) races.words.entries
entries_ok locks races es ordered r = all_at (EntryOk locks es) races.words.entries (λ i e at.
    let kept : kept_of races e.0 ≡ e.1 = ap (λ o. unwrap_or o blank) (btree_map_get_place nat_cmp_total races.words i e.0 e.1 ordered at) in
    subst (λ (w : Word). LineOk locks es e.0 (reported_line locks w)) kept (let w = r.words e.0 in line_ok locks es e.0 (kept_of races e.0).found (kept_of races e.0).synchronizes w.found w.synchronizes))

module _ (locks : Bool) where
  each_line : (es : List Event) (entries : List (ℕ × Word)) → AllByRecursion (EntryOk locks es) entries → AllByRecursion (IsReported locks es) (found_lines locks (values_of entries))
  each_line es [] h = tt
  each_line es (e ∷ rest) h = by_found (reported_line locks e.1) h.0 (each_line es rest h.1)
    where
      by_found : (found : Option Line) → LineOk locks es e.0 found → AllByRecursion (IsReported locks es) (found_lines locks (values_of rest)) → AllByRecursion (IsReported locks es) (option_to_list found ++ found_lines locks (values_of rest))
      by_found None ok more = more
      by_found (Some line) ok more = (ok.1, more)

  -- a key below others is below the words of their lines
  below_lines : (es : List Event) (k : ℕ) (entries : List (ℕ × Word)) → AllByRecursion (λ y. nat_cmp k y ≡ Less) (keys_of entries) → AllByRecursion (EntryOk locks es) entries → AllByRecursion (λ y. nat_cmp k y ≡ Less) (map (λ line. line.word) (found_lines locks (values_of entries)))
  below_lines es k [] b h = tt
  below_lines es k (e ∷ rest) b h = by_found (reported_line locks e.1) h.0 (below_lines es k rest b.1 h.1)
    where
      by_found : (found : Option Line) → LineOk locks es e.0 found → AllByRecursion (λ y. nat_cmp k y ≡ Less) (map (λ line. line.word) (found_lines locks (values_of rest))) → AllByRecursion (λ y. nat_cmp k y ≡ Less) (map (λ line. line.word) (option_to_list found ++ found_lines locks (values_of rest)))
      by_found None ok more = more
      by_found (Some line) ok more = (ap (nat_cmp k) ok.0 ∙ b.0, more)

  sorted_lines : (es : List Event) (entries : List (ℕ × Word)) → IsStrictlySortedBy nat_cmp (keys_of entries) → AllByRecursion (EntryOk locks es) entries → IsStrictlySortedBy nat_cmp (map (λ line. line.word) (found_lines locks (values_of entries)))
  unfolding IsStrictlySortedBy
  sorted_lines es [] s h = tt
  sorted_lines es (e ∷ rest) s h = by_found (reported_line locks e.1) h.0 (sorted_lines es rest s.1 h.1)
    where
      by_found : (found : Option Line) → LineOk locks es e.0 found → IsStrictlySortedBy nat_cmp (map (λ line. line.word) (found_lines locks (values_of rest))) → IsStrictlySortedBy nat_cmp (map (λ line. line.word) (option_to_list found ++ found_lines locks (values_of rest)))
      by_found None ok more = more
      by_found (Some line) ok more = (subst (λ (k : ℕ). AllByRecursion (λ y. nat_cmp k y ≡ Less) (map (λ line. line.word) (found_lines locks (values_of rest)))) (sym ok.0) (below_lines es e.0 rest s.0 h.1), more)

  more_lines : (word : ℕ) (found : Option Line) (lines : List Line) → HasLine word lines → HasLine word (option_to_list found ++ lines)
  more_lines word None lines h = h
  more_lines word (Some line) lines h = inr h

  has_line : (word : ℕ) (entries : List (ℕ × Word)) (w : Word) (line : Line) → lookup (is_at (nat_cmp word)) entries ≡ Some w → reported_line locks w ≡ Some line → line.word ≡ word → HasLine word (found_lines locks (values_of entries))
  has_line word [] w line e f q = cc
  has_line word (x ∷ rest) w line e f q = by_test (is_at (nat_cmp word) x.0) e (λ d. has_line word rest w line d f q)
    where
      by_test : (b : Bool) → cond b (Some x.1) (lookup (is_at (nat_cmp word)) rest) ≡ Some w → (lookup (is_at (nat_cmp word)) rest ≡ Some w → HasLine word (found_lines locks (values_of rest))) → HasLine word (option_to_list (reported_line locks x.1) ++ found_lines locks (values_of rest))
      by_test true d more = let is : x.1 ≡ w = cc in subst (λ (o : Option Line). HasLine word (option_to_list o ++ found_lines locks (values_of rest))) (sym (ap (reported_line locks) is ∙ f)) (inl q)
      by_test false d more = more_lines word (reported_line locks x.1) (found_lines locks (values_of rest)) (more d)

pub reported : (locks : Bool) (races : Races) (es : List Event) → IsOrdered nat_cmp races.words → Records locks races es → IsReport locks es (found_lines locks (values races.words))
reported locks races es ordered r = let ok = entries_ok locks races es ordered r in record {
  sorted = sorted_lines locks es races.words.entries ordered ok;
  each = each_line locks es races.words.entries ok;
  all = λ word i j race free. by_get word i j race free (get nat_cmp races.words word) refl (r.words word).found (r.words word).synchronizes;
}
  where
    by_line : (word i j : ℕ) → Race locks es word i j → IsData locks es word → (w : Word) → get nat_cmp races.words word ≡ Some w → (line : Option Line) → reported_line locks w ≡ line → LineOk locks es word line → HasLine word (found_lines locks (values races.words))
    by_line word i j race free w e None f h = absurd (h i j race free)
    by_line word i j race free w e (Some line) f h = has_line locks word races.words.entries w line e f h.0

    by_get : (word i j : ℕ) → Race locks es word i j → IsData locks es word → (o : Option Word) → get nat_cmp races.words word ≡ o → FoundOk locks es word (unwrap_or o blank).found → SynchronizesOk es word (unwrap_or o blank).synchronizes → HasLine word (found_lines locks (values races.words))
    by_get word i j race free None e h s = absurd (h i j race)
    by_get word i j race free (Some w) e h s = by_line word i j race free w e (reported_line locks w) refl (line_ok locks es word w.found w.synchronizes h s)
