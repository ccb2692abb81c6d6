-- Every line has a reading.
use Rattle.std.proofs.Common.{◌≡◌, ◌∙◌, refl, sym, ap, ℕ, Bool, true, false, cond, ◌&&◌, ◌||◌, List, [], ◌∷◌, ◌++◌, Some, None, append_assoc, subst}
use Rattle.std.specs.Prelude.{not, ◌==◌}
use Rattle.std.specs.List.{list_all}
use Rattle.or_asm_read.specs.Cuts.{is_blank, is_label_byte, is_label, trimmed_start, onto, trimmed_end, trimmed, before, after, has, body_of, has_label, label_of, statement_of}
use Rattle.or_asm_laws.specs.Grammar.{AreBlanks, IsComment, HasNoHash, IsTight, IsLine}
use Rattle.or_asm_laws.proofs.Spelled.{and_true, none_such, before_at, after_at, before_none, skipped_first}
use Rattle.or_asm_laws.proofs.Operands.{append_none}
use Rattle.or_asm_laws.proofs.Readings.{cut_at, letters_only, has_there}

or_false : (a b : Bool) → (a || b) ≡ false → (a ≡ false) × (b ≡ false)
or_false true b e = cc
or_false false b e = (refl, e)

any_none : (c : ℕ) (xs : List ℕ) → has c xs ≡ false → list_all (λ b. not (b == c)) xs ≡ true
any_none c [] h = refl
any_none c (x ∷ xs) h =
    let parts = or_false (x == c) (has c xs) h in
    ap (λ t. not t && list_all (λ b. not (b == c)) xs) parts.0 ∙ any_none c xs parts.1

all_left : (p : ℕ → Bool) (xs ys : List ℕ) → list_all p (xs ++ ys) ≡ true → list_all p xs ≡ true
all_left p [] ys h = refl
all_left p (x ∷ xs) ys h =
    let parts = and_true (p x) (list_all p (xs ++ ys)) h in
    ap (λ t. t && list_all p xs) parts.0 ∙ all_left p xs ys parts.1

all_right : (p : ℕ → Bool) (xs ys : List ℕ) → list_all p (xs ++ ys) ≡ true → list_all p ys ≡ true
all_right p [] ys h = h
all_right p (x ∷ xs) ys h = all_right p xs ys (and_true (p x) (list_all p (xs ++ ys)) h).1

-- a line and its comment
record Commented (line : List ℕ) : Type 0 where
  comment : List ℕ
  form : IsComment comment
  whole : line ≡ before 35 line ++ comment
  clear : HasNoHash (before 35 line)

commented_by : (line : List ℕ) (t : Bool) → has 35 line ≡ t → Commented line
commented_by line false e =
    let same : before 35 line ≡ line = before_none (λ b. b == 35) line (any_none 35 line e) in
    record { comment = []; form = tt; whole = sym (append_none (before 35 line) ∙ same); clear = ap (list_all (λ b. not (b == 35))) same ∙ any_none 35 line e }
commented_by line true e =
    let cut = cut_at 35 line e in
    let front : before 35 line ≡ cut.front = ap (before 35) cut.whole ∙ before_at (λ b. b == 35) cut.front 35 cut.back cut.clear refl in
    record { comment = 35 ∷ cut.back; form = refl; whole = cut.whole ∙ ap (λ l. l ++ 35 ∷ cut.back) (sym front); clear = ap (list_all (λ b. not (b == 35))) front ∙ cut.clear }

-- blanks in front
record Skips (x : List ℕ) : Type 0 where
  lead : List ℕ
  blank : AreBlanks lead
  whole : x ≡ lead ++ trimmed_start x

skip_by : (b : ℕ) (bs : List ℕ) (t : Bool) → is_blank b ≡ t → Skips bs → Skips (b ∷ bs)
skip_by b bs true e rest =
    let next_progress : trimmed_start (b ∷ bs) ≡ trimmed_start bs = ap (λ t. cond t (trimmed_start bs) (b ∷ bs)) e in
    record { lead = b ∷ rest.lead; blank = ap (λ t. t && list_all is_blank rest.lead) e ∙ rest.blank; whole = ap (λ l. b ∷ l) rest.whole ∙ ap (λ l. b ∷ (rest.lead ++ l)) (sym next_progress) }
skip_by b bs false e rest = record { lead = []; blank = refl; whole = sym (skipped_first b bs e) }

skips : (x : List ℕ) → Skips x
skips [] = record { lead = []; blank = refl; whole = refl }
skips (b ∷ bs) = skip_by b bs (is_blank b) refl (skips bs)

-- what is skipped to begins with no blank
abbrev Begins : List ℕ → Type 0
Begins [] = Unit {0}
Begins (b ∷ bs) = is_blank b ≡ false

begins_by : (b : ℕ) (bs : List ℕ) (t : Bool) → is_blank b ≡ t → Begins (trimmed_start bs) → Begins (cond t (trimmed_start bs) (b ∷ bs))
begins_by b bs true e rest = rest
begins_by b bs false e rest = e

begins : (x : List ℕ) → Begins (trimmed_start x)
begins [] = tt
begins (b ∷ bs) = begins_by b bs (is_blank b) refl (begins bs)

again_skipped : (x : List ℕ) → Begins x → trimmed_start x ≡ x
again_skipped [] h = refl
again_skipped (b ∷ bs) h = skipped_first b bs h

-- blanks behind
record Ends (x : List ℕ) : Type 0 where
  tail : List ℕ
  blank : AreBlanks tail
  whole : x ≡ trimmed_end x ++ tail

onto_ends : (b : ℕ) (bs front : List ℕ) (t : Bool) → is_blank b ≡ t → trimmed_end bs ≡ front → Ends bs → Ends (b ∷ bs)
onto_ends b bs [] true e f rest =
    let all : bs ≡ rest.tail = rest.whole ∙ ap (λ l. l ++ rest.tail) f in
    let nothing : trimmed_end (b ∷ bs) ≡ [] = ap (onto b) f ∙ ap (λ t. cond t [] (b ∷ [])) e in
    record { tail = b ∷ bs; blank = ap (λ t. t && list_all is_blank bs) e ∙ ap (list_all is_blank) all ∙ rest.blank; whole = sym (ap (λ l. l ++ b ∷ bs) nothing) }
onto_ends b bs [] false e f rest =
    let all : bs ≡ rest.tail = rest.whole ∙ ap (λ l. l ++ rest.tail) f in
    let one : trimmed_end (b ∷ bs) ≡ b ∷ [] = ap (onto b) f ∙ ap (λ t. cond t [] (b ∷ [])) e in
    record { tail = bs; blank = ap (list_all is_blank) all ∙ rest.blank; whole = sym (ap (λ l. l ++ bs) one) }
onto_ends b bs (c ∷ cs) t e f rest =
    let more : trimmed_end (b ∷ bs) ≡ b ∷ c ∷ cs = ap (onto b) f in
    record { tail = rest.tail; blank = rest.blank; whole = ap (λ l. b ∷ l) (rest.whole ∙ ap (λ l. l ++ rest.tail) f) ∙ sym (ap (λ l. l ++ rest.tail) more) }

ends : (x : List ℕ) → Ends x
ends [] = record { tail = []; blank = refl; whole = refl }
ends (b ∷ bs) = onto_ends b bs (trimmed_end bs) (is_blank b) refl refl (ends bs)

-- what is ended stays so
onto_again : (b : ℕ) (front : List ℕ) (t : Bool) → is_blank b ≡ t → trimmed_end front ≡ front → trimmed_end (onto b front) ≡ onto b front
onto_again b [] true e h =
    let nothing : onto b [] ≡ [] = ap (λ t. cond t [] (b ∷ [])) e in ap trimmed_end nothing ∙ sym nothing
onto_again b [] false e h =
    let one : onto b [] ≡ b ∷ [] = ap (λ t. cond t [] (b ∷ [])) e in ap trimmed_end one
onto_again b (c ∷ cs) t e h = ap (onto b) h

again_ended : (x : List ℕ) → trimmed_end (trimmed_end x) ≡ trimmed_end x
again_ended [] = refl
again_ended (b ∷ bs) = onto_again b (trimmed_end bs) (is_blank b) refl (again_ended bs)

-- a text that begins with no blank is tight once it is ended
onto_tight : (b : ℕ) (front : List ℕ) → is_blank b ≡ false → trimmed_end front ≡ front → IsTight (onto b front)
onto_tight b [] e h =
    let one : onto b [] ≡ b ∷ [] = ap (λ t. cond t [] (b ∷ [])) e in
    subst IsTight (sym one) (e, one)
onto_tight b (c ∷ cs) e h = (e, ap (onto b) h)

tight_ended : (x : List ℕ) → Begins x → IsTight (trimmed_end x)
tight_ended [] h = tt
tight_ended (b ∷ bs) h = onto_tight b (trimmed_end bs) h (again_ended bs)

lesser_fault : (a n g s t c : List ℕ) → (a ++ (n ++ 58 ∷ (g ++ (s ++ t)))) ++ c ≡ a ++ ((n ++ 58 ∷ []) ++ (g ++ (s ++ (t ++ c))))
lesser_fault a n g s t c = simp append_assoc

joined : (a s t c : List ℕ) → (a ++ (s ++ t)) ++ c ≡ a ++ (s ++ (t ++ c))
joined a s t c = simp append_assoc

-- a label at the front of a statement is one at the front of the line
no_spelling : (body s tail name rest : List ℕ) → is_label name ≡ true → body ≡ s ++ tail → s ≡ name ++ 58 ∷ rest → (has 58 body && is_label (before 58 body)) ≡ false → ⊥
no_spelling body s tail name rest label bodied spelled fails =
    let whole : body ≡ name ++ 58 ∷ (rest ++ tail) = bodied ∙ ap (λ l. l ++ tail) spelled ∙ append_assoc name (58 ∷ rest) tail in
    let clear = none_such is_label_byte 58 refl name (letters_only name label) in
    let front : before 58 body ≡ name = ap (before 58) whole ∙ before_at (λ b. b == 58) name 58 (rest ++ tail) clear refl in
    let there : has 58 body ≡ true = ap (has 58) whole ∙ has_there 58 name (rest ++ tail) refl in
    let holds : (has 58 body && is_label (before 58 body)) ≡ true = ap (λ t. t && is_label (before 58 body)) there ∙ ap is_label front ∙ label in
    let clash : true ≡ false = sym holds ∙ fails in cc

-- a line with a label
labelled_line : (line : List ℕ) → has_label line ≡ true → IsLine line (Some (before 58 (body_of line))) (trimmed (after 58 (body_of line)))
unfolding has_label body_of
labelled_line line holds =
    let x = before 35 line in
    let c = commented_by line (has 35 line) refl in
    let s = skips x in
    let body = trimmed_start x in
    let parts = and_true (has 58 body) (is_label (before 58 body)) holds in
    let cut = cut_at 58 body parts.0 in
    let front : before 58 body ≡ cut.front = ap (before 58) cut.whole ∙ before_at (λ b. b == 58) cut.front 58 cut.back cut.clear refl in
    let back : after 58 body ≡ cut.back = ap (after 58) cut.whole ∙ after_at (λ b. b == 58) cut.front 58 cut.back cut.clear refl in
    let name = before 58 body in
    let rest = after 58 body in
    let bodied : body ≡ name ++ 58 ∷ rest = cut.whole ∙ ap (λ l. l ++ 58 ∷ cut.back) (sym front) ∙ ap (λ l. name ++ 58 ∷ l) (sym back) in
    let g = skips rest in
    let e = ends (trimmed_start rest) in
    let statement = trimmed_end (trimmed_start rest) in
    let whole : x ≡ s.lead ++ (name ++ 58 ∷ (g.lead ++ (statement ++ e.tail))) =
    s.whole ∙ ap (λ l. s.lead ++ l) (bodied ∙ ap (λ l. name ++ 58 ∷ l) (g.whole ∙ ap (λ l. g.lead ++ l) e.whole)) in
    let clear : HasNoHash (s.lead ++ (name ++ 58 ∷ (g.lead ++ (statement ++ e.tail)))) = ap (list_all (λ b. not (b == 35))) (sym whole) ∙ c.clear in
    let in_brackets = all_right (λ b. not (b == 35)) g.lead (statement ++ e.tail) (all_right (λ b. not (b == 35)) (58 ∷ []) (g.lead ++ (statement ++ e.tail)) (all_right (λ b. not (b == 35)) name (58 ∷ (g.lead ++ (statement ++ e.tail))) (all_right (λ b. not (b == 35)) s.lead (name ++ 58 ∷ (g.lead ++ (statement ++ e.tail))) clear))) in
    record {
      lead = s.lead;
      gap = g.lead;
      tail = e.tail;
      comment = c.comment;
      lead_blank = s.blank;
      gap_blank = g.blank;
      tail_blank = e.blank;
      is_comment = c.form;
      labelled = parts.1;
      tight = tight_ended (trimmed_start rest) (begins rest);
      no_hash = all_left (λ b. not (b == 35)) statement e.tail in_brackets;
      whole = c.whole ∙ ap (λ l. l ++ c.comment) whole ∙ lesser_fault s.lead name g.lead statement e.tail c.comment;
    }

-- a line without one
bare_line : (line : List ℕ) → has_label line ≡ false → IsLine line None (trimmed (body_of line))
unfolding has_label body_of
bare_line line fails =
    let x = before 35 line in
    let c = commented_by line (has 35 line) refl in
    let s = skips x in
    let body = trimmed_start x in
    let same : trimmed_start body ≡ body = again_skipped body (begins x) in
    let e = ends (trimmed_start body) in
    let statement = trimmed_end (trimmed_start body) in
    let bodied : body ≡ statement ++ e.tail = sym same ∙ e.whole in
    let whole : x ≡ s.lead ++ (statement ++ e.tail) = s.whole ∙ ap (λ l. s.lead ++ l) bodied in
    let clear : HasNoHash (s.lead ++ (statement ++ e.tail)) = ap (list_all (λ b. not (b == 35))) (sym whole) ∙ c.clear in
    record {
      lead = s.lead;
      gap = [];
      tail = e.tail;
      comment = c.comment;
      lead_blank = s.blank;
      gap_blank = refl;
      tail_blank = e.blank;
      is_comment = c.form;
      labelled = λ name rest label spelled. no_spelling body statement e.tail name rest label bodied spelled fails;
      tight = tight_ended (trimmed_start body) (begins body);
      no_hash = all_left (λ b. not (b == 35)) statement e.tail (all_right (λ b. not (b == 35)) s.lead (statement ++ e.tail) clear);
      whole = c.whole ∙ ap (λ l. l ++ c.comment) whole ∙ joined s.lead statement e.tail c.comment;
    }

line_by : (line : List ℕ) (t : Bool) → has_label line ≡ t → IsLine line (label_of line) (statement_of line)
unfolding statement_of
line_by line true e =
    let L : Bool → Type 0 = λ t. IsLine line (cond t (Some (before 58 (body_of line))) None) (trimmed (cond t (after 58 (body_of line)) (body_of line))) in
    subst L (sym e) (labelled_line line e)
line_by line false e =
    let L : Bool → Type 0 = λ t. IsLine line (cond t (Some (before 58 (body_of line))) None) (trimmed (cond t (after 58 (body_of line)) (body_of line))) in
    subst L (sym e) (bare_line line e)

pub each_line : (line : List ℕ) → IsLine line (label_of line) (statement_of line)
each_line line = line_by line (has_label line) refl
