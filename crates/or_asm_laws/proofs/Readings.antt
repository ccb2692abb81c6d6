-- A line has one reading.
use Rattle.std.proofs.Common.{◌≡◌, ◌∙◌, refl, sym, ap, ℕ, Bool, true, false, cond, ◌&&◌, ◌||◌, eqb, List, [], ◌∷◌, ◌++◌, length, Option, Some, None, append_assoc, arith}
use Rattle.std.specs.Prelude.{not, ◌==◌, nat_lt}
use Rattle.std.specs.List.{list_all, list_any}
use Rattle.std.proofs.lemmas.Bool.Decides.{nat_tests}
use Rattle.or_asm_read.specs.Cuts.{is_blank, is_label_start, is_label_byte, is_label, trimmed_start, onto, trimmed_end, trimmed, before, after, has, body_of, has_label, label_of, statement_of}
use Rattle.or_asm_laws.specs.Grammar.{AreBlanks, IsComment, HasNoHash, IsTight, label_text, IsLabelled, IsLine}
use Rattle.or_asm_laws.proofs.Spelled.{and_true, or_left, plain_mark, later_plain, mark_blank, all_append, none_such, before_at, after_at, before_none, none_any, skipped_first}
use Rattle.or_asm_laws.proofs.Operands.{append_none}

-- blanks in front and behind
skipped_blanks : (w x : List ℕ) → AreBlanks w → trimmed_start (w ++ x) ≡ trimmed_start x
skipped_blanks [] x h = refl
skipped_blanks (b ∷ bs) x h =
    let parts = and_true (is_blank b) (list_all is_blank bs) h in
    ap (λ t. cond t (trimmed_start (bs ++ x)) (b ∷ (bs ++ x))) parts.0 ∙ skipped_blanks bs x parts.1

skipped_all : (w : List ℕ) → AreBlanks w → trimmed_start w ≡ []
skipped_all w h = sym (ap trimmed_start (append_none w)) ∙ skipped_blanks w [] h

ended_all : (w : List ℕ) → AreBlanks w → trimmed_end w ≡ []
ended_all [] h = refl
ended_all (b ∷ bs) h =
    let parts = and_true (is_blank b) (list_all is_blank bs) h in
    ap (onto b) (ended_all bs parts.1) ∙ ap (λ t. cond t [] (b ∷ [])) parts.0

ended_blanks : (x w : List ℕ) → AreBlanks w → trimmed_end (x ++ w) ≡ trimmed_end x
ended_blanks [] w h = ended_all w h
ended_blanks (b ∷ bs) w h = ap (onto b) (ended_blanks bs w h)

tight_end : (s tail : List ℕ) → IsTight s → AreBlanks tail → trimmed (s ++ tail) ≡ s
tight_end [] tail tight h = ap trimmed_end (skipped_all tail h)
tight_end (c ∷ cs) tail tight h = ap trimmed_end (skipped_first c (cs ++ tail) tight.0) ∙ ended_blanks (c ∷ cs) tail h ∙ tight.1

-- a label has letters, digits and _ alone
pub letters_only : (name : List ℕ) → is_label name ≡ true → list_all is_label_byte name ≡ true
unfolding is_label
letters_only [] h = refl
letters_only (b ∷ bs) h =
    let outer = and_true (is_label_start b && list_all is_label_byte bs) (nat_lt (length bs) 64) h in
    let inside = and_true (is_label_start b) (list_all is_label_byte bs) outer.0 in
    ap (λ t. t && list_all is_label_byte bs) (or_left (is_label_start b) _ inside.0) ∙ inside.1

pub later_blank : (b : ℕ) → is_label_byte b ≡ true → is_blank b ≡ false
later_blank b e = mark_blank b (plain_mark b (later_plain b e))

or_true : (a : Bool) → (a || true) ≡ true
or_true true = refl
or_true false = refl

and_false : (a : Bool) → (a && false) ≡ false
and_false true = refl
and_false false = refl

-- cuts
pub has_there : (c : ℕ) (xs ys : List ℕ) → eqb c c ≡ true → has c (xs ++ c ∷ ys) ≡ true
has_there c [] ys e = ap (λ t. t || has c ys) e
has_there c (x ∷ xs) ys e = ap (λ t. (x == c) || t) (has_there c xs ys e) ∙ or_true (x == c)

-- a text is cut at its first byte of a kind
pub record Cut (c : ℕ) (s : List ℕ) : Type 0 where
  pub front : List ℕ
  pub back : List ℕ
  pub whole : s ≡ front ++ c ∷ back
  pub clear : list_all (λ b. not (b == c)) front ≡ true

cut_here : (c x : ℕ) (xs : List ℕ) → (x == c) ≡ true → Cut c (x ∷ xs)
cut_here c x xs e = let same : x ≡ c = grind (arith, nat_tests) in record { front = []; back = xs; whole = ap (λ y. y ∷ xs) same; clear = refl }

cut_later : (c x : ℕ) (xs : List ℕ) → (x == c) ≡ false → Cut c xs → Cut c (x ∷ xs)
cut_later c x xs e rest = record { front = x ∷ rest.front; back = rest.back; whole = ap (λ l. x ∷ l) rest.whole; clear = ap (λ t. not t && list_all (λ b. not (b == c)) rest.front) e ∙ rest.clear }

cut_by : (c x : ℕ) (xs : List ℕ) (t : Bool) → (x == c) ≡ t → (t || has c xs) ≡ true → (has c xs ≡ true → Cut c xs) → Cut c (x ∷ xs)
cut_by c x xs true e h later = cut_here c x xs e
cut_by c x xs false e h later = cut_later c x xs e (later h)

pub cut_at : (c : ℕ) (s : List ℕ) → has c s ≡ true → Cut c s
cut_at c [] h = absurd cc
cut_at c (x ∷ xs) h = cut_by c x xs (x == c) refl h (cut_at c xs)

any_append : (q : ℕ → Bool) (xs ys : List ℕ) → list_any q ys ≡ false → list_any q (xs ++ ys) ≡ list_any q xs
any_append q [] ys h = h
any_append q (x ∷ xs) ys h = ap (λ t. q x || t) (any_append q xs ys h)

never : (t : Bool) → (t ≡ true → ⊥) → t ≡ false
never true h = absurd (h refl)
never false h = refl

-- what has no label of its own has none with blanks behind it
no_label : (s tail : List ℕ) (t : Bool) → has 58 s ≡ t → IsLabelled None s → AreBlanks tail → (has 58 (s ++ tail) && is_label (before 58 (s ++ tail))) ≡ false
no_label s tail false e h blank =
    let none : has 58 tail ≡ false = none_any (λ b. b == 58) tail (none_such is_blank 58 refl tail blank) in
    ap (λ t. t && is_label (before 58 (s ++ tail))) (any_append (λ b. b == 58) s tail none ∙ e)
no_label s tail true e h blank =
    let cut = cut_at 58 s e in
    let whole : s ++ tail ≡ cut.front ++ 58 ∷ (cut.back ++ tail) = ap (λ l. l ++ tail) cut.whole ∙ append_assoc cut.front (58 ∷ cut.back) tail in
    let front : before 58 (s ++ tail) ≡ cut.front = ap (before 58) whole ∙ before_at (λ b. b == 58) cut.front 58 (cut.back ++ tail) cut.clear refl in
    let refused : is_label cut.front ≡ false = never (is_label cut.front) (λ yes. h cut.front cut.back yes cut.whole) in
    ap (λ l. has 58 (s ++ tail) && is_label l) front ∙ ap (λ t. has 58 (s ++ tail) && t) refused ∙ and_false (has 58 (s ++ tail))

-- without the comment
no_comment : (x comment : List ℕ) → HasNoHash x → IsComment comment → before 35 (x ++ comment) ≡ x
no_comment x [] h c = ap (before 35) (append_none x) ∙ before_none (λ b. b == 35) x h
no_comment x (b ∷ bs) h c = ap (λ y. before 35 (x ++ y ∷ bs)) c ∙ before_at (λ y. y == 35) x 35 bs h refl

no_hash_blanks : (w : List ℕ) → AreBlanks w → HasNoHash w
no_hash_blanks w h = none_such is_blank 35 refl w h

no_hash_label : (label : Option (List ℕ)) (s : List ℕ) → IsLabelled label s → HasNoHash (label_text label)
no_hash_label None s h = refl
no_hash_label (Some name) s h = all_append (λ b. not (b == 35)) name (58 ∷ []) (none_such is_label_byte 35 refl name (letters_only name h)) refl

regroup : (a b c d e f : List ℕ) → a ++ (b ++ (c ++ (d ++ (e ++ f)))) ≡ (a ++ (b ++ (c ++ (d ++ e)))) ++ f
regroup a b c d e f = sym (simp append_assoc)

-- a line without its comment and the blanks in front
body_is : (line : List ℕ) (label : Option (List ℕ)) (s : List ℕ) (h : IsLine line label s) → body_of line ≡ trimmed_start (label_text label ++ (h.gap ++ (s ++ h.tail)))
unfolding body_of
body_is line label s h =
    let rest = label_text label ++ (h.gap ++ (s ++ h.tail)) in
    let clear : HasNoHash (h.lead ++ rest) =
    all_append (λ b. not (b == 35)) h.lead rest (no_hash_blanks h.lead h.lead_blank)
    (all_append (λ b. not (b == 35)) (label_text label) (h.gap ++ (s ++ h.tail)) (no_hash_label label s h.labelled)
    (all_append (λ b. not (b == 35)) h.gap (s ++ h.tail) (no_hash_blanks h.gap h.gap_blank)
    (all_append (λ b. not (b == 35)) s h.tail h.no_hash (no_hash_blanks h.tail h.tail_blank)))) in
    let whole : line ≡ (h.lead ++ rest) ++ h.comment = h.whole ∙ regroup h.lead (label_text label) h.gap s h.tail h.comment in
    ap (λ l. trimmed_start (before 35 l)) whole ∙ ap trimmed_start (no_comment (h.lead ++ rest) h.comment clear h.is_comment) ∙ skipped_blanks h.lead rest h.lead_blank

-- a name's first byte is no blank
skipped_name : (name rest : List ℕ) → is_label name ≡ true → trimmed_start (name ++ 58 ∷ rest) ≡ name ++ 58 ∷ rest
unfolding is_label
skipped_name [] rest h = absurd cc
skipped_name (b ∷ bs) rest h =
    let later = and_true (is_label_byte b) (list_all is_label_byte bs) (letters_only (b ∷ bs) h) in
    skipped_first b (bs ++ 58 ∷ rest) (later_blank b later.0)

pub record Reading (line : List ℕ) (label : Option (List ℕ)) (s : List ℕ) : Type 0 where
  pub label_is : label_of line ≡ label
  pub statement_is : statement_of line ≡ s

labelled_reading : (line name s : List ℕ) → IsLine line (Some name) s → Reading line (Some name) s
unfolding has_label statement_of
labelled_reading line name s h =
    let rest = h.gap ++ (s ++ h.tail) in
    let body : body_of line ≡ name ++ 58 ∷ rest = body_is line (Some name) s h ∙ ap trimmed_start (append_assoc name (58 ∷ []) rest) ∙ skipped_name name rest h.labelled in
    let clear = none_such is_label_byte 58 refl name (letters_only name h.labelled) in
    let front : before 58 (body_of line) ≡ name = ap (before 58) body ∙ before_at (λ b. b == 58) name 58 rest clear refl in
    let back : after 58 (body_of line) ≡ rest = ap (after 58) body ∙ after_at (λ b. b == 58) name 58 rest clear refl in
    let there : has 58 (body_of line) ≡ true = ap (has 58) body ∙ has_there 58 name rest refl in
    let yes : has_label line ≡ true = ap (λ t. t && is_label (before 58 (body_of line))) there ∙ ap is_label front ∙ h.labelled in
    record {
      label_is = ap (λ t. cond t (Some (before 58 (body_of line))) None) yes ∙ ap (λ l. Some l) front;
      statement_is = ap (λ t. trimmed (cond t (after 58 (body_of line)) (body_of line))) yes ∙ ap trimmed back
          ∙ ap trimmed_end (skipped_blanks h.gap (s ++ h.tail) h.gap_blank) ∙ tight_end s h.tail h.tight h.tail_blank;
    }

-- a statement's first byte is no blank
skipped_tight : (s tail : List ℕ) → IsTight s → AreBlanks tail → (r : List ℕ) × AreBlanks r × (trimmed_start (s ++ tail) ≡ s ++ r)
skipped_tight [] tail tight h = ([], refl, skipped_all tail h)
skipped_tight (c ∷ cs) tail tight h = (tail, h, skipped_first c (cs ++ tail) tight.0)

bare_reading : (line s : List ℕ) → IsLine line None s → Reading line None s
unfolding has_label statement_of
bare_reading line s h =
    let front = skipped_tight s h.tail h.tight h.tail_blank in
    let r = front.0 in
    let body : body_of line ≡ s ++ r = body_is line None s h ∙ skipped_blanks h.gap (s ++ h.tail) h.gap_blank ∙ front.2 in
    let no : has_label line ≡ false = ap (λ l. has 58 l && is_label (before 58 l)) body ∙ no_label s r (has 58 s) refl h.labelled front.1 in
    record {
      label_is = ap (λ t. cond t (Some (before 58 (body_of line))) None) no;
      statement_is = ap (λ t. trimmed (cond t (after 58 (body_of line)) (body_of line))) no ∙ ap trimmed body ∙ tight_end s r h.tight front.1;
    }

pub one_reading : (line : List ℕ) (label : Option (List ℕ)) (s : List ℕ) → IsLine line label s → Reading line label s
one_reading line None s h = bare_reading line s h
one_reading line (Some name) s h = labelled_reading line name s h
