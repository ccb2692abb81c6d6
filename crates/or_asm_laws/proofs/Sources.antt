-- A source of two lines: a place, and what is printed there.
use Rattle.std.proofs.Common.{◌≡◌, ◌∙◌, refl, sym, ap, ℕ, ◌+◌, ◌%◌, ◌^◌, ◌<◌, Bool, true, false, cond, ◌&&◌, ◌||◌, eqb, ltb, leb, List, [], ◌∷◌, ◌++◌, take, codes, Some, None, Ok, Err, subst, arith, inl, inr, ℤ, pos, lit≤}
use Rattle.std.specs.Prelude.{not, ◌==◌}
use Rattle.std.specs.List.{list_all}
use Rattle.std.proofs.lemmas.Bool.Decides.{nat_tests}
use Rattle.or_isa.specs.declared.Insn.{Insn}
use Rattle.or_isa.specs.Fits.{Fits}
use Rattle.or_isa.specs.Word.{word_of}
use Rattle.or_text.specs.Hexadecimal.{hexadecimal}
use Rattle.or_asm_text.specs.Texts.{text_of}
use Rattle.or_asm_read.specs.declared.fault.Fault.TheVariants.{BadLine, OutOfRange, RepeatedLabel, Overlap}
use Rattle.or_asm_read.specs.declared.statements.Statement.{Statement}
use Rattle.or_asm_read.specs.declared.statements.Statement.TheVariants.{Place, Word}
use Rattle.or_asm_read.specs.Cuts.{is_label_byte, is_clean, label_of, before, body_of, name_part, operands_part}
use Rattle.or_asm_read.specs.Numbers.{number_of}
use Rattle.or_asm_read.specs.Labels.{Labels}
use Rattle.or_asm_read.specs.Statements.{org_at, named_at, statement_at}
use Rattle.or_asm.specs.Lines.{lines_of, puts_word, place_after, with_label, labels_from}
use Rattle.or_asm.specs.Source.{State, initial_state, fault_where, lesser_of, fault_in, repeats, lacks_room, overlaps, line_fault, label_count, carried_out, state_after, fault_at, unless_fault, source_from, source_of}
use Rattle.or_asm_laws.specs.Numerals.{SpellsMagnitude, SpellsNumber}
use Rattle.or_asm_laws.specs.Grammar.{org_line}
use Rattle.or_asm_laws.proofs.Numerals.{number_says}
use Rattle.or_asm_laws.proofs.Numbers.{number_hex}
use Rattle.or_asm_laws.proofs.Spelled.{is_mark, all_of, all_append, later_plain, plain_mark, or_left, none_such, no_blanks, trimmed_same, ended_behind, digits_later}
use Rattle.or_asm_laws.proofs.Statements.{statement_again}
use Rattle.or_asm_laws.proofs.Lines.{is_line, Clear, clear, lines_at, lines_one, text_first, text_line, text_clear}

and_false : (a : Bool) → (a && false) ≡ false
and_false true = refl
and_false false = refl

-- the bytes of a number, whatever its spelling
label_marks : (text : List ℕ) → list_all is_label_byte text ≡ true → list_all is_mark text ≡ true
label_marks text f = all_of is_label_byte is_mark (λ b e. plain_mark b (later_plain b e)) text f

magnitude_marks : (text : List ℕ) (n : ℕ) → SpellsMagnitude text n → list_all is_mark text ≡ true
magnitude_marks text n (inl d) = label_marks text (digits_later 10 text (lit≤ tt) d.numeral.1)
magnitude_marks text n (inr x) = ap (list_all is_mark) x.parts ∙ label_marks x.digits (digits_later 16 x.digits (lit≤ tt) x.says.numeral.1)

number_marks_of : (text : List ℕ) (z : ℤ) → SpellsNumber text z → list_all is_mark text ≡ true
number_marks_of text z (inl p) = magnitude_marks text p.size p.says
number_marks_of text z (inr m) = ap (list_all is_mark) m.parts ∙ magnitude_marks m.rest m.size m.says

number_marks : (text : List ℕ) (z : ℤ) → number_of text ≡ Some z → list_all is_mark text ≡ true
number_marks text z e = number_marks_of text z (number_says text z e)

-- a line that sets the place
org_bytes : (t : List ℕ) (z : ℤ) → number_of t ≡ Some z → list_all is_line (org_line t) ≡ true
org_bytes t z e = all_append is_line (codes ".org ") t refl (all_of is_mark is_line (λ b e. or_left (is_mark b || b == 44) (b == 32) (or_left (is_mark b) (b == 44) e)) t (number_marks t z e))

org_clear : (t : List ℕ) (z : ℤ) → number_of t ≡ Some z → Clear (org_line t)
unfolding number_of
org_clear [] z e = absurd cc
org_clear (b ∷ bs) z e = clear 46 _ (org_bytes (b ∷ bs) z e) refl (ended_behind (codes ".org ") b bs (no_blanks (b ∷ bs) (number_marks (b ∷ bs) z e)))

org_statement : (labels : Labels) (pc : ℕ) (t : List ℕ) (p : ℕ) → number_of t ≡ Some (pos p) → p < 2 ^ 28 → p % 4 ≡ 0 → statement_at labels pc (org_line t) ≡ Ok (Place p)
unfolding statement_at named_at name_part operands_part
org_statement labels pc t p e small aligned =
    let room : ltb p 0x10000000 ≡ true = grind (arith, nat_tests) in
    let four : eqb (p % 4) 0 ≡ true = grind (arith, nat_tests) in
    ap (λ t. org_at (number_of t)) (trimmed_same t (no_blanks t (number_marks t (pos p) e)))
    ∙ ap org_at e
    ∙ ap (λ t. cond (t && eqb (p % 4) 0) (Ok (Place p)) (Err OutOfRange)) room
    ∙ ap (λ t. cond t (Ok (Place p)) (Err OutOfRange)) four

unlabelled : (line : List ℕ) → Clear line → label_of line ≡ None
unlabelled line c = ap (λ t. cond t (Some (before 58 (body_of line))) None) c.unlabelled

-- no labels
no_label : (place : ℕ) (line : List ℕ) (lines : List (List ℕ)) → Clear line → labels_from place (line ∷ lines) ≡ labels_from (place_after place line) lines
no_label place line lines c = ap (λ l. with_label l place (labels_from (place_after place line) lines)) (unlabelled line c)

-- no fault
no_fault : (labels : Labels) (state : State) (line : List ℕ) (s : Statement) → Clear line → statement_at labels state.place line ≡ Ok s → lacks_room state line ≡ false → overlaps state line ≡ false → line_fault labels state line ≡ None
unfolding line_fault
no_fault labels state line s c e room free =
    let bad = fault_where (not (is_clean line)) BadLine in
    let repeated = fault_where (repeats (take state.labels_before labels) (label_of line)) RepeatedLabel in
    let rest = λ (t : List ℕ). lesser_of (fault_where (lacks_room state t) OutOfRange) (lesser_of repeated (fault_where (overlaps state t) Overlap)) in
    ap (λ t. lesser_of bad (lesser_of (fault_in (statement_at labels state.place t)) (rest t))) c.whole
    ∙ ap (λ t. lesser_of (fault_where (not t) BadLine) (lesser_of (fault_in (statement_at labels state.place line)) (rest line))) c.clean
    ∙ ap (λ t. lesser_of (fault_in t) (rest line)) e
    ∙ ap (λ t. lesser_of (fault_where t OutOfRange) (lesser_of repeated (fault_where (overlaps state line) Overlap))) room
    ∙ ap (λ t. lesser_of (fault_where (repeats (take state.labels_before labels) t) RepeatedLabel) (fault_where (overlaps state line) Overlap)) (unlabelled line c)
    ∙ ap (λ t. fault_where t Overlap) free

one_step : (labels : Labels) (state : State) (line : List ℕ) (s : Statement) → Clear line → statement_at labels state.place line ≡ Ok s → state_after labels state line ≡ carried_out state (state.labels_before + 0) (Ok s)
unfolding state_after
one_step labels state line s c e =
    ap (λ t. carried_out state (state.labels_before + label_count (label_of line)) (statement_at labels state.place t)) c.whole
    ∙ ap (λ t. carried_out state (state.labels_before + label_count t) (statement_at labels state.place line)) (unlabelled line c)
    ∙ ap (carried_out state (state.labels_before + 0)) e

step_source : (labels : Labels) (number : ℕ) (state : State) (line : List ℕ) (lines : List (List ℕ)) (s : Statement) → Clear line → statement_at labels state.place line ≡ Ok s → lacks_room state line ≡ false → overlaps state line ≡ false
    → source_from labels number state (line ∷ lines) ≡ source_from labels (number + 1) (carried_out state (state.labels_before + 0) (Ok s)) lines
step_source labels number state line lines s c e room free =
    ap (λ v. unless_fault (fault_at labels number state line) v (source_from labels (number + 1) (state_after labels state line) lines)) (no_fault labels state line s c e room free)
    ∙ ap (λ t. source_from labels (number + 1) t lines) (one_step labels state line s c e)

abbrev placed_state : ℕ → State
placed_state p = record { place = p; labels_before = 0; begins_piece = true; pieces = [] }

-- the two lines
two_lines : (t : List ℕ) (p : ℕ) (i : Insn) → Fits i → number_of t ≡ Some (pos p) → p < 2 ^ 28 → p % 4 ≡ 0 → (labels : Labels)
    → source_from labels 1 initial_state (org_line t ∷ text_of p i ∷ []) ≡ Ok ((p, word_of i ∷ []) ∷ [])
two_lines t p i fit e small aligned labels =
    let line = org_line t in
    let text = text_of p i in
    let low : leb 0x10000000 p ≡ false = grind (arith, nat_tests) in
    let room : lacks_room (placed_state p) text ≡ false = ap (λ t. puts_word text && (t || false)) low ∙ and_false (puts_word text) in
    step_source labels 1 initial_state line (text ∷ []) (Place p) (org_clear t (pos p) e) (org_statement labels 0x100 t p e small aligned) (and_false (puts_word line)) (and_false (puts_word line))
    ∙ step_source labels 2 (placed_state p) text [] (Word (word_of i)) (text_clear p i fit) (statement_again labels p i fit small aligned) room (and_false (puts_word text))

no_feed : (line : List ℕ) → list_all is_line line ≡ true → list_all (λ b. not (b == 10)) line ≡ true
no_feed line f = none_such is_line 10 refl line f

text_lines : (p : ℕ) (i : Insn) → Fits i → lines_of (text_of p i) ≡ text_of p i ∷ []
text_lines p i fit =
    let first = text_first p i in
    let P : List ℕ → Type 0 = λ l. list_all (λ b. not (b == 10)) l ≡ true in
    ap lines_of first.1 ∙ lines_one 108 first.0 (subst P first.1 (no_feed (text_of p i) (text_line p i fit))) ∙ ap (λ l. l ∷ []) (sym first.1)

pub reads_back : (i : Insn) (t : List ℕ) (p : ℕ) → Fits i → number_of t ≡ Some (pos p) → p < 2 ^ 28 → p % 4 ≡ 0 → source_of (org_line t ++ 10 ∷ text_of p i) ≡ Ok ((p, word_of i ∷ []) ∷ [])
unfolding source_of
reads_back i t p fit e small aligned =
    let text = text_of p i in
    let lines : lines_of (org_line t ++ 10 ∷ text) ≡ org_line t ∷ text ∷ [] = lines_at (org_line t) text (no_feed (org_line t) (org_bytes t (pos p) e)) ∙ ap (λ l. org_line t ∷ l) (text_lines p i fit) in
    ap (λ l. source_from (labels_from 0x100 l) 1 initial_state l) lines
    ∙ two_lines t p i fit e small aligned (labels_from 0x100 (org_line t ∷ text ∷ []))

-- the same where the last line is ended too
pub reads_back_ended : (i : Insn) (t : List ℕ) (p : ℕ) → Fits i → number_of t ≡ Some (pos p) → p < 2 ^ 28 → p % 4 ≡ 0 → source_of (org_line t ++ 10 ∷ (text_of p i ++ 10 ∷ [])) ≡ Ok ((p, word_of i ∷ []) ∷ [])
unfolding source_of
reads_back_ended i t p fit e small aligned =
    let text = text_of p i in
    let lines : lines_of (org_line t ++ 10 ∷ (text ++ 10 ∷ [])) ≡ org_line t ∷ text ∷ [] =
    lines_at (org_line t) (text ++ 10 ∷ []) (no_feed (org_line t) (org_bytes t (pos p) e)) ∙ ap (λ l. org_line t ∷ l) (lines_at text [] (no_feed text (text_line p i fit))) in
    ap (λ l. source_from (labels_from 0x100 l) 1 initial_state l) lines
    ∙ two_lines t p i fit e small aligned (labels_from 0x100 (org_line t ∷ text ∷ []))

-- a place in the printer's own spelling
pub reads_back_printed : (i : Insn) (p : ℕ) → Fits i → p < 2 ^ 28 → p % 4 ≡ 0 → source_of (org_line (hexadecimal p) ++ 10 ∷ text_of p i) ≡ Ok ((p, word_of i ∷ []) ∷ [])
reads_back_printed i p fit small aligned = reads_back i (hexadecimal p) p fit (number_hex p (omega arith)) small aligned
