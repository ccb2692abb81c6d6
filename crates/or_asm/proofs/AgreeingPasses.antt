-- The two passes agree on the place after a line without fault.
use Rattle.std.proofs.Common.{arith, subst, suc, length, ◌≤◌, ◌<◌, ◌≡◌, ◌∙◌, refl, sym, ap, ℕ, ◌+◌, Bool, true, false, cond, ◌&&◌, ◌||◌, List, [], ◌∷◌, codes, Option, Some, None, Result, Ok, Err}
use Rattle.std.specs.Prelude.{not, is_some, ℤ, pos, negsuc, ◌%◌, ◌==◌, nat_lt, nat_le, take}
use Rattle.std.specs.Str.{bytes_eq}
use Rattle.std.proofs.lemmas.List.{length-append}
use Rattle.std.proofs.lemmas.Bool.Decides.{nat_tests}
use Rattle.or_asm.specs.Program.{extended}
use Rattle.or_asm.specs.First.{RunsWithoutFault, all_labels}
use Rattle.or_asm.proofs.Firsts.{program_is}
use Rattle.or_isa.specs.declared.Insn.{Insn}
use Rattle.or_asm_text.specs.declared.operands.Operands.{Operands}
use Rattle.or_asm_text.specs.Names.{insn_named}
use Rattle.or_asm_read.specs.declared.fault.Fault.{Fault}
use Rattle.or_asm_read.specs.declared.fault.Fault.TheVariants.{BadLine, OutOfRange, RepeatedLabel, Overlap}
use Rattle.or_asm_read.specs.declared.statements.Statement.{Statement}
use Rattle.or_asm_read.specs.declared.statements.Statement.TheVariants.{Nothing, Place, Word}
use Rattle.or_asm_read.specs.Cuts.{is_clean, label_of, statement_of, trimmed, name_part, operands_part}
use Rattle.or_asm_read.specs.Numbers.{number_of}
use Rattle.or_asm_read.specs.Operands.{is_empty, value_at, bits_of}
use Rattle.or_asm_read.specs.Labels.{Labels}
use Rattle.or_asm_read.specs.Statements.{org_at, word_at, made_of, insn_at, named_at, statement_at}
use Rattle.or_asm.specs.Lines.{lines_of, is_org, puts_word, set_place, place_after}
use Rattle.or_asm.specs.Source.{State, initial_state, fault_where, lesser_of, fault_in, repeats, lacks_room, overlaps, line_fault, label_count, with_word, carried_out, state_after, source_of}

abbrev OnlyPlaces : Result Statement Fault → Type 0
OnlyPlaces (Ok Nothing) = ⊥
OnlyPlaces (Ok (Place place)) = Unit {0}
OnlyPlaces (Ok (Word word)) = ⊥
OnlyPlaces (Err fault) = Unit {0}

-- a word, where one is put, or a fault
abbrev pub OnlyWords : Bool → Result Statement Fault → Type 0
OnlyWords puts (Ok Nothing) = ⊥
OnlyWords puts (Ok (Place place)) = ⊥
OnlyWords puts (Ok (Word word)) = puts ≡ true
OnlyWords puts (Err fault) = Unit {0}

place_or : (b : Bool) (n : ℕ) → OnlyPlaces (cond b (Ok (Place n)) (Err OutOfRange))
place_or true n = tt
place_or false n = tt

org_places : (o : Option ℤ) → OnlyPlaces (org_at o)
org_places None = tt
org_places (Some (negsuc n)) = tt
org_places (Some (pos n)) = place_or (nat_lt n 0x10000000 && n % 4 == 0) n

pub word_words : (r : Result ℕ Fault) → OnlyWords true (word_at r)
word_words (Err e) = tt
word_words (Ok word) = refl

made_words : (m : Insn) (r : Result Operands Fault) → OnlyWords true (made_of m r)
made_words m (Ok o) = refl
made_words m (Err e) = tt

pub insn_words : (labels : Labels) (pc : ℕ) (m : Option Insn) (text : List ℕ) → OnlyWords (is_some m) (insn_at labels pc m text)
insn_words labels pc None text = tt
insn_words labels pc (Some m) text = made_words m _

-- where a statement leads
abbrev moved : ℕ → Statement → ℕ
moved place Nothing = place
moved place (Place next) = next
moved place (Word word) = place + 4

by_org : (place : ℕ) (r : Result Statement Fault) (s : Statement) → OnlyPlaces r → r ≡ Ok s → moved place s ≡ set_place place r
by_org place (Ok Nothing) s h e = absurd h
by_org place (Ok (Word word)) s h e = absurd h
by_org place (Err fault) s h e = absurd cc
by_org place (Ok (Place next)) s h e = let same : Place next ≡ s = cc in sym (ap (moved place) same)

by_word : (place : ℕ) (k : Bool) (r : Result Statement Fault) (s : Statement) → OnlyWords k r → r ≡ Ok s → moved place s ≡ cond k (place + 4) place
by_word place k (Ok Nothing) s h e = absurd h
by_word place k (Ok (Place next)) s h e = absurd h
by_word place k (Err fault) s h e = absurd cc
by_word place k (Ok (Word word)) s h e = let same : Word word ≡ s = cc in sym (ap (moved place) same) ∙ sym (ap (λ t. cond t (place + 4) place) h)

-- for any tests of a statement
by_tests : (place : ℕ) (e o w k : Bool) (org word insn : Result Statement Fault) (s : Statement) → (e ≡ true → o ≡ false) → OnlyPlaces org → OnlyWords true word → OnlyWords k insn
    → cond e (Ok Nothing) (cond o org (cond w word insn)) ≡ Ok s
    → moved place s ≡ cond (not e && not o && (w || k)) (place + 4) (cond (o && true) (set_place place org) place)
by_tests place true true w k org word insn s apart f g h e = let clash : true ≡ false = apart refl in absurd cc
by_tests place true false w k org word insn s apart f g h e = let same : Nothing ≡ s = cc in sym (ap (moved place) same)
by_tests place false true w k org word insn s apart f g h e = by_org place org s f e
by_tests place false false true k org word insn s apart f g h e = by_word place true word s g e
by_tests place false false false k org word insn s apart f g h e = by_word place k insn s h e

empty_apart : (statement : List ℕ) → is_empty statement ≡ true → is_org statement ≡ false
unfolding name_part
empty_apart [] h = refl
empty_apart (b ∷ bs) h = absurd cc

-- no fault: clean, and a statement
lesser_none : (a b : Option Fault) → lesser_of a b ≡ None → (a ≡ None) × (b ≡ None)
lesser_none None b e = (refl, e)
lesser_none (Some f) None e = absurd cc
lesser_none (Some f) (Some g) e = absurd cc

clean_none : (clean : Bool) → fault_where (not clean) BadLine ≡ None → clean ≡ true
clean_none true e = refl
clean_none false e = absurd cc

no_fault_in : (r : Result Statement Fault) → fault_in r ≡ None → (s : Statement) × (r ≡ Ok s)
no_fault_in (Ok s) e = (s, refl)
no_fault_in (Err f) e = absurd cc

pub record Faultless (labels : Labels) (state : State) (line : List ℕ) : Type 0 where
  pub clean : is_clean line ≡ true
  pub statement : Statement
  pub reads : statement_at labels state.place (statement_of line) ≡ Ok statement
  pub room : lacks_room state (statement_of line) ≡ false
  pub free : overlaps state (statement_of line) ≡ false

not_flagged : (b : Bool) (f : Fault) → fault_where b f ≡ None → b ≡ false
not_flagged true f e = absurd cc
not_flagged false f e = refl

pub faultless : (labels : Labels) (state : State) (line : List ℕ) → line_fault labels state line ≡ None → Faultless labels state line
unfolding line_fault
faultless labels state line e =
    let bad = fault_where (not (is_clean line)) BadLine in
    let read = fault_in (statement_at labels state.place (statement_of line)) in
    let rest = lesser_of (fault_where (lacks_room state (statement_of line)) OutOfRange) (lesser_of (fault_where (repeats (take state.labels_before labels) (label_of line)) RepeatedLabel) (fault_where (overlaps state (statement_of line)) Overlap)) in
    let first = lesser_none bad (lesser_of read rest) e in
    let second = lesser_none read rest first.1 in
    let outcome = no_fault_in (statement_at labels state.place (statement_of line)) second.0 in
    let room = fault_where (lacks_room state (statement_of line)) OutOfRange in
    let repeated = fault_where (repeats (take state.labels_before labels) (label_of line)) RepeatedLabel in
    let overlap = fault_where (overlaps state (statement_of line)) Overlap in
    let third = lesser_none room (lesser_of repeated overlap) second.1 in
    let fourth = lesser_none repeated overlap third.1 in
    record {
      clean = clean_none (is_clean line) first.0;
      statement = outcome.0;
      reads = outcome.1;
      room = not_flagged (lacks_room state (statement_of line)) OutOfRange third.0;
      free = not_flagged (overlaps state (statement_of line)) Overlap fourth.1;
    }

carried_place : (state : State) (labels_before : ℕ) (s : Statement) → (carried_out state labels_before (Ok s)).place ≡ moved state.place s
carried_place state labels_before Nothing = refl
carried_place state labels_before (Place next) = refl
carried_place state labels_before (Word word) = refl

pub passes_agree : (labels : Labels) (state : State) (line : List ℕ) → line_fault labels state line ≡ None → (state_after labels state line).place ≡ place_after state.place line
unfolding state_after place_after puts_word statement_at named_at
passes_agree labels state line e =
    let f = faultless labels state line e in
    let statement = statement_of line in
    let text = operands_part statement in
    let org = org_at (number_of (trimmed text)) in
    let lead = by_tests state.place (is_empty statement) (is_org statement) (bytes_eq (name_part statement) (codes ".word")) (is_some (insn_named (name_part statement)))
    org (word_at (bits_of (value_at labels (trimmed text)))) (insn_at labels state.place (insn_named (name_part statement)) text) f.statement
    (empty_apart statement) (org_places (number_of (trimmed text))) (word_words (bits_of (value_at labels (trimmed text)))) (insn_words labels state.place (insn_named (name_part statement)) text) f.reads in
    ap (λ r. (carried_out state (state.labels_before + label_count (label_of line)) r).place) f.reads
    ∙ carried_place state (state.labels_before + label_count (label_of line)) f.statement
    ∙ lead
    ∙ ap (λ t. cond (puts_word statement) (state.place + 4) (cond (is_org statement && t) (set_place state.place org) state.place)) (sym f.clean)

-- a statement that gives a word is one that puts a word
word_puts : (k : Bool) (r : Result Statement Fault) (w : ℕ) → OnlyWords k r → r ≡ Ok (Word w) → k ≡ true
word_puts k (Ok Nothing) w h e = absurd h
word_puts k (Ok (Place next)) w h e = absurd h
word_puts k (Ok (Word word)) w h e = h
word_puts k (Err fault) w h e = absurd cc

no_word : (r : Result Statement Fault) (w : ℕ) → OnlyPlaces r → r ≡ Ok (Word w) → ⊥
no_word (Ok Nothing) w h e = h
no_word (Ok (Word word)) w h e = h
no_word (Ok (Place next)) w h e = cc
no_word (Err fault) w h e = cc

puts_by_tests : (e o w k : Bool) (org word insn : Result Statement Fault) (n : ℕ) → OnlyPlaces org → OnlyWords true word → OnlyWords k insn
    → cond e (Ok Nothing) (cond o org (cond w word insn)) ≡ Ok (Word n) → (not e && not o && (w || k)) ≡ true
puts_by_tests true o w k org word insn n f g h e = absurd cc
puts_by_tests false true w k org word insn n f g h e = absurd (no_word org n f e)
puts_by_tests false false true k org word insn n f g h e = refl
puts_by_tests false false false k org word insn n f g h e = word_puts k insn n h e

pub gives_word : (labels : Labels) (pc : ℕ) (statement : List ℕ) (n : ℕ) → statement_at labels pc statement ≡ Ok (Word n) → puts_word statement ≡ true
unfolding puts_word statement_at named_at
gives_word labels pc statement n e =
    let text = operands_part statement in
    let name = name_part statement in
    puts_by_tests (is_empty statement) (is_org statement) (bytes_eq name (codes ".word")) (is_some (insn_named name))
    (org_at (number_of (trimmed text))) (word_at (bits_of (value_at labels (trimmed text)))) (insn_at labels pc (insn_named name) text) n
    (org_places (number_of (trimmed text))) (word_words (bits_of (value_at labels (trimmed text)))) (insn_words labels pc (insn_named name) text) e

-- at most 64 pieces
length_extended : (w : ℕ) (pieces : List (ℕ × List ℕ)) → length (extended w pieces) ≡ length pieces
length_extended w [] = refl
length_extended w (p ∷ []) = refl
length_extended w (p ∷ q ∷ ps) = ap (λ n. suc n) (length_extended w (q ∷ ps))

room_for : (top full begins_piece : Bool) → (true && (top || (begins_piece && full))) ≡ false → begins_piece ≡ true → full ≡ false
room_for true full begins_piece e f = absurd cc
room_for false true true e f = absurd cc
room_for false true false e f = absurd cc
room_for false false begins_piece e f = refl

with_word_few : (begins_piece : Bool) (place w : ℕ) (pieces : List (ℕ × List ℕ)) → (begins_piece ≡ true → nat_le 64 (length pieces) ≡ false) → length pieces ≤ 64 → length (with_word begins_piece place w pieces) ≤ 64
with_word_few true place w pieces h few =
    let less : length pieces < 64 = grind (arith, nat_tests, h refl) in
    simp length-append (omega arith)
with_word_few false place w pieces h few = omega (arith, length_extended w pieces)

carried_few : (state : State) (labels_before : ℕ) (s : Statement) → ((n : ℕ) → s ≡ Word n → state.begins_piece ≡ true → nat_le 64 (length state.pieces) ≡ false) → length state.pieces ≤ 64 → length (carried_out state labels_before (Ok s)).pieces ≤ 64
carried_few state labels_before Nothing h few = few
carried_few state labels_before (Place next) h few = few
carried_few state labels_before (Word w) h few = with_word_few state.begins_piece state.place w state.pieces (h w refl) few

step_few : (labels : Labels) (state : State) (line : List ℕ) → line_fault labels state line ≡ None → length state.pieces ≤ 64 → length (state_after labels state line).pieces ≤ 64
unfolding state_after
step_few labels state line e few =
    let f = faultless labels state line e in
    let statement = statement_of line in
    let labels_before = state.labels_before + label_count (label_of line) in
    let P : Result Statement Fault → Type 0 = λ r. length (carried_out state labels_before r).pieces ≤ 64 in
    subst P (sym f.reads) (carried_few state labels_before f.statement (λ n is begins_piece.
    let puts = gives_word labels state.place statement n (f.reads ∙ ap (λ s. Ok s) is) in
    let room = sym (ap (λ t. t && (nat_le 0x10000000 state.place || (state.begins_piece && nat_le 64 (length state.pieces)))) puts) ∙ f.room in
    room_for (nat_le 0x10000000 state.place) (nat_le 64 (length state.pieces)) state.begins_piece room begins_piece) few)

lead_few : (labels : Labels) (from to : State) (lines : List (List ℕ)) → RunsWithoutFault labels from lines to → length from.pieces ≤ 64 → length to.pieces ≤ 64
lead_few labels from to [] e few = let P : State → Type 0 = λ s. length s.pieces ≤ 64 in subst P e few
lead_few labels from to (line ∷ lines) e few = lead_few labels (state_after labels from line) to lines e.1 (step_few labels from line e.0 few)

pub few_pieces : (text : List ℕ) (pieces : List (ℕ × List ℕ)) → source_of text ≡ Ok pieces → length pieces ≤ 64
few_pieces text pieces h =
    let p = program_is text pieces h in
    let P : List (ℕ × List ℕ) → Type 0 = λ l. length l ≤ 64 in
    subst P p.puts (lead_few (all_labels text) initial_state p.state (lines_of text) p.leads (omega arith))
