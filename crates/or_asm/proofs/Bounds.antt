-- How large a program can be.
use Rattle.std.proofs.Common.{◌≡◌, ap, ℕ, ◌+◌, ◌≤◌, Bool, true, false, cond, eqb, List, [], ◌∷◌, ◌++◌, length, Result, Ok, Err, arith}
use Rattle.std.specs.List.{onto_first}
use Rattle.or_asm_read.specs.declared.fault.Fault.{Fault}
use Rattle.or_asm_read.specs.declared.statements.Statement.{Statement}
use Rattle.or_asm_read.specs.declared.statements.Statement.TheVariants.{Nothing, Place, Word}
use Rattle.or_asm_read.specs.Cuts.{label_of, statement_of}
use Rattle.or_asm_read.specs.Labels.{Labels}
use Rattle.or_asm_read.specs.Statements.{statement_at}
use Rattle.std.proofs.lemmas.List.{length-append}
use Rattle.std.proofs.lemmas.List.Sums.{sum_by-cons, sum_by_push}
use Rattle.or_asm.specs.Lines.{lines_of}
use Rattle.or_asm.specs.Program.{extended, word_count}
use Rattle.or_asm.specs.Source.{State, initial_state, label_count, with_word, carried_out, state_after, source_of}
use Rattle.or_asm.specs.First.{RunsWithoutFault, all_labels}
use Rattle.or_asm.proofs.Firsts.{program_is}
use Rattle.or_asm.proofs.AgreeingPasses.{few_pieces}

-- a text has at most as many lines as bytes
onto_first_length : (b : ℕ) (lines : List (List ℕ)) (n : ℕ) → length lines ≤ n → length (onto_first b lines) ≤ n + 1
onto_first_length b [] n h = omega arith
onto_first_length b (line ∷ lines) n h = omega arith

line_step : (t : Bool) (b : ℕ) (lines : List (List ℕ)) (n : ℕ) → length lines ≤ n → length (cond t ([] ∷ lines) (onto_first b lines)) ≤ n + 1
line_step true b lines n h = omega arith
line_step false b lines n h = onto_first_length b lines n h

lines_short : (bs : List ℕ) → length (lines_of bs) ≤ length bs
lines_short [] = omega arith
lines_short (b ∷ bs) = let h = line_step (eqb b 10) b (lines_of bs) (length bs) (lines_short bs) in omega arith

-- a line puts at most one word
extended_words : (w : ℕ) (pieces : List (ℕ × List ℕ)) → word_count (extended w pieces) ≤ word_count pieces + 1
extended_words w [] = omega arith
extended_words w (p ∷ []) = simp length-append (omega arith)
extended_words w (p ∷ q ∷ ps) =
    let longer : word_count (extended w (p ∷ q ∷ ps)) ≡ length p.1 + word_count (extended w (q ∷ ps)) = sum_by-cons (λ piece. length piece.1) p (extended w (q ∷ ps)) in
    let old : word_count (p ∷ q ∷ ps) ≡ length p.1 + word_count (q ∷ ps) = sum_by-cons (λ piece. length piece.1) p (q ∷ ps) in
    omega (arith, extended_words w (q ∷ ps))

begun_words : (place w : ℕ) (pieces : List (ℕ × List ℕ)) → word_count (pieces ++ (place, w ∷ []) ∷ []) ≤ word_count pieces + 1
begun_words place w pieces = omega (arith, sum_by_push (λ piece. length piece.1) pieces (place, w ∷ []))

with_word_words : (begins_piece : Bool) (place w : ℕ) (pieces : List (ℕ × List ℕ)) → word_count (with_word begins_piece place w pieces) ≤ word_count pieces + 1
with_word_words true place w pieces = begun_words place w pieces
with_word_words false place w pieces = extended_words w pieces

carried_words : (state : State) (labels_before : ℕ) (r : Result Statement Fault) → word_count (carried_out state labels_before r).pieces ≤ word_count state.pieces + 1
carried_words state labels_before (Ok Nothing) = omega arith
carried_words state labels_before (Ok (Place place)) = omega arith
carried_words state labels_before (Ok (Word w)) = with_word_words state.begins_piece state.place w state.pieces
carried_words state labels_before (Err fault) = omega arith

run_words : (labels : Labels) (from to : State) (lines : List (List ℕ)) → RunsWithoutFault labels from lines to → word_count to.pieces ≤ word_count from.pieces + length lines
unfolding state_after
run_words labels from to [] e = let same : word_count from.pieces ≡ word_count to.pieces = ap (λ s. word_count s.pieces) e in omega arith
run_words labels from to (line ∷ lines) e =
    let rest = run_words labels (state_after labels from line) to lines e.1 in
    let step = carried_words from (from.labels_before + label_count (label_of line)) (statement_at labels from.place (statement_of line)) in
    omega arith

pub few_words : (text : List ℕ) (pieces : List (ℕ × List ℕ)) → source_of text ≡ Ok pieces → word_count pieces ≤ length text
few_words text pieces h =
    let p = program_is text pieces h in
    let run = run_words (all_labels text) initial_state p.state (lines_of text) p.leads in
    let same : word_count p.state.pieces ≡ word_count pieces = ap word_count p.puts in
    let lines = lines_short text in
    omega arith

pub short_program : (text : List ℕ) (pieces : List (ℕ × List ℕ)) → length text ≤ 4194304 → source_of text ≡ Ok pieces → word_count pieces ≤ 16000000
short_program text pieces small h = omega (arith, few_words text pieces h)

pub ruleset bounds = (few_pieces, short_program)
