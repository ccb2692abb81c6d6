-- The pieces of a program hold what its lines put.
use Rattle.std.proofs.Common.{◌≡◌, ◌∙◌, refl, sym, ap, ℕ, ◌+◌, ◌*◌, Bool, true, false, List, [], ◌∷◌, ◌++◌, length, Result, Ok, Err, append_assoc, arith}
use Rattle.std.proofs.lemmas.Grind.{flat_map-append}
use Rattle.std.proofs.lemmas.List.{length-append}
use Rattle.or_asm_read.specs.declared.fault.Fault.{Fault}
use Rattle.or_asm_read.specs.declared.statements.Statement.{Statement}
use Rattle.or_asm_read.specs.declared.statements.Statement.TheVariants.{Nothing, Place, Word}
use Rattle.or_asm_read.specs.Cuts.{label_of, statement_of}
use Rattle.or_asm_read.specs.Labels.{Labels}
use Rattle.or_asm_read.specs.Statements.{statement_at}
use Rattle.or_asm.specs.Lines.{lines_of}
use Rattle.or_asm.specs.Program.{extended}
use Rattle.or_asm.specs.Source.{State, initial_state, label_count, with_word, carried_out, state_after, source_of}
use Rattle.or_asm.specs.First.{RunsWithoutFault, all_labels}
use Rattle.or_asm.specs.Pairs.{words_at, placed_words, word_put, words_put}
use Rattle.or_asm.proofs.Firsts.{program_is}

append_nothing : (xs : List (ℕ × ℕ)) → xs ++ [] ≡ xs
append_nothing [] = refl
append_nothing (x ∷ xs) = ap (λ l. x ∷ l) (append_nothing xs)

words_append : (p : ℕ) (ws : List ℕ) (w q : ℕ) → p + 4 * length ws ≡ q → words_at p (ws ++ w ∷ []) ≡ words_at p ws ++ (q, w) ∷ []
words_append p [] w q e = let same : p ≡ q = omega arith in ap (λ (n : ℕ). (n, w) ∷ []) same
words_append p (x ∷ xs) w q e = let later : p + 4 + 4 * length xs ≡ q = omega arith in ap (λ l. (p, x) ∷ l) (words_append (p + 4) xs w q later)

-- the last piece ends at a place
abbrev pub EndsAt : List (ℕ × List ℕ) → ℕ → Type 0
EndsAt [] place = ⊥
EndsAt (p ∷ []) place = p.0 + 4 * length p.1 ≡ place
EndsAt (p ∷ q ∷ ps) place = EndsAt (q ∷ ps) place

pairs_extended : (w place : ℕ) (pieces : List (ℕ × List ℕ)) → EndsAt pieces place → placed_words (extended w pieces) ≡ placed_words pieces ++ (place, w) ∷ []
pairs_extended w place [] h = absurd h
pairs_extended w place (p ∷ []) h =
    append_nothing (words_at p.0 (p.1 ++ w ∷ [])) ∙ words_append p.0 p.1 w place h ∙ ap (λ l. l ++ (place, w) ∷ []) (sym (append_nothing (words_at p.0 p.1)))
pairs_extended w place (p ∷ q ∷ ps) h =
    ap (λ l. words_at p.0 p.1 ++ l) (pairs_extended w place (q ∷ ps) h) ∙ sym (append_assoc (words_at p.0 p.1) (placed_words (q ∷ ps)) ((place, w) ∷ []))

extended_ends : (w place : ℕ) (pieces : List (ℕ × List ℕ)) → EndsAt pieces place → EndsAt (extended w pieces) (place + 4)
extended_ends w place [] h = absurd h
extended_ends w place (p ∷ []) h = simp length-append (omega arith)
extended_ends w place (p ∷ q ∷ []) h = simp length-append (omega arith)
extended_ends w place (p ∷ q ∷ r ∷ rs) h = extended_ends w place (q ∷ r ∷ rs) h

begun_ends : (w place : ℕ) (pieces : List (ℕ × List ℕ)) → EndsAt (pieces ++ (place, w ∷ []) ∷ []) (place + 4)
begun_ends w place [] = omega arith
begun_ends w place (p ∷ []) = omega arith
begun_ends w place (p ∷ q ∷ ps) = begun_ends w place (q ∷ ps)

-- a state whose next word stands behind the last piece, or begins one
abbrev pub FollowsAt : Bool → List (ℕ × List ℕ) → ℕ → Type 0
FollowsAt true pieces place = Unit {0}
FollowsAt false pieces place = EndsAt pieces place

abbrev Follows : State → Type 0
Follows state = FollowsAt state.begins_piece state.pieces state.place

with_word_pairs : (begins_piece : Bool) (place w : ℕ) (pieces : List (ℕ × List ℕ)) → FollowsAt begins_piece pieces place → placed_words (with_word begins_piece place w pieces) ≡ placed_words pieces ++ (place, w) ∷ []
with_word_pairs true place w pieces h = flat_map-append (λ piece. words_at piece.0 piece.1) pieces ((place, w ∷ []) ∷ [])
with_word_pairs false place w pieces h = pairs_extended w place pieces h

pub with_word_ends : (begins_piece : Bool) (place w : ℕ) (pieces : List (ℕ × List ℕ)) → FollowsAt begins_piece pieces place → EndsAt (with_word begins_piece place w pieces) (place + 4)
with_word_ends true place w pieces h = begun_ends w place pieces
with_word_ends false place w pieces h = extended_ends w place pieces h

record Puts (state next : State) (pairs : List (ℕ × ℕ)) : Type 0 where
  follows : Follows next
  holds : placed_words next.pieces ≡ placed_words state.pieces ++ pairs

carried_puts : (state : State) (labels_before : ℕ) (r : Result Statement Fault) → Follows state → Puts state (carried_out state labels_before r) (word_put state.place r)
carried_puts state labels_before (Ok Nothing) h = record { follows = h; holds = sym (append_nothing (placed_words state.pieces)) }
carried_puts state labels_before (Ok (Place next)) h = record { follows = tt; holds = sym (append_nothing (placed_words state.pieces)) }
carried_puts state labels_before (Ok (Word w)) h = record { follows = with_word_ends state.begins_piece state.place w state.pieces h; holds = with_word_pairs state.begins_piece state.place w state.pieces h }
carried_puts state labels_before (Err fault) h = record { follows = h; holds = sym (append_nothing (placed_words state.pieces)) }

step_puts : (labels : Labels) (state : State) (line : List ℕ) → Follows state → Puts state (state_after labels state line) (word_put state.place (statement_at labels state.place (statement_of line)))
unfolding state_after
step_puts labels state line h = carried_puts state (state.labels_before + label_count (label_of line)) (statement_at labels state.place (statement_of line)) h

lead_puts : (labels : Labels) (from to : State) (lines : List (List ℕ)) → Follows from → RunsWithoutFault labels from lines to → placed_words to.pieces ≡ placed_words from.pieces ++ words_put labels from lines
lead_puts labels from to [] h e = ap (λ s. placed_words s.pieces) (sym e) ∙ sym (append_nothing (placed_words from.pieces))
lead_puts labels from to (line ∷ lines) h e =
    let next_progress = step_puts labels from line h in
    let first = word_put from.place (statement_at labels from.place (statement_of line)) in
    lead_puts labels (state_after labels from line) to lines next_progress.follows e.1
    ∙ ap (λ l. l ++ words_put labels (state_after labels from line) lines) next_progress.holds
    ∙ append_assoc (placed_words from.pieces) first (words_put labels (state_after labels from line) lines)

pub program_puts : (text : List ℕ) (pieces : List (ℕ × List ℕ)) → source_of text ≡ Ok pieces → placed_words pieces ≡ words_put (all_labels text) initial_state (lines_of text)
program_puts text pieces h =
    let p = program_is text pieces h in
    ap placed_words (sym p.puts) ∙ lead_puts (all_labels text) initial_state p.state (lines_of text) tt p.leads
