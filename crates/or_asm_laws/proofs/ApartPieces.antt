-- The pieces of a program share no address.
use Rattle.std.proofs.Common.{◌≡◌, ◌∙◌, refl, sym, ap, subst, ℕ, ◌+◌, ◌-◌, ◌/◌, ◌%◌, ◌^◌, ◌<◌, ◌≤◌, ◌⊎◌, inl, inr, Bool, true, false, cond, leb, ltb, eqb, ◌&&◌, ◌||◌, List, [], ◌∷◌, ◌++◌, length, codes, Option, Some, None, Result, Ok, Err, arith}
use Rattle.std.specs.Prelude.{is_some, ℤ, pos, negsuc}
use Rattle.std.specs.List.{list_any}
use Rattle.std.specs.Str.{bytes_eq}
use Rattle.std.proofs.lemmas.List.{length-append}
use Rattle.std.proofs.lemmas.Bool.{cases_lt}
use Rattle.std.proofs.lemmas.Bool.Decides.{nat_tests}
use Rattle.or_asm_text.specs.Names.{insn_named}
use Rattle.or_asm_read.specs.declared.fault.Fault.{Fault}
use Rattle.or_asm_read.specs.declared.fault.Fault.TheVariants.{OutOfRange}
use Rattle.or_asm_read.specs.declared.statements.Statement.{Statement}
use Rattle.or_asm_read.specs.declared.statements.Statement.TheVariants.{Nothing, Place, Word}
use Rattle.or_asm_read.specs.Cuts.{trimmed, name_part, operands_part, label_of, statement_of}
use Rattle.or_asm_read.specs.Numbers.{number_of}
use Rattle.or_asm_read.specs.Labels.{Labels}
use Rattle.or_asm_read.specs.Operands.{is_empty, value_at, bits_of}
use Rattle.or_asm_read.specs.Statements.{org_at, word_at, insn_at, named_at, statement_at}
use Rattle.or_asm.specs.Lines.{lines_of, puts_word}
use Rattle.or_asm.specs.Program.{covers, appended, extended}
use Rattle.or_asm.specs.Source.{State, initial_state, label_count, with_word, carried_out, state_after, line_fault, source_of}
use Rattle.or_asm.specs.First.{RunsWithoutFault, all_labels}
use Rattle.or_asm.proofs.Firsts.{program_is}
use Rattle.or_asm.proofs.Pairs.{EndsAt, FollowsAt, with_word_ends}
use Rattle.or_asm.proofs.AgreeingPasses.{OnlyWords, word_words, insn_words, faultless, gives_word}
use Rattle.or_asm_laws.specs.Apart.{end_of, AreApart, IsApartFrom, AllApart, IsInMemory, AllInMemory}

-- a word at a place touches no piece
abbrev IsFree : ℕ → List (ℕ × List ℕ) → Type 0
IsFree place [] = Unit {0}
IsFree place (p ∷ ps) = ((place + 4 ≤ p.0) ⊎ (end_of p ≤ place)) × IsFree place ps

free_piece : (place : ℕ) (p : ℕ × List ℕ) → place % 4 ≡ 0 → p.0 % 4 ≡ 0 → covers place p ≡ false → (place + 4 ≤ p.0) ⊎ (end_of p ≤ place)
free_piece place p here there e = elim (cases_lt place p.0) [
  | inl before ↦ inl (omega arith)
  | inr behind ↦ elim (cases_lt ((place - p.0) / 4) (length p.1)) [
    | inl inside ↦ let yes : covers place p ≡ true = grind (arith, nat_tests) in absurd cc
    | inr past ↦ inr (omega arith)
  ]
]

free_both : (a b : Bool) → (a || b) ≡ false → (a ≡ false) × (b ≡ false)
free_both true b e = absurd cc
free_both false b e = (refl, e)

is_free : (place : ℕ) (pieces : List (ℕ × List ℕ)) → place % 4 ≡ 0 → AllInMemory pieces → list_any (covers place) pieces ≡ false → IsFree place pieces
is_free place [] here all e = tt
is_free place (p ∷ ps) here all e =
    let parts = free_both (covers place p) (list_any (covers place) ps) e in
    (free_piece place p here all.0.aligned parts.0, is_free place ps here all.1 parts.1)

-- a piece of one word behind the others
apart_begun : (p : ℕ × List ℕ) (place w : ℕ) → (place + 4 ≤ p.0) ⊎ (end_of p ≤ place) → AreApart p (place, w ∷ [])
apart_begun p place w (inl before) = inr (omega arith)
apart_begun p place w (inr behind) = inl behind

apart_from_begun : (p : ℕ × List ℕ) (place w : ℕ) (ps : List (ℕ × List ℕ)) → (place + 4 ≤ p.0) ⊎ (end_of p ≤ place) → IsApartFrom p ps → IsApartFrom p (ps ++ (place, w ∷ []) ∷ [])
apart_from_begun p place w [] free h = (apart_begun p place w free, tt)
apart_from_begun p place w (q ∷ qs) free h = (h.0, apart_from_begun p place w qs free h.1)

begun_apart : (place w : ℕ) (pieces : List (ℕ × List ℕ)) → IsFree place pieces → AllApart pieces → AllApart (pieces ++ (place, w ∷ []) ∷ [])
begun_apart place w [] free h = (tt, tt)
begun_apart place w (p ∷ ps) free h = (apart_from_begun p place w ps free.0 h.0, begun_apart place w ps free.1 h.1)

begun_in : (place w : ℕ) (pieces : List (ℕ × List ℕ)) → place % 4 ≡ 0 → place < 2 ^ 28 → AllInMemory pieces → AllInMemory (pieces ++ (place, w ∷ []) ∷ [])
begun_in place w [] here low h = (record { some = omega arith; aligned = here; below = omega arith }, tt)
begun_in place w (p ∷ ps) here low h = (h.0, begun_in place w ps here low h.1)

-- a word behind the last piece
longer : (q : ℕ × List ℕ) (w : ℕ) → end_of (appended w q) ≡ end_of q + 4
longer q w = simp length-append (omega arith)

apart_longer : (p q : ℕ × List ℕ) (place w : ℕ) → 0 < length p.1 → end_of q ≡ place → (place + 4 ≤ p.0) ⊎ (end_of p ≤ place) → AreApart p q → AreApart p (appended w q)
apart_longer p q place w some ends free (inl before) = inl before
apart_longer p q place w some ends (inl above) (inr behind) = inr (omega (arith, longer q w))
apart_longer p q place w some ends (inr below) (inr behind) = absurd (omega arith)

apart_from_longer : (p : ℕ × List ℕ) (place w : ℕ) (ps : List (ℕ × List ℕ)) → 0 < length p.1 → EndsAt ps place → (place + 4 ≤ p.0) ⊎ (end_of p ≤ place) → IsApartFrom p ps → IsApartFrom p (extended w ps)
apart_from_longer p place w [] some ends free h = tt
apart_from_longer p place w (q ∷ []) some ends free h = (apart_longer p q place w some ends free h.0, tt)
apart_from_longer p place w (q ∷ r ∷ rs) some ends free h = (h.0, apart_from_longer p place w (r ∷ rs) some ends free h.1)

extended_apart : (place w : ℕ) (pieces : List (ℕ × List ℕ)) → EndsAt pieces place → AllInMemory pieces → IsFree place pieces → AllApart pieces → AllApart (extended w pieces)
extended_apart place w [] ends all free h = tt
extended_apart place w (p ∷ []) ends all free h = (tt, tt)
extended_apart place w (p ∷ q ∷ qs) ends all free h =
    (apart_from_longer p place w (q ∷ qs) all.0.some ends free.0 h.0, extended_apart place w (q ∷ qs) ends all.1 free.1 h.1)

longer_in : (q : ℕ × List ℕ) (place w : ℕ) → place % 4 ≡ 0 → place < 2 ^ 28 → end_of q ≡ place → IsInMemory q → IsInMemory (appended w q)
longer_in q place w here low ends h = record {
  some = let l = length-append q.1 (w ∷ []) in omega arith;
  aligned = h.aligned;
  below = omega (arith, longer q w);
}

extended_in : (place w : ℕ) (pieces : List (ℕ × List ℕ)) → place % 4 ≡ 0 → place < 2 ^ 28 → EndsAt pieces place → AllInMemory pieces → AllInMemory (extended w pieces)
extended_in place w [] here low ends h = tt
extended_in place w (p ∷ []) here low ends h = (longer_in p place w here low ends h.0, tt)
extended_in place w (p ∷ q ∷ qs) here low ends h = (h.0, extended_in place w (q ∷ qs) here low ends h.1)

-- what every state keeps
record Keeps (state : State) : Type 0 where
  aligned : state.place % 4 ≡ 0
  follows : FollowsAt state.begins_piece state.pieces state.place
  apart : AllApart state.pieces
  within : AllInMemory state.pieces

word_apart : (begins_piece : Bool) (place w : ℕ) (pieces : List (ℕ × List ℕ)) → FollowsAt begins_piece pieces place → AllInMemory pieces → IsFree place pieces → AllApart pieces → AllApart (with_word begins_piece place w pieces)
word_apart true place w pieces follows all free h = begun_apart place w pieces free h
word_apart false place w pieces follows all free h = extended_apart place w pieces follows all free h

word_in : (begins_piece : Bool) (place w : ℕ) (pieces : List (ℕ × List ℕ)) → place % 4 ≡ 0 → place < 2 ^ 28 → FollowsAt begins_piece pieces place → AllInMemory pieces → AllInMemory (with_word begins_piece place w pieces)
word_in true place w pieces here low follows h = begun_in place w pieces here low h
word_in false place w pieces here low follows h = extended_in place w pieces here low follows h

-- a place that a statement sets is a multiple of four
abbrev HasAlignedPlace : Result Statement Fault → Type 0
HasAlignedPlace (Ok Nothing) = Unit {0}
HasAlignedPlace (Ok (Place place)) = place % 4 ≡ 0
HasAlignedPlace (Ok (Word word)) = Unit {0}
HasAlignedPlace (Err fault) = Unit {0}

org_tests : (a b : Bool) (n : ℕ) → (b ≡ true → n % 4 ≡ 0) → HasAlignedPlace (cond (a && b) (Ok (Place n)) (Err OutOfRange))
org_tests true true n h = h refl
org_tests true false n h = tt
org_tests false b n h = tt

by_four : (n : ℕ) → eqb (n % 4) 0 ≡ true → n % 4 ≡ 0
by_four n e = grind (arith, nat_tests)

org_aligned : (o : Option ℤ) → HasAlignedPlace (org_at o)
org_aligned None = tt
org_aligned (Some (negsuc n)) = tt
org_aligned (Some (pos n)) = org_tests (ltb n 0x10000000) (eqb (n % 4) 0) n (by_four n)

words_aligned : (k : Bool) (r : Result Statement Fault) → OnlyWords k r → HasAlignedPlace r
words_aligned k (Ok Nothing) h = tt
words_aligned k (Ok (Place place)) h = absurd h
words_aligned k (Ok (Word word)) h = tt
words_aligned k (Err fault) h = tt

tests_aligned : (e o w : Bool) (org word insn : Result Statement Fault) → HasAlignedPlace org → HasAlignedPlace word → HasAlignedPlace insn → HasAlignedPlace (cond e (Ok Nothing) (cond o org (cond w word insn)))
tests_aligned true o w org word insn f g h = tt
tests_aligned false true w org word insn f g h = f
tests_aligned false false true org word insn f g h = g
tests_aligned false false false org word insn f g h = h

statement_aligned : (labels : Labels) (pc : ℕ) (statement : List ℕ) → HasAlignedPlace (statement_at labels pc statement)
unfolding statement_at named_at
statement_aligned labels pc statement =
    let text = operands_part statement in
    let name = name_part statement in
    let org = org_at (number_of (trimmed text)) in
    let word = word_at (bits_of (value_at labels (trimmed text))) in
    let insn = insn_at labels pc (insn_named name) text in
    tests_aligned (is_empty statement) (bytes_eq name (codes ".org")) (bytes_eq name (codes ".word")) org word insn
    (org_aligned (number_of (trimmed text))) (words_aligned true word (word_words (bits_of (value_at labels (trimmed text))))) (words_aligned (is_some (insn_named name)) insn (insn_words labels pc (insn_named name) text))

-- a word has room, and its place is free
record HasRoom (state : State) : Type 0 where
  below : state.place < 2 ^ 28
  free : list_any (covers state.place) state.pieces ≡ false

carried_keeps : (state : State) (labels_before : ℕ) (s : Statement) → HasAlignedPlace (Ok s) → ((n : ℕ) → s ≡ Word n → HasRoom state) → Keeps state → Keeps (carried_out state labels_before (Ok s))
carried_keeps state labels_before Nothing aligned room k = record { aligned = k.aligned; follows = k.follows; apart = k.apart; within = k.within }
carried_keeps state labels_before (Place next) aligned room k = record { aligned = aligned; follows = tt; apart = k.apart; within = k.within }
carried_keeps state labels_before (Word w) aligned room k =
    let r = room w refl in
    let free = is_free state.place state.pieces k.aligned k.within r.free in
    record {
      aligned = let a = k.aligned in omega arith;
      follows = with_word_ends state.begins_piece state.place w state.pieces k.follows;
      apart = word_apart state.begins_piece state.place w state.pieces k.follows k.within free k.apart;
      within = word_in state.begins_piece state.place w state.pieces k.aligned r.below k.follows k.within;
    }

low_place : (place : ℕ) (puts rest : Bool) → puts ≡ true → (puts && (leb 0x10000000 place || rest)) ≡ false → place < 2 ^ 28
low_place place puts rest holds e =
    let one : (leb 0x10000000 place || rest) ≡ false = sym (ap (λ t. t && (leb 0x10000000 place || rest)) holds) ∙ e in
    let two = free_both (leb 0x10000000 place) rest one in
    grind (arith, nat_tests, two.0)

step_keeps : (labels : Labels) (state : State) (line : List ℕ) → line_fault labels state line ≡ None → Keeps state → Keeps (state_after labels state line)
unfolding state_after
step_keeps labels state line e k =
    let f = faultless labels state line e in
    let statement = statement_of line in
    let labels_before = state.labels_before + label_count (label_of line) in
    let P : Result Statement Fault → Type 0 = λ r. Keeps (carried_out state labels_before r) in
    let A : Result Statement Fault → Type 0 = HasAlignedPlace in
    subst P (sym f.reads) (carried_keeps state labels_before f.statement (subst A f.reads (statement_aligned labels state.place statement)) (λ n is.
    let puts = gives_word labels state.place statement n (f.reads ∙ ap (λ s. Ok s) is) in
    record {
      below = low_place state.place (puts_word statement) (state.begins_piece && leb 64 (length state.pieces)) puts f.room;
      free = sym (ap (λ t. t && list_any (covers state.place) state.pieces) puts) ∙ f.free;
    }) k)

run_keeps : (labels : Labels) (from to : State) (lines : List (List ℕ)) → RunsWithoutFault labels from lines to → Keeps from → Keeps to
run_keeps labels from to [] e k = subst Keeps e k
run_keeps labels from to (line ∷ lines) e k = run_keeps labels (state_after labels from line) to lines e.1 (step_keeps labels from line e.0 k)

initial_keeps : Keeps initial_state
initial_keeps = record { aligned = refl; follows = tt; apart = tt; within = tt }

pub pieces_apart : (text : List ℕ) (pieces : List (ℕ × List ℕ)) → source_of text ≡ Ok pieces → AllApart pieces
pieces_apart text pieces h =
    let p = program_is text pieces h in
    subst AllApart p.puts (run_keeps (all_labels text) initial_state p.state (lines_of text) p.leads initial_keeps).apart

pub pieces_in_memory : (text : List ℕ) (pieces : List (ℕ × List ℕ)) → source_of text ≡ Ok pieces → AllInMemory pieces
pieces_in_memory text pieces h =
    let p = program_is text pieces h in
    subst AllInMemory p.puts (run_keeps (all_labels text) initial_state p.state (lines_of text) p.leads initial_keeps).within
