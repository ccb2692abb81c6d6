-- A schedule that is one turn longer, and the marks of its blocks.
use Rattle.std.proofs.Common.{◌≡◌, ℕ, ◌+◌, ◌*◌, ◌/◌, ◌%◌, ◌≤◌, zero, suc, Bool, true, false, cond, eqb, List, [], ◌∷◌, ◌++◌, Some, None, length, take, refl, ap, sym, ◌∙◌, arith, length-append, add-one}
use Rattle.std.proofs.lemmas.Bool.Decides.{nat_tests}
use Rattle.or_sched.specs.declared.recording.Mark.{Mark}
use Rattle.std.proofs.Math.Nat.{mul-suc}
use Rattle.std.specs.Prelude.{Option}
use Rattle.std.proofs.lemmas.List.{take-append-le}
use Rattle.std.proofs.Math.Seq.{take-length}
use Rattle.or_model.specs.Turn.{Board, board_turned, and_then, replay}
use Rattle.or_replay.specs.Marks.{mark_of, mark_after, block_marks, marks, with_mark}

and_no_more : (board : Option Board) → and_then board (λ next. Some next) ≡ board
and_no_more None = refl
and_no_more (Some board) = refl

mutual_step : (first : Option Board) (turns : List ℕ) (c : ℕ)
    → ((next : Board) → replay next (turns ++ c ∷ []) ≡ and_then (replay next turns) (λ last. board_turned last c))
    → and_then first (λ next. replay next (turns ++ c ∷ [])) ≡ and_then (and_then first (λ next. replay next turns)) (λ last. board_turned last c)
mutual_step None turns c later = refl
mutual_step (Some next) turns c later = later next

-- the last turn comes behind all others
pub replay_behind : (board : Board) (turns : List ℕ) (c : ℕ) → replay board (turns ++ c ∷ []) ≡ and_then (replay board turns) (λ last. board_turned last c)
replay_behind board [] c = and_no_more (board_turned board c)
replay_behind board (turn ∷ turns) c = mutual_step (board_turned board turn) turns c (λ next. replay_behind next turns c)

-- one turn more behind a board that is reached
pub replay_one_more : (start now next : Board) (turns : List ℕ) (c : ℕ) → replay start turns ≡ Some now → board_turned now c ≡ Some next
    → replay start (turns ++ c ∷ []) ≡ Some next
replay_one_more start now next turns c before turned = replay_behind start turns c ∙ ap (λ b. and_then b (λ last. board_turned last c)) before ∙ turned

-- the marks of blocks that have ended stay
pub marks_stay : (block : ℕ) (start : Board) (turns : List ℕ) (c n : ℕ) → block * n ≤ length turns
    → block_marks block start (turns ++ c ∷ []) n ≡ block_marks block start turns n
marks_stay block start turns c zero inside = refl
marks_stay block start turns c (suc n) inside =
    let fewer : block * n ≤ length turns = omega (arith, mul-suc block n) in
    ap (λ front. block_marks block start (turns ++ c ∷ []) n ++ mark_after (replay start front) ∷ []) (take-append-le (block * suc n) turns (c ∷ []) inside)
    ∙ ap (λ marks. marks ++ mark_after (replay start (take (block * suc n) turns)) ∷ []) (marks_stay block start turns c n fewer)

-- a block that has just ended gets its mark
pub marks_one_more : (block : ℕ) (start next : Board) (turns : List ℕ) (n : ℕ) → block * (n + 1) ≡ length turns → replay start turns ≡ Some next
    → block_marks block start turns (n + 1) ≡ block_marks block start turns n ++ mark_of next.world ∷ []
marks_one_more block start next turns n ends reached =
    let whole : take (block * suc n) turns ≡ turns = ap (λ k. take (block * k) turns) (sym (add-one n)) ∙ ap (λ k. take k turns) ends ∙ take-length turns in
    ap (block_marks block start turns) (add-one n)
    ∙ ap (λ front. block_marks block start turns n ++ mark_after (replay start front) ∷ []) whole
    ∙ ap (λ b. block_marks block start turns n ++ mark_after b ∷ []) reached

pub length-block_marks : (block : ℕ) (start : Board) (turns : List ℕ) (n : ℕ) → length (block_marks block start turns n) ≡ n
length-block_marks block start turns zero = refl
length-block_marks block start turns (suc n) =
    omega (arith, length-append (block_marks block start turns n) (mark_after (replay start (take (block * suc n) turns)) ∷ []), length-block_marks block start turns n)

-- the marks of a schedule that is one turn longer
pub marks_none : (b : Board) → marks b [] ≡ []
unfolding marks
marks_none b = refl

pub length_marks : (b : Board) (xs : List ℕ) → length (marks b xs) ≡ length xs / 65536
unfolding marks
length_marks b xs = length-block_marks 65536 b xs (length xs / 65536)

by_test : (test : Bool) (b next : Board) (xs : List ℕ) (c : ℕ) → eqb ((length xs + 1) % 65536) 0 ≡ test → replay b (xs ++ c ∷ []) ≡ Some next
    → block_marks 65536 b (xs ++ c ∷ []) (length (xs ++ c ∷ []) / 65536) ≡ cond test (block_marks 65536 b xs (length xs / 65536) ++ mark_of next.world ∷ []) (block_marks 65536 b xs (length xs / 65536))
by_test true b next xs c test reached =
    let longer : length (xs ++ c ∷ []) ≡ length xs + 1 = length-append xs (c ∷ []) in
    let whole : 65536 * (length xs / 65536 + 1) ≡ length (xs ++ c ∷ []) = grind (arith, nat_tests, test, longer) in
    let many : length (xs ++ c ∷ []) / 65536 ≡ length xs / 65536 + 1 = omega arith in
    ap (block_marks 65536 b (xs ++ c ∷ [])) many ∙ (marks_one_more 65536 b next (xs ++ c ∷ []) (length xs / 65536) whole reached
    ∙ ap (λ (l : List Mark). l ++ mark_of next.world ∷ []) (marks_stay 65536 b xs c (length xs / 65536) (omega arith)))
by_test false b next xs c test reached =
    let longer : length (xs ++ c ∷ []) ≡ length xs + 1 = length-append xs (c ∷ []) in
    let many : length (xs ++ c ∷ []) / 65536 ≡ length xs / 65536 = grind (arith, nat_tests, test, longer) in
    ap (block_marks 65536 b (xs ++ c ∷ [])) many ∙ marks_stay 65536 b xs c (length xs / 65536) (omega arith)

pub marks_longer : (b next : Board) (xs : List ℕ) (c : ℕ) → replay b (xs ++ c ∷ []) ≡ Some next
    → marks b (xs ++ c ∷ []) ≡ with_mark (length xs + 1) next.world (marks b xs)
unfolding marks
marks_longer b next xs c reached = by_test (eqb ((length xs + 1) % 65536) 0) b next xs c refl reached
