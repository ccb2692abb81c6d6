-- Turns and their runs.
use Rattle.std.proofs.Common.{◌≡◌, ◌≢◌, ◌∙◌, sym, ap, subst, ℕ, zero, suc, List, ◌++◌, ◌∷◌, [], ◌+◌, ◌-◌, ◌≤◌, ◌<◌, arith, refl, length, length-append, inl, inr, ◌⊎◌}
use Rattle.std.specs.Prelude.{replicate}
use Rattle.std.proofs.lemmas.Bool.{cases_eq}
use Rattle.std.proofs.lemmas.Bool.Decides.{nat_tests}
use Rattle.std.proofs.lemmas.List.{length-replicate}
use Rattle.or_sched.specs.Runs.{runs, runs_after, expand, block_text, lines_text}
use Rattle.or_sched.specs.RunRests.{Follow, left_after}

-- each turn is of a core
abbrev pub AreTurns : ℕ → List ℕ → Type 0
AreTurns cores [] = Unit {0}
AreTurns cores (turn ∷ turns) = (turn < cores) × AreTurns cores turns

runs_same : (core count turn : ℕ) (turns : List ℕ) → turn ≡ core → runs_after core count (turn ∷ turns) ≡ runs_after core (count + 1) turns
runs_same core count turn turns same = grind (arith, nat_tests)

runs_other : (core count turn : ℕ) (turns : List ℕ) → turn ≢ core → runs_after core count (turn ∷ turns) ≡ (core, count) ∷ runs_after turn 1 turns
runs_other core count turn turns other = grind (arith, nat_tests)

-- a run more of a core in front
replicate_more : (count x : ℕ) (rest : List ℕ) → replicate (count + 1) x ++ rest ≡ replicate count x ++ x ∷ rest
replicate_more zero x rest = refl
replicate_more (suc count) x rest =
    let same : suc count + 1 ≡ suc (count + 1) = omega arith in
    ap (λ k. replicate k x ++ rest) same ∙ ap (λ t. x ∷ t) (replicate_more count x rest)

-- what the runs of turns are
pub record AreRuns (cores prev left core count : ℕ) (turns : List ℕ) (all : List (ℕ × ℕ)) : Type 0 where
  pub follow : Follow cores prev left all
  pub whole : expand all ≡ replicate count core ++ turns
  pub after : left_after left all ≡ left - (count + length turns)
  pub some : 0 < length all

runs_are_by : (turn : ℕ) (turns : List ℕ) (cores prev left core count : ℕ) → core < cores → core ≢ prev → 1 ≤ count → count + length (turn ∷ turns) ≤ left
    → (turn ≡ core) ⊎ (turn ≡ core → ⊥)
    → AreRuns cores prev left core (count + 1) turns (runs_after core (count + 1) turns)
    → (turn ≢ core → AreRuns cores core (left - count) turn 1 turns (runs_after turn 1 turns))
    → AreRuns cores prev left core count (turn ∷ turns) (runs_after core count (turn ∷ turns))
runs_are_by turn turns cores prev left core count below differs some fits (inl same) r more =
    let longer : count + 1 + length turns ≡ count + length (turn ∷ turns) = omega arith in
    let here : AreRuns cores prev left core count (turn ∷ turns) (runs_after core (count + 1) turns) = record {
      follow = r.follow;
      whole = r.whole ∙ replicate_more count core turns ∙ ap (λ t. replicate count core ++ t ∷ turns) (sym same);
      after = r.after ∙ ap (λ k. left - k) longer;
      some = r.some;
    } in
    subst (λ all. AreRuns cores prev left core count (turn ∷ turns) all) (sym (runs_same core count turn turns same)) here
runs_are_by turn turns cores prev left core count below differs some fits (inr other) again more =
    let r : AreRuns cores core (left - count) turn 1 turns (runs_after turn 1 turns) = more other in
    let here : AreRuns cores prev left core count (turn ∷ turns) ((core, count) ∷ runs_after turn 1 turns) = record {
      follow = (below, differs, some, omega arith, r.follow);
      whole = ap (λ t. replicate count core ++ t) r.whole;
      after = r.after ∙ longer left count turn turns;
      some = omega arith;
    } in
    subst (λ all. AreRuns cores prev left core count (turn ∷ turns) all) (sym (runs_other core count turn turns other)) here
  where
    longer : (left count turn : ℕ) (turns : List ℕ) → left - count - (1 + length turns) ≡ left - (count + length (turn ∷ turns))
    longer left count turn turns = omega arith

pub runs_are : (turns : List ℕ) (cores prev left core count : ℕ) → core < cores → core ≢ prev → 1 ≤ count → count + length turns ≤ left → AreTurns cores turns
    → AreRuns cores prev left core count turns (runs_after core count turns)
runs_are [] cores prev left core count below differs some fits are =
    record { follow = (below, differs, some, omega arith, tt); whole = refl; after = omega arith; some = omega arith }
runs_are (turn ∷ turns) cores prev left core count below differs some fits are =
    runs_are_by turn turns cores prev left core count below differs some fits (cases_eq turn core)
    (runs_are turns cores prev left core (count + 1) below differs (omega arith) (omega arith) are.1)
    (λ other. runs_are turns cores core (left - count) turn 1 are.0 other (omega arith) (omega arith) are.1)

-- the runs of turns that begin with equal ones
pub runs_replicate : (k core count : ℕ) (rest : List ℕ) → runs_after core count (replicate k core ++ rest) ≡ runs_after core (count + k) rest
runs_replicate zero core count rest = ap (λ n. runs_after core n rest) (omega arith)
runs_replicate (suc k) core count rest =
    let sum : count + 1 + k ≡ count + suc k = omega arith in
    runs_same core count core (replicate k core ++ rest) refl ∙ runs_replicate k core (count + 1) rest ∙ ap (λ n. runs_after core n rest) sum

runs_expand_by : (run : ℕ × ℕ) (others : List (ℕ × ℕ)) (cores core count n c : ℕ) → n ≡ run.1 → c ≡ run.0 → run.0 ≢ core → 1 ≤ run.1
    → runs_after run.0 run.1 (expand others) ≡ run ∷ others → runs_after core count (replicate n c ++ expand others) ≡ (core, count) ∷ run ∷ others
runs_expand_by run others cores core count zero c is_n is_c differs some after = absurd (omega arith)
runs_expand_by run others cores core count (suc n) c is_n is_c differs some after =
    let other : c ≢ core = λ e. differs (sym is_c ∙ e) in
    let count_is : 1 + n ≡ run.1 = omega arith in
    runs_other core count c (replicate n c ++ expand others) other
    ∙ ap (λ t. (core, count) ∷ t) (runs_replicate n c 1 (expand others)
    ∙ ap (λ k. runs_after c k (expand others)) count_is ∙ ap (λ k. runs_after k run.1 (expand others)) is_c ∙ after)

-- runs that may follow one are those of their turns
pub runs_expand : (others : List (ℕ × ℕ)) (cores core count left : ℕ) → Follow cores core left others → runs_after core count (expand others) ≡ (core, count) ∷ others
runs_expand [] cores core count left follow = refl
runs_expand (run ∷ others) cores core count left follow =
    runs_expand_by run others cores core count run.1 run.0 refl refl follow.1 follow.2 (runs_expand others cores run.0 run.1 (left - run.1) follow.4)

turns_replicate : (n core cores : ℕ) (rest : List ℕ) → core < cores → AreTurns cores rest → AreTurns cores (replicate n core ++ rest)
turns_replicate zero core cores rest below are = are
turns_replicate (suc n) core cores rest below are = (below, turns_replicate n core cores rest below are)

-- the turns of runs
pub expand_turns : (all : List (ℕ × ℕ)) (cores core left : ℕ) → Follow cores core left all → AreTurns cores (expand all)
expand_turns [] cores core left follow = tt
expand_turns (run ∷ others) cores core left follow =
    turns_replicate run.1 run.0 cores (expand others) follow.0 (expand_turns others cores run.0 (left - run.1) follow.4)

pub expand_length : (all : List (ℕ × ℕ)) (cores core left : ℕ) → Follow cores core left all → (length (expand all) + left_after left all ≡ left)
expand_length [] cores core left follow = omega arith
expand_length (run ∷ others) cores core left follow =
    omega (arith, expand_length others cores run.0 (left - run.1) follow.4, length-append (replicate run.1 run.0) (expand others), length-replicate run.1 run.0, follow.3)

-- some runs are those of their turns
pub runs_of_expand : (run : ℕ × ℕ) (others : List (ℕ × ℕ)) (cores core left : ℕ) → Follow cores core left (run ∷ others) → runs (expand (run ∷ others)) ≡ run ∷ others
runs_of_expand run others cores core left follow = go run.1 run.0 refl refl follow.2
  where
    go : (n c : ℕ) → n ≡ run.1 → c ≡ run.0 → 1 ≤ run.1 → runs (replicate n c ++ expand others) ≡ run ∷ others
    go zero c is_n is_c some = absurd (omega arith)
    go (suc n) c is_n is_c some =
        let count_is : 1 + n ≡ run.1 = omega arith in
        runs_replicate n c 1 (expand others) ∙ ap (λ k. runs_after c k (expand others)) count_is ∙ ap (λ k. runs_after k run.1 (expand others)) is_c
        ∙ runs_expand others cores run.0 run.1 (left - run.1) follow.4

pub block_of_runs : (run : ℕ × ℕ) (others : List (ℕ × ℕ)) (cores core left : ℕ) → Follow cores core left (run ∷ others)
    → block_text (expand (run ∷ others)) ≡ lines_text 16 (run ∷ others)
block_of_runs run others cores core left follow = go (expand (run ∷ others)) refl (runs_of_expand run others cores core left follow)
  where
    go : (turns : List ℕ) → turns ≡ expand (run ∷ others) → runs turns ≡ run ∷ others → block_text turns ≡ lines_text 16 (run ∷ others)
    go [] same e = let no : [] ≡ run ∷ others = e in cc
    go (turn ∷ turns) same e = ap (lines_text 16) e
