-- The runs of some turns are those turns, and neighbours are of different cores.
use Rattle.std.proofs.Common.{◌≡◌, ◌≢◌, ◌∙◌, sym, ap, refl, ℕ, zero, suc, ◌+◌, List, [], ◌∷◌, ◌++◌, Bool, true, false, cond, eqb, arith, add-one}
use Rattle.std.specs.Prelude.{replicate}
use Rattle.std.proofs.lemmas.Bool.Decides.{nat_tests}
use Rattle.or_sched.specs.Runs.{runs, runs_after, expand, DifferFrom, NeighboursDiffer}

suc_end : (n x : ℕ) (ys : List ℕ) → replicate (suc n) x ++ ys ≡ replicate n x ++ x ∷ ys
suc_end zero x ys = refl
suc_end (suc n) x ys = ap (λ l. x ∷ l) (suc_end n x ys)

by_test : (b : Bool) (turn core count : ℕ) (turns : List ℕ) → eqb turn core ≡ b
    → expand (runs_after core (count + 1) turns) ≡ replicate (count + 1) core ++ turns
    → expand (runs_after turn 1 turns) ≡ replicate 1 turn ++ turns
    → expand (cond b (runs_after core (count + 1) turns) ((core, count) ∷ runs_after turn 1 turns)) ≡ replicate count core ++ turn ∷ turns
by_test true turn core count turns test same other =
    let e : turn ≡ core = grind (arith, nat_tests) in
    same ∙ ap (λ n. replicate n core ++ turns) (add-one count) ∙ suc_end count core turns ∙ ap (λ t. replicate count core ++ t ∷ turns) (sym e)
by_test false turn core count turns test same other = ap (λ l. replicate count core ++ l) other

pub expand_after : (turns : List ℕ) (core count : ℕ) → expand (runs_after core count turns) ≡ replicate count core ++ turns
expand_after [] core count = refl
expand_after (turn ∷ turns) core count =
    ap (λ b. expand (cond b (runs_after core (count + 1) turns) ((core, count) ∷ runs_after turn 1 turns))) refl
    ∙ by_test (eqb turn core) turn core count turns refl (expand_after turns core (count + 1)) (expand_after turns turn 1)

pub expand_runs : (turns : List ℕ) → expand (runs turns) ≡ turns
expand_runs [] = refl
expand_runs (turn ∷ turns) = expand_after turns turn 1

differ_by_test : (b : Bool) (before turn core count : ℕ) (turns : List ℕ) → eqb turn core ≡ b → core ≢ before
    → DifferFrom before (runs_after core (count + 1) turns)
    → (turn ≢ core → DifferFrom core (runs_after turn 1 turns))
    → DifferFrom before (cond b (runs_after core (count + 1) turns) ((core, count) ∷ runs_after turn 1 turns))
differ_by_test true before turn core count turns test differs same other = same
differ_by_test false before turn core count turns test differs same other =
    let ne : turn ≢ core = grind (arith, nat_tests) in (differs, other ne)

pub differ_after : (turns : List ℕ) (before core count : ℕ) → core ≢ before → DifferFrom before (runs_after core count turns)
differ_after [] before core count differs = (differs, tt)
differ_after (turn ∷ turns) before core count differs =
    differ_by_test (eqb turn core) before turn core count turns refl differs (differ_after turns before core (count + 1) differs)
    (λ ne. differ_after turns core turn 1 ne)

first_by_test : (b : Bool) (turn core count : ℕ) (turns : List ℕ) → eqb turn core ≡ b
    → NeighboursDiffer (runs_after core (count + 1) turns)
    → (turn ≢ core → DifferFrom core (runs_after turn 1 turns))
    → NeighboursDiffer (cond b (runs_after core (count + 1) turns) ((core, count) ∷ runs_after turn 1 turns))
first_by_test true turn core count turns test same other = same
first_by_test false turn core count turns test same other = let ne : turn ≢ core = grind (arith, nat_tests) in other ne

neighbours_after : (turns : List ℕ) (core count : ℕ) → NeighboursDiffer (runs_after core count turns)
neighbours_after [] core count = tt
neighbours_after (turn ∷ turns) core count =
    first_by_test (eqb turn core) turn core count turns refl (neighbours_after turns core (count + 1)) (λ ne. differ_after turns core turn 1 ne)

pub neighbours_differ : (turns : List ℕ) → NeighboursDiffer (runs turns)
neighbours_differ [] = tt
neighbours_differ (turn ∷ turns) = neighbours_after turns turn 1
