-- The texts by turns are those by runs.
use Rattle.std.proofs.Common.{◌≡◌, ◌∙◌, sym, ap, subst, ℕ, List, ◌++◌, ◌∷◌, [], ◌<◌, append_assoc, append-nil, arith, refl, length, length-append, None}
use Rattle.std.specs.Prelude.{replicate, map}
use Rattle.std.specs.List.{AllByRecursion}
use Rattle.std.proofs.lemmas.List.{length-replicate}
use Rattle.std.proofs.lemmas.List.Elements.{recursion_from_All, All-from_recursion}
use Rattle.or_sched.specs.declared.places.Limits.{Limits}
use Rattle.or_sched.specs.declared.places.Place.TheVariants.{First}
use Rattle.or_sched.specs.Runs.{expand, runs, runs_after, lines_text}
use Rattle.or_sched.specs.RunRests.{Follow, Opens}
use Rattle.or_sched.proofs.RunPlaces.{AtRun}
use Rattle.or_sched.specs.Blocks.{Item, run_item}
use Rattle.or_sched.specs.BlockRests.{Later, items, later_items, Behind}
use Rattle.or_sched.specs.Places.{Completes}
use Rattle.or_sched.proofs.Body.{IsBody1}
use Rattle.or_sched.specs.Blocks.{turns_of}
use Rattle.or_sched.proofs.Steps.{opened, letter_back}
use Rattle.or_sched.proofs.Bridge.{AreTurns, AreRuns, runs_are, block_of_runs, expand_turns, expand_length}

pub turns_of_runs : (all : List (ℕ × ℕ)) (decoded : List Item) → turns_of (map run_item all ++ decoded) ≡ expand all ++ turns_of decoded
turns_of_runs [] decoded = refl
turns_of_runs (run ∷ others) decoded =
    ap (λ t. replicate run.1 run.0 ++ t) (turns_of_runs others decoded) ∙ sym (append_assoc (replicate run.1 run.0) (expand others) (turns_of decoded))

pub are_turns : (cores : ℕ) (turns : List ℕ) → AllByRecursion (λ turn. turn < cores) turns → AreTurns cores turns
are_turns cores [] all = tt
are_turns cores (turn ∷ turns) all = (all.0, are_turns cores turns all.1)

pub by_recursion : (cores : ℕ) (turns : List ℕ) → AreTurns cores turns → AllByRecursion (λ turn. turn < cores) turns
by_recursion cores [] all = tt
by_recursion cores (turn ∷ turns) all = (all.0, by_recursion cores turns all.1)

-- what is read of version 1 is a body of it
body1_by : (limits : Limits) (bytes : List ℕ) (left : ℕ) (all : List (ℕ × ℕ)) (later : Later) → 0 < length all
    → AtRun (Behind limits None) limits.cores limits.cores 16 left bytes all later → IsBody1 limits.cores left bytes (turns_of (items all later))
body1_by limits bytes left [] later some at = absurd (omega arith)
body1_by limits bytes left (run ∷ others) later some at =
    let all : List (ℕ × ℕ) = run ∷ others in
    let whole : turns_of (items (run ∷ others) later) ≡ expand (run ∷ others) =
    turns_of_runs (run ∷ others) (later_items later) ∙ ap (λ l. expand (run ∷ others) ++ turns_of (later_items l)) at.behind.1 ∙ append-nil (expand (run ∷ others)) in
    let text : bytes ≡ lines_text 16 (run ∷ others) = at.text ∙ ap (λ a. lines_text 16 (run ∷ others) ++ a) at.behind.0 ∙ append-nil (lines_text 16 (run ∷ others)) in
    let is : IsBody1 limits.cores left bytes (expand (run ∷ others)) = record {
      text = text ∙ sym (block_of_runs run others limits.cores limits.cores left at.follow);
      some = λ none. omega (arith, ap length none, length-append (replicate run.1 run.0) (expand others), length-replicate run.1 run.0, at.follow.2);
      few = omega (arith, expand_length (run ∷ others) limits.cores limits.cores left at.follow);
      are = All-from_recursion (λ turn. turn < limits.cores) (expand (run ∷ others))
          (by_recursion limits.cores (expand (run ∷ others)) (expand_turns (run ∷ others) limits.cores limits.cores left at.follow));
    } in
    subst (λ turns. IsBody1 limits.cores left bytes turns) (sym whole) is

pub body1_from : (limits : Limits) (left : ℕ) (bytes : List ℕ) (decoded : List Item)
    → Completes limits (First (record { left = left; behind = None })) bytes decoded → IsBody1 limits.cores left bytes (turns_of decoded)
body1_from limits left bytes decoded t =
    subst (λ k. IsBody1 limits.cores left bytes (turns_of k)) (sym t.parts)
    (body1_by limits bytes left t.all t.later (omega (arith, ap length t.holds.run.parts))
    (letter_back (Behind limits None) limits.cores limits.cores 15 left bytes t.all t.later t.holds))

-- and each body of version 1 is read
pub body1_to : (limits : Limits) (left : ℕ) (bytes turns : List ℕ) → IsBody1 limits.cores left bytes turns
    → Completes limits (First (record { left = left; behind = None })) bytes (items (runs turns) [])
body1_to limits left bytes [] is = absurd (is.some refl)
body1_to limits left bytes (turn ∷ turns) is =
    let are : AreTurns limits.cores (turn ∷ turns) = are_turns limits.cores (turn ∷ turns) (recursion_from_All (λ t. t < limits.cores) (turn ∷ turns) is.are) in
    let r : AreRuns limits.cores limits.cores left turn 1 turns (runs_after turn 1 turns) =
    runs_are turns limits.cores limits.cores left turn 1 are.0 (λ e. omega (arith, are.0)) (omega arith) (omega (arith, is.few)) are.1 in
    record { all = runs (turn ∷ turns); later = []; parts = refl; holds = go (runs_after turn 1 turns) r.some r.follow is.text }
  where
    go : (all : List (ℕ × ℕ)) → 0 < length all → Follow limits.cores limits.cores left all → bytes ≡ lines_text 16 all
        → Opens (Behind limits None) limits.cores limits.cores 15 left bytes all []
    go [] some follow text = absurd (omega arith)
    go (run ∷ others) some follow text =
        opened (Behind limits None) limits.cores limits.cores 15 left bytes [] run others [] (text ∙ sym (append-nil (lines_text 16 (run ∷ others)))) follow (refl, refl)
