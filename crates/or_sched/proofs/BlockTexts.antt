-- Version 2 by turns.
use Rattle.std.proofs.Common.{◌≡◌, ◌∙◌, sym, ap, subst, ℕ, zero, suc, List, ◌++◌, ◌∷◌, [], ◌+◌, ◌-◌, ◌*◌, ◌≤◌, ◌<◌, min, append-nil, arith, refl, length, length-drop, take, drop, inl, inr, ◌⊎◌, Some}
use Rattle.std.specs.Prelude.{map}
use Rattle.std.proofs.lemmas.Bool.{cases_lt}
use Rattle.std.proofs.lemmas.List.{length-take-le, take-append-drop}
use Rattle.std.proofs.lemmas.List.Elements.{recursion_from_All}
use Rattle.or_sched.specs.declared.places.Limits.{Limits}
use Rattle.or_sched.specs.declared.recording.Mark.{Mark}
use Rattle.or_sched.specs.declared.places.Place.TheVariants.{First}
use Rattle.or_sched.specs.Runs.{expand, runs, runs_after, block_text, lines_text}
use Rattle.or_sched.specs.RunRests.{Follow, left_after}
use Rattle.or_sched.specs.Blocks.{Item, run_item, mark_line}
use Rattle.or_sched.specs.BlockRests.{Later, items, later_items, Behind, behind_of}
use Rattle.or_sched.specs.Places.{Completes, AreLimits}
use Rattle.or_sched.proofs.Body.{IsBody2}
use Rattle.or_sched.specs.Blocks.{blocks_text, blocks_items}
use Rattle.or_sched.specs.Schedule.{AreMarksAfter}
use Rattle.or_sched.specs.Blocks.{turns_of, marks_of}
use Rattle.or_sched.proofs.Steps.{opened}
use Rattle.or_sched.proofs.PlaceLemmas.{is_nothing_behind, behind_whole, behind_part}
use Rattle.or_sched.proofs.Bridge.{AreTurns, AreRuns, runs_are}
use Rattle.or_sched.proofs.BodyLemmas.{turns_of_runs, are_turns}

-- the runs of a block's turns
pub record BlockRuns (cores left : ℕ) (turns : List ℕ) : Type 0 where
  pub run : ℕ × ℕ
  pub others : List (ℕ × ℕ)
  pub text : block_text turns ≡ lines_text 16 (run ∷ others)
  pub follow : Follow cores cores left (run ∷ others)
  pub after : left_after left (run ∷ others) ≡ left - length turns
  pub whole : expand (run ∷ others) ≡ turns
  pub is : runs turns ≡ run ∷ others

block_runs_by : (cores left turn : ℕ) (turns : List ℕ) (all : List (ℕ × ℕ)) → runs_after turn 1 turns ≡ all → AreRuns cores cores left turn 1 turns all → BlockRuns cores left (turn ∷ turns)
block_runs_by cores left turn turns [] e r = absurd (omega (arith, r.some))
block_runs_by cores left turn turns (run ∷ others) e r =
    record { run = run; others = others; text = ap (lines_text 16) e; follow = r.follow; after = omega (arith, r.after); whole = r.whole; is = e }

pub block_runs : (cores left : ℕ) (turns : List ℕ) → 0 < length turns → length turns ≤ left → AreTurns cores turns → BlockRuns cores left turns
block_runs cores left [] some fits are = absurd (omega arith)
block_runs cores left (turn ∷ turns) some fits are =
    block_runs_by cores left turn turns (runs_after turn 1 turns) refl
    (runs_are turns cores cores left turn 1 are.0 (λ e. omega (arith, are.0)) (omega arith) (omega arith) are.1)

-- behind a block that isn't whole stands nothing
part_behind : (limits : Limits) (total n : ℕ) → n ≤ min total limits.block → n < limits.block → Behind limits (behind_of limits total) (min total limits.block - n) [] []
part_behind limits total n fits part = go (cases_lt total limits.block)
  where
    go : (total < limits.block) ⊎ (limits.block ≤ total) → Behind limits (behind_of limits total) (min total limits.block - n) [] []
    go (inl lt) = subst (λ o. Behind limits o (min total limits.block - n) [] []) (sym (behind_part limits total lt)) (refl, refl)
    go (inr le) = is_nothing_behind limits (behind_of limits total) (min total limits.block - n) (omega arith)

-- blocks of turns, as runs and marks
record BlocksTo (limits : Limits) (total : ℕ) (bytes turns : List ℕ) (marks : List Mark) : Type 0 where
  pub run : ℕ × ℕ
  pub others : List (ℕ × ℕ)
  pub later : Later
  pub after : List ℕ
  pub text : bytes ≡ lines_text 16 (run ∷ others) ++ after
  pub follow : Follow limits.cores limits.cores (min total limits.block) (run ∷ others)
  pub behind : Behind limits (behind_of limits total) (left_after (min total limits.block) (run ∷ others)) after later
  pub turns_are : turns_of (items (run ∷ others) later) ≡ turns
  pub marks_are : marks_of (items (run ∷ others) later) ≡ marks
  pub items_are : items (run ∷ others) later ≡ blocks_items limits.block marks turns

pub marks_of_runs : (all : List (ℕ × ℕ)) (decoded : List Item) → marks_of (map run_item all ++ decoded) ≡ marks_of decoded
marks_of_runs [] decoded = refl
marks_of_runs (run ∷ others) decoded = marks_of_runs others decoded

pub are_take : (cores n : ℕ) (turns : List ℕ) → AreTurns cores turns → AreTurns cores (take n turns)
are_take cores zero turns are = tt
are_take cores (suc n) [] are = tt
are_take cores (suc n) (turn ∷ turns) are = (are.0, are_take cores n turns are.1)

pub are_drop : (cores n : ℕ) (turns : List ℕ) → AreTurns cores turns → AreTurns cores (drop n turns)
are_drop cores zero turns are = are
are_drop cores (suc n) [] are = tt
are_drop cores (suc n) (turn ∷ turns) are = are_drop cores n turns are.1

last_block : (limits : Limits) (total : ℕ) (bytes turns : List ℕ) → 0 < length turns → length turns ≤ total → length turns < limits.block → AreTurns limits.cores turns
    → bytes ≡ block_text turns → BlocksTo limits total bytes turns []
last_block limits total bytes turns some fits part are text =
    let r : BlockRuns limits.cores (min total limits.block) turns = block_runs limits.cores (min total limits.block) turns some (omega arith) are in
    record {
      run = r.run;
      others = r.others;
      later = [];
      after = [];
      text = text ∙ r.text ∙ sym (append-nil (lines_text 16 (r.run ∷ r.others)));
      follow = r.follow;
      behind = subst (λ k. Behind limits (behind_of limits total) k [] []) (sym r.after) (part_behind limits total (length turns) (omega arith) part);
      turns_are = turns_of_runs (r.run ∷ r.others) [] ∙ append-nil (expand (r.run ∷ r.others)) ∙ r.whole;
      marks_are = marks_of_runs (r.run ∷ r.others) [];
      items_are = append-nil (map run_item (r.run ∷ r.others)) ∙ ap (map run_item) (sym r.is);
    }

-- a whole block, its mark, and what stands behind it
record Onwards (limits : Limits) (total : ℕ) (mark : Mark) (text turns : List ℕ) (marks : List Mark) : Type 0 where
  pub later : Later
  pub behind : Behind limits (Some total) 0 text later
  pub turns_are : turns_of (later_items later) ≡ turns
  pub marks_are : marks_of (later_items later) ≡ mark ∷ marks
  pub items_are : later_items later ≡ inr mark ∷ blocks_items limits.block marks turns

first_block : (limits : Limits) (total : ℕ) (bytes turns text : List ℕ) (mark : Mark) (marks : List Mark) → 1 ≤ limits.block → limits.block ≤ length turns → length turns ≤ total → AreTurns limits.cores turns
    → bytes ≡ block_text (take limits.block turns) ++ text → Onwards limits (total - limits.block) mark text (drop limits.block turns) marks → BlocksTo limits total bytes turns (mark ∷ marks)
first_block limits total bytes turns text mark marks some whole fits are e o =
    let long : length (take limits.block turns) ≡ limits.block = length-take-le limits.block turns whole in
    let left : limits.block ≡ min total limits.block = omega arith in
    let r : BlockRuns limits.cores (min total limits.block) (take limits.block turns) =
    block_runs limits.cores (min total limits.block) (take limits.block turns) (omega (arith, long)) (omega (arith, long)) (are_take limits.cores limits.block turns are) in
    let none : left_after (min total limits.block) (r.run ∷ r.others) ≡ 0 = omega (arith, r.after, long) in
    record {
      run = r.run;
      others = r.others;
      later = o.later;
      after = text;
      text = e ∙ ap (λ t. t ++ text) r.text;
      follow = r.follow;
      behind = subst (λ k. Behind limits (behind_of limits total) k text o.later) (sym none)
          (subst (λ b. Behind limits b 0 text o.later) (sym (behind_whole limits total (omega arith))) o.behind);
      turns_are = turns_of_runs (r.run ∷ r.others) (later_items o.later) ∙ ap (λ t. expand (r.run ∷ r.others) ++ t) o.turns_are
          ∙ ap (λ t. t ++ drop limits.block turns) r.whole ∙ take-append-drop limits.block turns;
      marks_are = marks_of_runs (r.run ∷ r.others) (later_items o.later) ∙ o.marks_are;
      items_are = ap (λ l. map run_item (r.run ∷ r.others) ++ l) o.items_are
          ∙ ap (λ a. map run_item a ++ inr mark ∷ blocks_items limits.block marks (drop limits.block turns)) (sym r.is);
    }

onwards_some : (limits : Limits) (total made : ℕ) (turns : List ℕ) (mark : Mark) (marks : List Mark) → made + total ≡ limits.turns → mark.writes ≤ made → mark.console ≤ made
    → BlocksTo limits total (blocks_text limits.block marks turns) turns marks → Onwards limits total mark (mark_line mark ++ blocks_text limits.block marks turns) turns marks
onwards_some limits total made turns mark marks sum writes console r = record {
  later = (mark, r.run ∷ r.others) ∷ r.later;
  behind = (r.after, ap (λ t. mark_line mark ++ t) r.text, omega arith, omega arith, r.follow, r.behind);
  turns_are = r.turns_are;
  marks_are = ap (λ m. mark ∷ m) r.marks_are;
  items_are = ap (λ l. inr mark ∷ l) r.items_are;
}

onwards_none : (limits : Limits) (total made : ℕ) (mark : Mark) → made + total ≡ limits.turns → mark.writes ≤ made → mark.console ≤ made
    → Onwards limits total mark (mark_line mark ++ []) [] []
onwards_none limits total made mark sum writes console = record {
  later = (mark, []) ∷ [];
  behind = (append-nil (mark_line mark), omega arith, omega arith, refl);
  turns_are = refl;
  marks_are = refl;
  items_are = refl;
}

onwards_by : (limits : Limits) (total made : ℕ) (turns : List ℕ) (mark : Mark) (marks : List Mark) → 1 ≤ limits.block → made + total ≡ limits.turns → mark.writes ≤ made → mark.console ≤ made
    → limits.block * length marks ≤ length turns
    → (0 < length turns → BlocksTo limits total (blocks_text limits.block marks turns) turns marks) → Onwards limits total mark (mark_line mark ++ blocks_text limits.block marks turns) turns marks
onwards_by limits total made [] mark [] block sum writes console fits r = onwards_none limits total made mark sum writes console
onwards_by limits total made [] mark (next ∷ marks) block sum writes console fits r = absurd (too_many limits.block (length marks) block fits)
  where
    too_many : (block n : ℕ) → 1 ≤ block → block * suc n ≤ 0 → ⊥
    too_many (suc block) n some fits = omega arith
    too_many zero n some fits = omega arith
onwards_by limits total made (turn ∷ turns) mark marks block sum writes console fits r =
    onwards_some limits total made (turn ∷ turns) mark marks sum writes console (r (omega arith))

blocks_to : (marks : List Mark) (limits : Limits) (total made : ℕ) (bytes turns : List ℕ) → AreLimits limits → made + total ≡ limits.turns → 0 < length turns → length turns ≤ total
    → AreTurns limits.cores turns → limits.block * length marks ≤ length turns → length turns < limits.block * length marks + limits.block → AreMarksAfter limits.block made marks
    → bytes ≡ blocks_text limits.block marks turns → BlocksTo limits total bytes turns marks
blocks_to [] limits total made bytes turns are sum some fits are_t whole part are_m text = last_block limits total bytes turns some fits (omega arith) are_t text
blocks_to (mark ∷ marks) limits total made bytes turns are sum some fits are_t whole part are_m text =
    let more : limits.block * length (mark ∷ marks) ≡ limits.block * length marks + limits.block = omega arith in
    let rest : length (drop limits.block turns) ≡ length turns - limits.block = length-drop limits.block turns in
    first_block limits total bytes turns (mark_line mark ++ blocks_text limits.block marks (drop limits.block turns)) mark marks are.block (omega arith) fits are_t text
    (onwards_by limits (total - limits.block) (made + limits.block) (drop limits.block turns) mark marks are.block (omega arith) are_m.0 are_m.1 (omega arith)
    (λ some_rest. blocks_to marks limits (total - limits.block) (made + limits.block) (blocks_text limits.block marks (drop limits.block turns)) (drop limits.block turns)
    are (omega arith) some_rest (omega arith) (are_drop limits.cores limits.block turns are_t) (omega arith) (omega arith) are_m.2 refl))

-- each body of version 2 is read, and tells of its turns and marks
pub body2_to : (limits : Limits) (bytes turns : List ℕ) (marks : List Mark) → AreLimits limits → IsBody2 limits.cores limits.turns limits.block bytes turns marks
    → (decoded : List Item) × Completes limits (First (record { left = min limits.turns limits.block; behind = behind_of limits limits.turns })) bytes decoded × (turns_of decoded ≡ turns) × (marks_of decoded ≡ marks)
    × (decoded ≡ blocks_items limits.block marks turns)
body2_to limits bytes [] marks are is = absurd (is.some refl)
body2_to limits bytes (turn ∷ turns) marks are is =
    let r : BlocksTo limits limits.turns bytes (turn ∷ turns) marks =
    blocks_to marks limits limits.turns 0 bytes (turn ∷ turns) are (omega arith) (omega arith) is.few
    (are_turns limits.cores (turn ∷ turns) (recursion_from_All (λ t. t < limits.cores) (turn ∷ turns) is.are)) is.whole is.part is.numbers is.text in (
      items (r.run ∷ r.others) r.later,
      record {
        all = r.run ∷ r.others;
        later = r.later;
        parts = refl;
        holds = opened (Behind limits (behind_of limits limits.turns)) limits.cores limits.cores 15 (min limits.turns limits.block) bytes r.after r.run r.others r.later r.text r.follow r.behind;
      },
      r.turns_are,
      r.marks_are,
      r.items_are,
    )
