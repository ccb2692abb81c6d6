-- Version 2: the turns and marks of what is read.
use Rattle.std.proofs.Common.{◌≡◌, ◌∙◌, sym, ap, subst, ℕ, zero, suc, List, ◌++◌, ◌∷◌, [], ◌+◌, ◌-◌, ◌*◌, ◌≤◌, ◌<◌, min, append-nil, arith, refl, length, length-append, take, inl, inr, ◌⊎◌, Option, Some, None}
use Rattle.std.specs.Prelude.{replicate}
use Rattle.std.proofs.lemmas.Bool.{cases_lt}
use Rattle.std.proofs.lemmas.List.{length-replicate, take_at, drop_at}
use Rattle.std.proofs.lemmas.List.Elements.{All-from_recursion}
use Rattle.or_sched.specs.declared.places.Limits.{Limits}
use Rattle.or_sched.specs.declared.recording.Mark.{Mark}
use Rattle.or_sched.specs.declared.places.Place.TheVariants.{First}
use Rattle.or_sched.specs.Runs.{expand, block_text, lines_text}
use Rattle.or_sched.specs.RunRests.{Follow, left_after}
use Rattle.or_sched.proofs.RunPlaces.{AtRun}
use Rattle.or_sched.specs.Blocks.{Item, mark_line}
use Rattle.or_sched.specs.BlockRests.{Later, items, later_items, Behind, behind_of}
use Rattle.or_sched.specs.Places.{Completes, AreLimits}
use Rattle.or_sched.proofs.Body.{IsBody2}
use Rattle.or_sched.specs.Blocks.{blocks_text}
use Rattle.or_sched.specs.Schedule.{AreMarksAfter}
use Rattle.or_sched.specs.Blocks.{turns_of, marks_of}
use Rattle.or_sched.proofs.Steps.{letter_back}
use Rattle.or_sched.proofs.PlaceLemmas.{behind_whole, behind_part}
use Rattle.or_sched.proofs.Bridge.{AreTurns, block_of_runs, expand_turns, expand_length}
use Rattle.or_sched.proofs.BodyLemmas.{turns_of_runs, by_recursion}
use Rattle.or_sched.proofs.BlockTexts.{marks_of_runs}

-- these turns and marks are those of blocks behind `made` turns, of which `total` more may come
record Blocks (limits : Limits) (total made : ℕ) (bytes turns : List ℕ) (marks : List Mark) : Type 0 where
  pub text : bytes ≡ blocks_text limits.block marks turns
  pub some : 0 < length turns
  pub few : length turns ≤ total
  pub are : AreTurns limits.cores turns
  pub whole : limits.block * length marks ≤ length turns
  pub part : length turns < limits.block * length marks + limits.block
  pub numbers : AreMarksAfter limits.block made marks

turns_append : (cores : ℕ) (a b : List ℕ) → AreTurns cores a → AreTurns cores b → AreTurns cores (a ++ b)
turns_append cores [] b is_a is_b = is_b
turns_append cores (turn ∷ a) b is_a is_b = (is_a.0, turns_append cores a b is_a.1 is_b)

-- one block, behind which nothing stands
one_block : (limits : Limits) (total made : ℕ) (bytes after : List ℕ) (run : ℕ × ℕ) (others : List (ℕ × ℕ)) → bytes ≡ lines_text 16 (run ∷ others) ++ after → after ≡ []
    → Follow limits.cores limits.cores (min total limits.block) (run ∷ others) → length (expand (run ∷ others)) < limits.block
    → Blocks limits total made bytes (expand (run ∷ others)) []
one_block limits total made bytes after run others text none follow part = record {
  text = text ∙ ap (λ a. lines_text 16 (run ∷ others) ++ a) none ∙ append-nil (lines_text 16 (run ∷ others))
      ∙ sym (block_of_runs run others limits.cores limits.cores (min total limits.block) follow);
  some = omega (arith, length-append (replicate run.1 run.0) (expand others), length-replicate run.1 run.0, follow.2);
  few = omega (arith, expand_length (run ∷ others) limits.cores limits.cores (min total limits.block) follow);
  are = expand_turns (run ∷ others) limits.cores limits.cores (min total limits.block) follow;
  whole = omega arith;
  part = omega arith;
  numbers = tt;
}

-- a whole block, its mark and what stands behind it
more_blocks : (limits : Limits) (total made : ℕ) (bytes text rest : List ℕ) (run : ℕ × ℕ) (others : List (ℕ × ℕ)) (mark : Mark) (marks : List Mark) (turns : List ℕ)
    → 1 ≤ limits.block → limits.block ≤ total
    → bytes ≡ lines_text 16 (run ∷ others) ++ (mark_line mark ++ rest) → Follow limits.cores limits.cores (min total limits.block) (run ∷ others)
    → length (expand (run ∷ others)) ≡ limits.block → mark.writes ≤ made + limits.block → mark.console ≤ made + limits.block
    → rest ≡ blocks_text limits.block marks turns → length turns ≤ total - limits.block → AreTurns limits.cores turns
    → limits.block * length marks ≤ length turns → length turns < limits.block * length marks + limits.block → AreMarksAfter limits.block (made + limits.block) marks
    → Blocks limits total made bytes (expand (run ∷ others) ++ turns) (mark ∷ marks)
more_blocks limits total made bytes text rest run others mark marks turns block fits e follow long writes console rest_is few are whole part numbers =
    let product : limits.block * length (mark ∷ marks) ≡ limits.block * length marks + limits.block = omega arith in
    record {
      text = e ∙ ap (λ r. lines_text 16 (run ∷ others) ++ (mark_line mark ++ r)) rest_is
          ∙ ap (λ t. t ++ (mark_line mark ++ blocks_text limits.block marks turns)) (sym (block_of_runs run others limits.cores limits.cores (min total limits.block) follow))
          ∙ ap (λ t. block_text t ++ (mark_line mark ++ blocks_text limits.block marks turns)) (sym (take_at (expand (run ∷ others)) turns limits.block long))
          ∙ ap (λ t. block_text (take limits.block (expand (run ∷ others) ++ turns)) ++ (mark_line mark ++ blocks_text limits.block marks t)) (sym (drop_at (expand (run ∷ others)) turns limits.block long));
      some = omega (arith, length-append (expand (run ∷ others)) turns, long);
      few = omega (arith, length-append (expand (run ∷ others)) turns, long);
      are = turns_append limits.cores (expand (run ∷ others)) turns (expand_turns (run ∷ others) limits.cores limits.cores (min total limits.block) follow) are;
      whole = omega (arith, length-append (expand (run ∷ others)) turns, long, product);
      part = omega (arith, length-append (expand (run ∷ others)) turns, long, product);
      numbers = (writes, console, numbers);
    }

blocks_more : (later : Later) (limits : Limits) (total made turns : ℕ) (bytes after : List ℕ) (run : ℕ × ℕ) (others : List (ℕ × ℕ)) (mark : Mark) (next : ℕ × ℕ) (more : List (ℕ × ℕ)) (rest : List ℕ)
    → AreLimits limits → made + total ≡ limits.turns → Some turns ≡ behind_of limits total → zero ≡ left_after (min total limits.block) (run ∷ others)
    → bytes ≡ lines_text 16 (run ∷ others) ++ after → Follow limits.cores limits.cores (min total limits.block) (run ∷ others)
    → after ≡ mark_line mark ++ (lines_text 16 (next ∷ more) ++ rest) → mark.writes ≤ limits.turns - turns → mark.console ≤ limits.turns - turns → (total < limits.block) ⊎ (limits.block ≤ total)
    → ((before total_next : ℕ) → before + total_next ≡ limits.turns → turns ≡ total_next
    → Blocks limits total_next before (lines_text 16 (next ∷ more) ++ rest) (expand (next ∷ more) ++ turns_of (later_items later)) (marks_of (later_items later)))
    → Blocks limits total made bytes (expand (run ∷ others) ++ turns_of (later_items ((mark, next ∷ more) ∷ later))) (marks_of (later_items ((mark, next ∷ more) ∷ later)))
blocks_more later limits total made turns bytes after run others mark next more rest are sum is_behind is_left text follow line writes console (inl lt) r =
    let no : Some turns ≡ None = is_behind ∙ behind_part limits total lt in cc
blocks_more later limits total made turns bytes after run others mark next more rest are sum is_behind is_left text follow line writes console (inr le) r =
    let whole : Some turns ≡ Some (total - limits.block) = is_behind ∙ behind_whole limits total le in
    let same : turns ≡ total - limits.block = cc in
    let long : length (expand (run ∷ others)) ≡ limits.block = omega (arith, is_left, expand_length (run ∷ others) limits.cores limits.cores (min total limits.block) follow) in
    let n : Blocks limits (total - limits.block) (made + limits.block) (lines_text 16 (next ∷ more) ++ rest) (expand (next ∷ more) ++ turns_of (later_items later)) (marks_of (later_items later)) =
    r (made + limits.block) (total - limits.block) (omega arith) same in
    let turns_are : turns_of (items (next ∷ more) later) ≡ expand (next ∷ more) ++ turns_of (later_items later) = turns_of_runs (next ∷ more) (later_items later) in
    let marks_are : marks_of (items (next ∷ more) later) ≡ marks_of (later_items later) = marks_of_runs (next ∷ more) (later_items later) in
    subst (λ t. Blocks limits total made bytes (expand (run ∷ others) ++ t) (mark ∷ marks_of (items (next ∷ more) later))) (sym turns_are)
    (subst (λ m. Blocks limits total made bytes (expand (run ∷ others) ++ (expand (next ∷ more) ++ turns_of (later_items later))) (mark ∷ m)) (sym marks_are)
    (more_blocks limits total made bytes after (lines_text 16 (next ∷ more) ++ rest) run others mark (marks_of (later_items later)) (expand (next ∷ more) ++ turns_of (later_items later)) are.block le
    (text ∙ ap (λ a. lines_text 16 (run ∷ others) ++ a) line) follow long (omega (arith, same, writes)) (omega (arith, same, console)) n.text n.few n.are n.whole n.part n.numbers))

blocks_from : (later : Later) (limits : Limits) (total made left : ℕ) (behind : Option ℕ) (bytes after : List ℕ) (run : ℕ × ℕ) (others : List (ℕ × ℕ))
    → AreLimits limits → made + total ≡ limits.turns → behind ≡ behind_of limits total → left ≡ left_after (min total limits.block) (run ∷ others)
    → bytes ≡ lines_text 16 (run ∷ others) ++ after → Follow limits.cores limits.cores (min total limits.block) (run ∷ others)
    → Behind limits behind left after later
    → Blocks limits total made bytes (expand (run ∷ others) ++ turns_of (later_items later)) (marks_of (later_items later))
blocks_from later limits total made left None bytes after run others are sum is_behind is_left text follow b = go (cases_lt total limits.block)
  where
    go : (total < limits.block) ⊎ (limits.block ≤ total) → Blocks limits total made bytes (expand (run ∷ others) ++ turns_of (later_items later)) (marks_of (later_items later))
    go (inl lt) =
        subst (λ l. Blocks limits total made bytes (expand (run ∷ others) ++ turns_of (later_items l)) (marks_of (later_items l))) (sym b.1)
        (subst (λ t. Blocks limits total made bytes t []) (sym (append-nil (expand (run ∷ others))))
        (one_block limits total made bytes after run others text b.0 follow
        (omega (arith, expand_length (run ∷ others) limits.cores limits.cores (min total limits.block) follow))))
    go (inr le) = let no : None ≡ Some (total - limits.block) = is_behind ∙ behind_whole limits total le in cc
blocks_from later limits total made (suc left) (Some turns) bytes after run others are sum is_behind is_left text follow b =
    subst (λ l. Blocks limits total made bytes (expand (run ∷ others) ++ turns_of (later_items l)) (marks_of (later_items l))) (sym b.1)
    (subst (λ t. Blocks limits total made bytes t []) (sym (append-nil (expand (run ∷ others))))
    (one_block limits total made bytes after run others text b.0 follow
    (omega (arith, is_left, expand_length (run ∷ others) limits.cores limits.cores (min total limits.block) follow))))
blocks_from [] limits total made zero (Some turns) bytes after run others are sum is_behind is_left text follow b = absurd b
blocks_from ((mark, []) ∷ later) limits total made zero (Some turns) bytes after run others are sum is_behind is_left text follow b = go (cases_lt total limits.block)
  where
    go : (total < limits.block) ⊎ (limits.block ≤ total) → Blocks limits total made bytes (expand (run ∷ others) ++ turns_of (inr mark ∷ later_items later)) (mark ∷ marks_of (later_items later))
    go (inl lt) = let no : Some turns ≡ None = is_behind ∙ behind_part limits total lt in cc
    go (inr le) =
        let whole : Some turns ≡ Some (total - limits.block) = is_behind ∙ behind_whole limits total le in
        let same : turns ≡ total - limits.block = cc in
        let long : length (expand (run ∷ others)) ≡ limits.block = omega (arith, is_left, expand_length (run ∷ others) limits.cores limits.cores (min total limits.block) follow) in
        subst (λ l. Blocks limits total made bytes (expand (run ∷ others) ++ turns_of (later_items l)) (mark ∷ marks_of (later_items l))) (sym b.3)
        (more_blocks limits total made bytes after [] run others mark [] [] are.block le
        (text ∙ ap (λ a. lines_text 16 (run ∷ others) ++ a) (b.0 ∙ sym (append-nil (mark_line mark)))) follow long
        (omega (arith, same, b.1)) (omega (arith, same, b.2)) refl (omega arith) tt (omega arith) (omega (arith, are.block)) tt)
blocks_from ((mark, next ∷ more) ∷ later) limits total made zero (Some turns) bytes after run others are sum is_behind is_left text follow b =
    blocks_more later limits total made turns bytes after run others mark next more b.0 are sum is_behind is_left text follow b.1 b.2 b.3 (cases_lt total limits.block)
    (λ before total_next is_sum is_total. blocks_from later limits total_next before (left_after (min turns limits.block) (next ∷ more)) (behind_of limits turns)
    (lines_text 16 (next ∷ more) ++ b.0) b.0 next more are is_sum (ap (behind_of limits) is_total)
    (ap (λ k. left_after (min k limits.block) (next ∷ more)) is_total) refl (subst (λ k. Follow limits.cores limits.cores (min k limits.block) (next ∷ more)) is_total b.4) b.5)

-- what is read of version 2 is a body of it
pub body2_from : (limits : Limits) (bytes : List ℕ) (decoded : List Item) → AreLimits limits
    → Completes limits (First (record { left = min limits.turns limits.block; behind = behind_of limits limits.turns })) bytes decoded
    → IsBody2 limits.cores limits.turns limits.block bytes (turns_of decoded) (marks_of decoded)
body2_from limits bytes decoded are t =
    subst (λ k. IsBody2 limits.cores limits.turns limits.block bytes (turns_of k) (marks_of k)) (sym t.parts)
    (by t.all t.later (omega (arith, ap length t.holds.run.parts))
    (letter_back (Behind limits (behind_of limits limits.turns)) limits.cores limits.cores 15 (min limits.turns limits.block) bytes t.all t.later t.holds))
  where
    by : (all : List (ℕ × ℕ)) (later : Later) → 0 < length all
        → AtRun (Behind limits (behind_of limits limits.turns)) limits.cores limits.cores 16 (min limits.turns limits.block) bytes all later
        → IsBody2 limits.cores limits.turns limits.block bytes (turns_of (items all later)) (marks_of (items all later))
    by [] later some at = absurd (omega arith)
    by (run ∷ others) later some at =
        let b : Blocks limits limits.turns 0 bytes (expand (run ∷ others) ++ turns_of (later_items later)) (marks_of (later_items later)) =
        blocks_from later limits limits.turns 0 (left_after (min limits.turns limits.block) (run ∷ others)) (behind_of limits limits.turns) bytes at.after run others are (omega arith) refl refl at.text at.follow at.behind in
        let turns_are : turns_of (items (run ∷ others) later) ≡ expand (run ∷ others) ++ turns_of (later_items later) = turns_of_runs (run ∷ others) (later_items later) in
        let marks_are : marks_of (items (run ∷ others) later) ≡ marks_of (later_items later) = marks_of_runs (run ∷ others) (later_items later) in
        subst (λ turns. IsBody2 limits.cores limits.turns limits.block bytes turns (marks_of (items (run ∷ others) later))) (sym turns_are)
        (subst (λ m. IsBody2 limits.cores limits.turns limits.block bytes (expand (run ∷ others) ++ turns_of (later_items later)) m) (sym marks_are)
        (record {
          text = b.text;
          some = λ none. omega (arith, ap length none, b.some);
          few = b.few;
          are = All-from_recursion (λ turn. turn < limits.cores) (expand (run ∷ others) ++ turns_of (later_items later)) (by_recursion limits.cores (expand (run ∷ others) ++ turns_of (later_items later)) b.are);
          whole = b.whole;
          part = b.part;
          numbers = b.numbers;
        }))
