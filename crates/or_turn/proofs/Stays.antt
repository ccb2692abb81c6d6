-- Stays as lists of turns.
use Rattle.std.proofs.Common.{◌≡◌, ◌≢◌, ℕ, zero, suc, ◌≤◌, List, [], ◌∷◌, ◌++◌, length, replicate, All, sym, ap, ◌∙◌, arith, length-append, append_assoc}
use Rattle.std.proofs.lemmas.List.{length-replicate}
use Rattle.std.proofs.lemmas.List.Elements.{All-append}
use Rattle.or_sched.specs.Runs.{expand}
use Rattle.or_turn.specs.Schedules.{count}
use Rattle.or_turn.specs.Rule.{AreStays}
use Rattle.or_turn.proofs.Replays.{count_none, count_same, count_other, count_cons}

-- there are at most as many stays as turns
few_by_turns : (stays : List (ℕ × ℕ)) → All (λ stay. 1 ≤ stay.1) stays → length stays ≤ length (expand stays)
few_by_turns [] some = omega arith
few_by_turns (stay ∷ stays) some =
    let rest = few_by_turns stays (λ k d h. some (suc k) d (omega arith)) in let first = some 0 stay (omega arith) in let long = length-append (replicate stay.1 stay.0) (expand stays) in let turns = length-replicate stay.1 stay.0 in omega arith

pub few_stays : (stays : List (ℕ × ℕ)) (schedule : List ℕ) → AreStays stays schedule → length stays ≤ length schedule
few_stays stays schedule are = let few = few_by_turns stays are.some_turn in let same : length (expand stays) ≡ length schedule = ap (λ (l : List ℕ). length l) are.turns in omega arith

expand_more : (stays : List (ℕ × ℕ)) (c turns : ℕ) → expand (stays ++ (c, turns) ∷ []) ≡ expand stays ++ replicate turns c
expand_more [] c turns = mathlib.Core.List.append-nil (replicate turns c)
expand_more (stay ∷ stays) c turns = ap (λ (l : List ℕ). replicate stay.1 stay.0 ++ l) (expand_more stays c turns) ∙ sym (append_assoc (replicate stay.1 stay.0) (expand stays) (replicate turns c))

-- one stay more
pub stays_more : (stays : List (ℕ × ℕ)) (schedule : List ℕ) (c turns : ℕ) → AreStays stays schedule → 1 ≤ turns → AreStays (stays ++ (c, turns) ∷ []) (schedule ++ replicate turns c)
stays_more stays schedule c turns are some = record {
  some_turn = All-append (λ (stay : ℕ × ℕ). 1 ≤ stay.1) stays ((c, turns) ∷ []) are.some_turn only;
  turns = expand_more stays c turns ∙ ap (λ (l : List ℕ). l ++ replicate turns c) are.turns;
}
  where
    only : All (λ (stay : ℕ × ℕ). 1 ≤ stay.1) ((c, turns) ∷ [])
    only zero d h = some
    only (suc k) d h = absurd (omega arith)

-- a stay has turns of its core alone
pub count_stay : (c turns : ℕ) → count c (replicate turns c) ≡ turns
count_stay c zero = count_none c
count_stay c (suc turns) = let more = count_cons c c (replicate turns c) in let one = count_same c in let rest = count_stay c turns in omega arith

pub count_no_stay : (d c turns : ℕ) → c ≢ d → count d (replicate turns c) ≡ 0
count_no_stay d c zero other = count_none d
count_no_stay d c (suc turns) other = let more = count_cons d c (replicate turns c) in let none = count_other d c other in let rest = count_no_stay d c turns other in omega arith
