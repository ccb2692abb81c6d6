-- A drawn schedule that is made further.
use Rattle.std.proofs.Common.{◌≡◌, ℕ, ◌+◌, ◌<◌, ◌≤◌, zero, suc, List, [], ◌∷◌, ◌++◌, Some, None, length, refl, ap, sym, ◌∙◌, subst, true, false, cond, append_assoc, append-nil, arith}
use Rattle.std.specs.Prelude.{Option, Ok, Err, is_none}
use Rattle.or_model.specs.declared.Stop.{Stop}
use Rattle.or_model.specs.Core.{Core}
use Rattle.or_model.specs.Turn.{Board, board_turned, replay}
use Rattle.or_bus.specs.State.{BusState}
use Rattle.or_replay.specs.Board.{IsBoard, IsTurned, RefusedBy, RunsAt, steps_left, all_stopped}
use Rattle.or_replay.specs.Marks.{marks, with_mark}
use Rattle.or_replay.specs.declared.board.Refused.{Refused}
use Rattle.or_replay.specs.declared.board.Refused.TheVariants.{NoSuchCore, CoreStopped}
use Rattle.or_replay.proofs.Replaying.{replay_one_more, marks_longer, marks_none}
use Rattle.or_replay.proofs.Followable.{get_some}
use Rattle.or_hunt.specs.declared.made.Made.{Made}
use Rattle.or_hunt.specs.Draws.{next_state}
use Rattle.or_hunt.specs.Drawn.{stretch, stretches, drawn_stretch, turns_on}
use Rattle.or_hunt.specs.Making.{IsMade, IsLonger, IsStretched, IsWhole}

-- a stretch was begun, of which at most so many turns are left
pub record IsStretching (start : Board) (old new : Made) (cores : List Core) (bus : BusState) (c : ℕ) (now : Board) (most left : ℕ) : Type 0 where
  pub done : List ℕ
  pub so_far : IsStretched start old new cores bus now done
  pub rest : stretch most c now ≡ done ++ stretch left c so_far.next

-- the first stretches of a drawn schedule were made, behind which this is the state of the draws
pub record IsUnderWay (start : Board) (greatest : List ℕ) (first x : ℕ) (made : Made) (cores : List Core) (bus : BusState) : Type 0 where
  pub now : Board
  pub is_made : IsMade start made cores bus now
  pub left : ℕ
  pub enough : steps_left cores ≤ left
  pub rest : stretches (steps_left start.cores) greatest first start ≡ made.turns.items ++ stretches left greatest x now

-- a turn that was made is added
pub longer_by : (start now : Board) (turned : Option Board) (old new : Made) (new_cores : List Core) (new_bus : BusState) (c : ℕ) (done : Unit {0})
    (cores : List Core) (bus : BusState) → board_turned now c ≡ turned → IsMade start old cores bus now → IsTurned turned (Ok done) new_cores new_bus
    → new.turns.items ≡ old.turns.items ++ c ∷ []
    → ((next : Board) → IsBoard new_cores new_bus next → new.marks.items ≡ with_mark (length old.turns.items + 1) next.world old.marks.items)
    → IsLonger start old new new_cores new_bus c now
longer_by start now None old new new_cores new_bus c done cores bus is made turned longer marked = absurd turned
longer_by start now (Some next) old new new_cores new_bus c done cores bus is made turned longer marked =
    let reached : replay start (old.turns.items ++ c ∷ []) ≡ Some next = replay_one_more start now next old.turns.items c made.reached is in
    record {
      next = next;
      turned = is;
      is_made = record {
        reached = ap (replay start) longer ∙ reached;
        marked = marked next turned ∙ ap (with_mark (length old.turns.items + 1) next.world) made.marked
            ∙ sym (marks_longer start next old.turns.items c reached) ∙ sym (ap (marks start) longer);
        is = turned;
      };
      longer = longer;
    }

pub not_turned : (turned : Option Board) (refused : Refused) (cores : List Core) (bus : BusState) → IsTurned {T = Unit {0}} turned (Err refused) cores bus → turned ≡ None
not_turned None refused cores bus is = refl
not_turned (Some next) refused cores bus is = absurd is

-- a core that runs is not refused
pub no_refusal : (cores : List Core) (c : ℕ) (refused : Refused) → RefusedBy {T = Unit {0}} cores c (Err refused) → RunsAt cores c → ⊥
no_refusal cores c NoSuchCore why runs = absurd (omega (arith, why, runs.0))
no_refusal cores c CoreStopped why runs =
    let found = get_some cores c runs.0 in
    let e : true ≡ false = sym (ap (λ (stop : Option Stop). is_none stop) (runs.1 found.0 found.1)) ∙ why.1 found.0 found.1 in
    let b : ⊥ = cc in b

-- no turn of the stretch was made yet
pub stretching_first : (start : Board) (made : Made) (cores : List Core) (bus : BusState) (c : ℕ) (now : Board) (most : ℕ) → IsMade start made cores bus now
    → IsStretching start made made cores bus c now most most
stretching_first start made cores bus c now most is = record {
  done = [];
  so_far = record { next = now; is_made = is; longer = sym (append-nil made.turns.items); stretched = refl };
  rest = refl;
}

-- one turn more of it
pub stretching_on : (start : Board) (old mid new : Made) (cores new_cores : List Core) (bus new_bus : BusState) (c : ℕ) (now : Board) (most left less : ℕ)
    → left ≡ suc less → IsStretching start old mid cores bus c now most left
    → ((here : Board) → IsMade start mid cores bus here → IsLonger start mid new new_cores new_bus c here)
    → IsStretching start old new new_cores new_bus c now most less
stretching_on start old mid new cores new_cores bus new_bus c now most left less e is advances =
    let at = is.so_far in
    let one = advances at.next at.is_made in
    let rest : stretch (suc less) c at.next ≡ c ∷ stretch less c one.next = ap (λ b. turns_on b (λ next. c ∷ stretch less c next)) one.turned in
    record {
      done = is.done ++ c ∷ [];
      so_far = record {
        next = one.next;
        is_made = one.is_made;
        longer = one.longer ∙ ap (λ l. l ++ c ∷ []) at.longer ∙ append_assoc old.turns.items is.done (c ∷ []);
        stretched = replay_one_more now at.next one.next is.done c at.stretched one.turned;
      };
      rest = is.rest ∙ ap (λ k. is.done ++ stretch k c at.next) e ∙ ap (λ l. is.done ++ l) rest ∙ sym (append_assoc is.done (c ∷ []) (stretch less c one.next));
    }

stretched_whole : (start : Board) (old new : Made) (cores : List Core) (bus : BusState) (c : ℕ) (now : Board) (most : ℕ) (done : List ℕ)
    → IsStretched start old new cores bus now done → stretch most c now ≡ done → IsStretched start old new cores bus now (stretch most c now)
stretched_whole start old new cores bus c now most done is whole = subst (IsStretched start old new cores bus now) (sym whole) is

-- all its turns
pub stretching_ends : (start : Board) (old new : Made) (cores : List Core) (bus : BusState) (c : ℕ) (now : Board) (most left : ℕ) → left ≡ 0
    → IsStretching start old new cores bus c now most left → IsStretched start old new cores bus now (stretch most c now)
stretching_ends start old new cores bus c now most left e is =
    stretched_whole start old new cores bus c now most is.done is.so_far
    (is.rest ∙ ap (λ k. is.done ++ stretch k c is.so_far.next) e ∙ append-nil is.done)

no_stretch : (left c : ℕ) (board : Board) → board_turned board c ≡ None → stretch left c board ≡ []
no_stretch zero c board none = refl
no_stretch (suc left) c board none = ap (λ b. turns_on b (λ next. c ∷ stretch left c next)) none

-- or those until the core has stopped
pub stretching_stops : (start : Board) (old mid new : Made) (cores new_cores : List Core) (bus new_bus : BusState) (c : ℕ) (now : Board) (most left : ℕ)
    → IsStretching start old mid cores bus c now most left
    → ((here : Board) → IsMade start mid cores bus here → (board_turned here c ≡ None) × IsMade start new new_cores new_bus here × (new.turns.items ≡ mid.turns.items))
    → IsStretched start old new new_cores new_bus now (stretch most c now)
stretching_stops start old mid new cores new_cores bus new_bus c now most left is stops =
    let at = is.so_far in
    let stopped = stops at.next at.is_made in
    stretched_whole start old new new_cores new_bus c now most is.done
    (record { next = at.next; is_made = stopped.1; longer = stopped.2 ∙ at.longer; stretched = at.stretched })
    (is.rest ∙ ap (λ l. is.done ++ l) (no_stretch left c at.next stopped.0) ∙ append-nil is.done)

-- no stretch was made yet
pub under_way_first : (start : Board) (greatest : List ℕ) (first : ℕ) (made : Made) (cores : List Core) (bus : BusState) → IsBoard cores bus start
    → made.turns.items ≡ [] → made.marks.items ≡ [] → IsUnderWay start greatest first first made cores bus
under_way_first start greatest first made cores bus is no_turn no_mark = record {
  now = start;
  is_made = record {
    reached = ap (replay start) no_turn;
    marked = no_mark ∙ sym (marks_none start) ∙ sym (ap (marks start) no_turn);
    is = is;
  };
  left = steps_left start.cores;
  enough = let e = ap steps_left is.same_cores in omega (arith, e);
  rest = sym (ap (λ l. l ++ stretches (steps_left start.cores) greatest first start) no_turn);
}

-- the stretch that is drawn next is made
under_way_by : (start : Board) (greatest : List ℕ) (first x : ℕ) (old new : Made) (new_cores : List Core) (new_bus : BusState) (now : Board) (left : ℕ)
    → stretches (steps_left start.cores) greatest first start ≡ old.turns.items ++ stretches left greatest x now
    → all_stopped now.cores ≡ false → steps_left new_cores < left
    → IsStretched start old new new_cores new_bus now (drawn_stretch greatest (next_state x) now)
    → IsUnderWay start greatest first (next_state x) new new_cores new_bus
under_way_by start greatest first x old new new_cores new_bus now zero rest runs fewer made = absurd (omega (arith, fewer))
under_way_by start greatest first x old new new_cores new_bus now (suc left) rest runs fewer made =
    let turns = drawn_stretch greatest (next_state x) now in
    let later = stretches left greatest (next_state x) made.next in
    let on : stretches (suc left) greatest x now ≡ turns ++ later =
    ap (λ b. cond b [] (turns ++ turns_on (replay now turns) (λ next. stretches left greatest (next_state x) next))) runs
    ∙ ap (λ b. turns ++ turns_on b (λ next. stretches left greatest (next_state x) next)) made.stretched in
    record {
      now = made.next;
      is_made = made.is_made;
      left = left;
      enough = omega (arith, fewer);
      rest = rest ∙ ap (λ l. old.turns.items ++ l) on ∙ sym (append_assoc old.turns.items turns later) ∙ sym (ap (λ l. l ++ later) made.longer);
    }

pub under_way_on : (start : Board) (greatest : List ℕ) (first x : ℕ) (old new : Made) (cores new_cores : List Core) (bus new_bus : BusState)
    → IsUnderWay start greatest first x old cores bus → all_stopped cores ≡ false → steps_left new_cores < steps_left cores
    → ((now : Board) → IsMade start old cores bus now → IsStretched start old new new_cores new_bus now (drawn_stretch greatest (next_state x) now))
    → IsUnderWay start greatest first (next_state x) new new_cores new_bus
under_way_on start greatest first x old new cores new_cores bus new_bus is runs fewer makes =
    under_way_by start greatest first x old new new_cores new_bus is.now is.left is.rest (sym (ap all_stopped is.is_made.is.same_cores) ∙ runs)
    (omega (arith, fewer, is.enough)) (makes is.now is.is_made)

no_stretches : (left : ℕ) (greatest : List ℕ) (x : ℕ) (board : Board) → all_stopped board.cores ≡ true → stretches left greatest x board ≡ []
no_stretches zero greatest x board stopped = refl
no_stretches (suc left) greatest x board stopped =
    let turns = drawn_stretch greatest (next_state x) board in
    ap (λ b. cond b [] (turns ++ turns_on (replay board turns) (λ next. stretches left greatest (next_state x) next))) stopped

-- where all cores have stopped the schedule is whole
pub under_way_ends : (start : Board) (greatest : List ℕ) (first x : ℕ) (made : Made) (cores : List Core) (bus : BusState)
    → IsUnderWay start greatest first x made cores bus → all_stopped cores ≡ true
    → IsWhole start (stretches (steps_left start.cores) greatest first start) made cores bus
under_way_ends start greatest first x made cores bus is stopped =
    let all : all_stopped is.now.cores ≡ true = sym (ap all_stopped is.is_made.is.same_cores) ∙ stopped in
    record {
      last = is.now;
      is_made = is.is_made;
      whole = sym (is.rest ∙ ap (λ l. made.turns.items ++ l) (no_stretches is.left greatest x is.now all) ∙ append-nil made.turns.items);
      stopped = all;
    }
