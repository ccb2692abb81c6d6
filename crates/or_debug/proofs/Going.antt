-- Turns that are followed until one hits something.
use Rattle.std.proofs.Common.{◌≡◌, ◌≢◌, ◌∙◌, refl, sym, ap, ℕ, suc, ◌+◌, ◌-◌, ◌<◌, ◌≤◌, true, false, cond, eqb, List, [], ◌∷◌, ◌++◌, length, Some, None, arith}
use Rattle.std.specs.Prelude.{Option}
use Rattle.std.proofs.lemmas.Bool.Decides.{nat_tests}
use Rattle.or_model.specs.Core.{Core}
use Rattle.or_model.specs.Turn.{Board}
use Rattle.or_bus.specs.State.{BusState}
use Rattle.or_script.specs.declared.command.Command.TheVariants.{Go}
use Rattle.or_debug.specs.Points.{Points}
use Rattle.or_debug.specs.declared.debugger.Debugger.{Debugger}
use Rattle.or_debug.specs.Hits.{hit_lines, first_hit, is_empty}
use Rattle.or_debug.specs.Session.{State, next_hit, stop_turn, stop_text, end_line}
use Rattle.or_debug.specs.Standing.{Stands, IsFollowed, IsAnswered, points_of, state_of}

-- turns were followed that hit nothing
pub record IsGoing (start : Board) (turns : List ℕ) (old new : Debugger) (cores : List Core) (bus : BusState) : Type 0 where
  pub stands : Stands start turns new cores bus
  pub points : points_of new.stops ≡ points_of old.stops
  pub next : next_hit start turns (state_of new) ≡ next_hit start turns (state_of old)

-- whether a list is empty, by its length
pub empty_length : (l : List ℕ) → eqb (length l) 0 ≡ true → l ≡ []
empty_length [] e = refl
empty_length (b ∷ bs) e = absurd (let no : ⊥ = grind (arith, nat_tests, e) in no)

pub some_length : (l : List ℕ) → eqb (length l) 0 ≡ false → l ≢ []
some_length l e nothing = let no : ⊥ = grind (arith, nat_tests, e, ap length nothing) in no

-- of so many turns the first hits nothing
first_passes : (lines : ℕ → List ℕ) (n len : ℕ) → n < len → lines n ≡ [] → first_hit lines n (len - n) ≡ first_hit lines (n + 1) (len - (n + 1))
first_passes lines n len inside nothing =
    let left : len - n ≡ suc (len - (n + 1)) = omega arith in
    ap (first_hit lines n) left ∙ ap (λ l. cond (is_empty l) (first_hit lines (n + 1) (len - (n + 1))) (Some n)) nothing

hit_by : (l : List ℕ) (later : Option ℕ) (n : ℕ) → l ≢ [] → cond (is_empty l) later (Some n) ≡ Some n
hit_by [] later n some = absurd (some refl)
hit_by (b ∷ bs) later n some = refl

-- or hits something
first_hits : (lines : ℕ → List ℕ) (n len : ℕ) → n < len → lines n ≢ [] → first_hit lines n (len - n) ≡ Some n
first_hits lines n len inside some =
    let left : len - n ≡ suc (len - (n + 1)) = omega arith in
    ap (first_hit lines n) left ∙ hit_by (lines n) (first_hit lines (n + 1) (len - (n + 1))) n some

none_left : (lines : ℕ → List ℕ) (n len : ℕ) → n ≡ len → first_hit lines n (len - n) ≡ None
none_left lines n len ends = let left : len - n ≡ 0 = omega arith in ap (first_hit lines n) left

passed : (start : Board) (turns : List ℕ) (state : State) → state.turn < length turns → hit_lines start turns state.points state.turn ≡ []
    → next_hit start turns state ≡ next_hit start turns (record { turn = state.turn + 1; points = state.points })
unfolding next_hit
passed start turns state inside nothing = first_passes (hit_lines start turns state.points) state.turn (length turns) inside nothing

hit : (start : Board) (turns : List ℕ) (state : State) → state.turn < length turns → hit_lines start turns state.points state.turn ≢ [] → next_hit start turns state ≡ Some state.turn
unfolding next_hit
hit start turns state inside some = first_hits (hit_lines start turns state.points) state.turn (length turns) inside some

ended : (start : Board) (turns : List ℕ) (state : State) → state.turn ≡ length turns → next_hit start turns state ≡ None
unfolding next_hit
ended start turns state ends = none_left (hit_lines start turns state.points) state.turn (length turns) ends

-- nothing is hit before the first turn
pub going_none : (start : Board) (turns : List ℕ) (debugger : Debugger) (cores : List Core) (bus : BusState) → Stands start turns debugger cores bus → IsGoing start turns debugger debugger cores bus
going_none start turns debugger cores bus stands = record { stands = stands; points = refl; next = refl }

-- one more turn that hits nothing
pub going_on : (start : Board) (turns : List ℕ) (old middle new : Debugger) (before later : List ℕ) (cores new_cores : List Core) (bus new_bus : BusState) → IsGoing start turns old middle cores bus
    → middle.turn < length turns → IsFollowed start turns middle before new later new_cores new_bus → before ≡ [] → later ≡ [] → IsGoing start turns old new new_cores new_bus
going_on start turns old middle new before later cores new_cores bus new_bus going inside followed none nothing =
    let lines : hit_lines start turns (points_of middle.stops) middle.turn ≡ [] =
    ap (λ l. l ++ hit_lines start turns (points_of middle.stops) middle.turn) (sym none) ∙ sym followed.text ∙ nothing in
    record {
      stands = followed.stands;
      points = ap (λ (s : State). s.points) followed.state ∙ going.points;
      next = ap (next_hit start turns) followed.state ∙ sym (passed start turns (state_of middle) inside lines) ∙ going.next;
    }

-- a turn that hits something
pub going_hits : (start : Board) (turns : List ℕ) (old middle new : Debugger) (before later : List ℕ) (cores new_cores : List Core) (bus new_bus : BusState) → IsGoing start turns old middle cores bus
    → middle.turn < length turns → IsFollowed start turns middle before new later new_cores new_bus → before ≡ [] → later ≢ [] → IsAnswered start turns old Go later new new_cores new_bus
going_hits start turns old middle new before later cores new_cores bus new_bus going inside followed none some =
    let text : later ≡ hit_lines start turns (points_of middle.stops) middle.turn =
    followed.text ∙ ap (λ l. l ++ hit_lines start turns (points_of middle.stops) middle.turn) none in
    let next : next_hit start turns (state_of old) ≡ Some middle.turn = sym going.next ∙ hit start turns (state_of middle) inside (λ e. some (text ∙ e)) in
    record {
      stands = followed.stands;
      state = followed.state
          ∙ ap (λ (p : Points). record { turn = middle.turn + 1; points = p }) going.points
          ∙ ap (λ (n : Option ℕ). record { turn = stop_turn turns n; points = points_of old.stops }) (sym next);
      text = text
          ∙ ap (λ (p : Points). hit_lines start turns p middle.turn) going.points
          ∙ ap (stop_text start turns (state_of old)) (sym next);
    }

-- no turn is left
pub going_ends : (start : Board) (turns : List ℕ) (old new : Debugger) (written : List ℕ) (cores : List Core) (bus : BusState) → IsGoing start turns old new cores bus
    → length turns ≤ new.turn → written ≡ end_line new.turn → IsAnswered start turns old Go written new cores bus
going_ends start turns old new written cores bus going past text =
    let ends : new.turn ≡ length turns = omega (arith, going.stands.reaches.board.within) in
    let next : next_hit start turns (state_of old) ≡ None = sym going.next ∙ ended start turns (state_of new) ends in
    record {
      stands = going.stands;
      state = ap (λ (n : ℕ). record { turn = n; points = points_of new.stops }) ends
          ∙ ap (λ (p : Points). record { turn = length turns; points = p }) going.points
          ∙ ap (λ (n : Option ℕ). record { turn = stop_turn turns n; points = points_of old.stops }) (sym next);
      text = text ∙ ap end_line ends ∙ ap (stop_text start turns (state_of old)) (sym next);
    }
