-- The last turn that hits something, looked for in stretches of turns.
use Rattle.std.proofs.Common.{◌≡◌, ◌≢◌, ◌∙◌, refl, sym, ap, subst, inl, inr, ◌⊎◌, ℕ, ◌+◌, ◌-◌, ◌<◌, ◌≤◌, cond, List, [], ◌∷◌, ◌++◌, length, Some, None, add-one, arith}
use Rattle.std.specs.Prelude.{Option, IfSome, min}
use Rattle.std.specs.Option.{option_or}
use Rattle.or_model.specs.Turn.{Board}
use Rattle.or_debug.specs.declared.stops.Stops.{Stops}
use Rattle.or_debug.specs.Points.{Points}
use Rattle.or_debug.specs.Hits.{hit_lines, is_empty}
use Rattle.or_debug.specs.Session.{State}
use Rattle.or_debug.specs.Standing.{points_of}
use Rattle.or_back.specs.declared.history.History.{History}
use Rattle.or_back.specs.declared.lines.BackCommand.TheVariants.{GoBack}
use Rattle.or_back.specs.Session.{last_hit, hit_before, back_stop, back_stop_text}
use Rattle.or_back.specs.Backward.{StandsWith, Searches, IsNext, IsThere, IsBackAnswered, state_at}

-- one turn more, which hits nothing
last_passes : (lines : ℕ → List ℕ) (n : ℕ) → lines n ≡ [] → last_hit lines (n + 1) ≡ last_hit lines n
last_passes lines n none = ap (last_hit lines) (add-one n) ∙ ap (λ l. cond (is_empty l) (last_hit lines n) (Some n)) none

some_hit : (l : List ℕ) (earlier : Option ℕ) (n : ℕ) → l ≢ [] → cond (is_empty l) earlier (Some n) ≡ Some n
some_hit [] earlier n some = absurd (some refl)
some_hit (b ∷ bs) earlier n some = refl

-- or something
last_hits : (lines : ℕ → List ℕ) (n : ℕ) → lines n ≢ [] → last_hit lines (n + 1) ≡ Some n
last_hits lines n some = ap (last_hit lines) (add-one n) ∙ some_hit (lines n) (last_hit lines n) n some

at_of : (start : Board) (turns : List ℕ) (turn : ℕ) (old_stops : Stops) (new : History) (new_stops : Stops) → IsThere start turns turn old_stops new new_stops → turn ≤ length turns → new.at ≡ turn
at_of start turns turn old_stops new new_stops is within =
    let at : new.at ≡ min turn (length turns) = ap (λ (s : State). s.turn) is.state in
    omega (arith, at, within)

-- before its first turn
pub searches_none : (start : Board) (turns : List ℕ) (from : ℕ) (old_stops : Stops) (new : History) (new_stops : Stops) → IsThere start turns from old_stops new new_stops → from ≤ length turns
    → Searches start turns (points_of old_stops) from None new new_stops
searches_none start turns from old_stops new new_stops is within = record {
  stands = record { stands = is.stands; points_are = ap (λ (s : State). s.points) is.state };
  last = ap (last_hit (hit_lines start turns (points_of old_stops))) (at_of start turns from old_stops new new_stops is within);
}

next_lines : (start : Board) (turns : List ℕ) (points : Points) (old new : History) (old_stops new_stops : Stops) (before later : List ℕ) → points_of old_stops ≡ points
    → IsNext start turns old old_stops before new new_stops later → before ≡ [] → later ≡ hit_lines start turns points old.at
next_lines start turns points old new old_stops new_stops before later same next none =
    next.text ∙ ap (λ l. l ++ hit_lines start turns (points_of old_stops) old.at) none ∙ ap (λ (p : Points). hit_lines start turns p old.at) same

still_with : (start : Board) (turns : List ℕ) (points : Points) (old new : History) (old_stops new_stops : Stops) (before later : List ℕ) → points_of old_stops ≡ points
    → IsNext start turns old old_stops before new new_stops later → StandsWith start turns points new new_stops
still_with start turns points old new old_stops new_stops before later same next = record { stands = next.stands; points_are = ap (λ (s : State). s.points) next.state ∙ same }

-- one turn more, which hits nothing
pub searches_on : (start : Board) (turns : List ℕ) (points : Points) (from : ℕ) (found : Option ℕ) (old new : History) (old_stops new_stops : Stops) (before later : List ℕ)
    → Searches start turns points from found old old_stops → IsNext start turns old old_stops before new new_stops later → before ≡ [] → later ≡ []
    → Searches start turns points from found new new_stops
searches_on start turns points from found old new old_stops new_stops before later is next none nothing =
    let same = is.stands.points_are in
    let lines = hit_lines start turns points in
    record {
      stands = still_with start turns points old new old_stops new_stops before later same next;
      last = ap (λ (s : State). last_hit lines s.turn) next.state
          ∙ last_passes lines old.at (sym (next_lines start turns points old new old_stops new_stops before later same next none) ∙ nothing) ∙ is.last;
    }

-- or something
pub searches_hit : (start : Board) (turns : List ℕ) (points : Points) (from place : ℕ) (found : Option ℕ) (old new : History) (old_stops new_stops : Stops) (before later : List ℕ)
    → Searches start turns points from found old old_stops → IsNext start turns old old_stops before new new_stops later → before ≡ [] → later ≢ [] → place ≡ old.at
    → Searches start turns points from (Some place) new new_stops
searches_hit start turns points from place found old new old_stops new_stops before later is next none some at =
    let same = is.stands.points_are in
    let lines = hit_lines start turns points in
    record {
      stands = still_with start turns points old new old_stops new_stops before later same next;
      last = ap (λ (s : State). last_hit lines s.turn) next.state
          ∙ last_hits lines old.at (λ e. some (next_lines start turns points old new old_stops new_stops before later same next none ∙ e)) ∙ ap (λ (n : ℕ). Some n) (sym at);
    }

-- a place that was found is below the end
pub place_below : (to at : ℕ) (found now : Option ℕ) → IfSome now (λ place. (found ≡ Some place) ⊎ (place ≡ at)) → IfSome found (λ place. place < to) → at < to
    → IfSome now (λ place. place < to)
place_below to at found None one old inside = tt
place_below to at None (Some place) (inl same) old inside = absurd (let b : ⊥ = cc in b)
place_below to at (Some first) (Some place) (inl same) old inside = let is : first ≡ place = cc in subst (λ (n : ℕ). n < to) is old
place_below to at found (Some place) (inr same) old inside = omega (arith, same, inside)

-- the place that is looked for is that of the last hit of a stretch
pub found_stretch : (start : Board) (turns : List ℕ) (points other : Points) (from to place : ℕ) (found sought : Option ℕ) → other ≡ points
    → last_hit (hit_lines start turns other) to ≡ option_or found (last_hit (hit_lines start turns other) from) → found ≡ Some place
    → last_hit (hit_lines start turns points) to ≡ sought → Some place ≡ sought
found_stretch start turns points other from to place found sought same is some known =
    sym (ap (λ (o : Option ℕ). option_or o (last_hit (hit_lines start turns other) from)) some) ∙ sym is
    ∙ ap (λ (p : Points). last_hit (hit_lines start turns p) to) same ∙ known

-- or lies before the stretch
pub earlier_stretch : (start : Board) (turns : List ℕ) (points other : Points) (from to : ℕ) (found sought : Option ℕ) → other ≡ points
    → last_hit (hit_lines start turns other) to ≡ option_or found (last_hit (hit_lines start turns other) from) → found ≡ None
    → last_hit (hit_lines start turns points) to ≡ sought → last_hit (hit_lines start turns points) from ≡ sought
earlier_stretch start turns points other from to found sought same is none known =
    ap (λ (p : Points). last_hit (hit_lines start turns p) from) (sym same)
    ∙ sym (ap (λ (o : Option ℕ). option_or o (last_hit (hit_lines start turns other) from)) none) ∙ sym is
    ∙ ap (λ (p : Points). last_hit (hit_lines start turns p) to) same ∙ known

pub first_stretch : (start : Board) (turns : List ℕ) (at to : ℕ) (stops : Stops) → to ≡ at - 1
    → last_hit (hit_lines start turns (points_of stops)) to ≡ hit_before start turns (state_at at stops)
unfolding hit_before
first_stretch start turns at to stops is = ap (last_hit (hit_lines start turns (points_of stops))) is

pub no_stretch : (start : Board) (turns : List ℕ) (at to : ℕ) (stops : Stops) → to ≡ 0
    → last_hit (hit_lines start turns (points_of stops)) to ≡ hit_before start turns (state_at at stops) → None ≡ hit_before start turns (state_at at stops)
no_stretch start turns at to stops none is = ap (last_hit (hit_lines start turns (points_of stops))) (sym none) ∙ is

-- the history stands behind the turn that was found
pub back_at_hit : (start : Board) (turns : List ℕ) (place : ℕ) (old there new : History) (old_stops middle_stops there_stops new_stops : Stops) (before later : List ℕ)
    → Some place ≡ hit_before start turns (state_at old.at old_stops) → points_of middle_stops ≡ points_of old_stops → place < length turns
    → IsThere start turns place middle_stops there there_stops → IsNext start turns there there_stops before new new_stops later → before ≡ []
    → IsBackAnswered start turns old old_stops GoBack later new new_stops
back_at_hit start turns place old there new old_stops middle_stops there_stops new_stops before later found same inside is next none =
    let at = at_of start turns place middle_stops there there_stops is (omega (arith, inside)) in
    let points : points_of there_stops ≡ points_of old_stops = ap (λ (s : State). s.points) is.state ∙ same in
    record {
      stands = next.stands;
      state = next.state ∙ ap (λ (n : ℕ). record { turn = n + 1; points = points_of there_stops }) at ∙ ap (λ (p : Points). record { turn = place + 1; points = p }) points
          ∙ ap (λ (o : Option ℕ). record { turn = back_stop o; points = points_of old_stops }) found;
      text_is = next_lines start turns (points_of old_stops) there new there_stops new_stops before later points next none
          ∙ ap (hit_lines start turns (points_of old_stops)) at ∙ ap (back_stop_text start turns (state_at old.at old_stops)) found;
    }

-- or before the first turn
pub back_at_start : (start : Board) (turns : List ℕ) (old new : History) (old_stops middle_stops new_stops : Stops) (text : List ℕ)
    → None ≡ hit_before start turns (state_at old.at old_stops) → points_of middle_stops ≡ points_of old_stops → IsThere start turns 0 middle_stops new new_stops
    → text ≡ back_stop_text start turns (state_at old.at old_stops) None → IsBackAnswered start turns old old_stops GoBack text new new_stops
back_at_start start turns old new old_stops middle_stops new_stops text found same is said =
    let at = at_of start turns 0 middle_stops new new_stops is (omega arith) in
    record {
      stands = is.stands;
      state = ap (λ (n : ℕ). record { turn = n; points = points_of new_stops }) at
          ∙ ap (λ (p : Points). record { turn = 0; points = p }) (ap (λ (s : State). s.points) is.state ∙ same)
          ∙ ap (λ (o : Option ℕ). record { turn = back_stop o; points = points_of old_stops }) found;
      text_is = said ∙ ap (back_stop_text start turns (state_at old.at old_stops)) found;
    }
