-- Commands that are answered one by one.
use Rattle.std.proofs.Common.{◌≡◌, ◌∙◌, refl, sym, ap, subst, ℕ, ◌+◌, ◌<◌, ◌≤◌, List, [], ◌∷◌, ◌++◌, length, drop, get_or, add-one, append_assoc, append-nil}
use Rattle.std.proofs.Math.Seq.{drop-cons}
use Rattle.std.proofs.lemmas.List.{drop_all}
use Rattle.or_script.specs.declared.command.Command.{Command}
use Rattle.or_script.specs.declared.command.Command.TheVariants.{Watch, Stores, Last}
use Rattle.or_model.specs.Turn.{Board}
use Rattle.or_debug.specs.declared.stops.Stops.{Stops}
use Rattle.or_replay.specs.Board.{IsBoard}
use Rattle.or_debug.specs.Turns.{after, turns_made, last_of}
use Rattle.or_debug.specs.BoardText.{made_text}
use Rattle.or_debug.proofs.Seen.{ram_behind, seen_behind}
use Rattle.or_debug.specs.Points.{Points, no_points, with_watch, with_store}
use Rattle.or_debug.specs.Hits.{ram_in}
use Rattle.or_debug.specs.Session.{State, first_state}
use Rattle.or_debug.specs.Standing.{HasSeen, points_of}
use Rattle.or_back.specs.declared.history.History.{History}
use Rattle.or_back.specs.declared.lines.BackCommand.{BackCommand}
use Rattle.or_back.specs.declared.lines.BackCommand.TheVariants.{Plain}
use Rattle.or_back.specs.Session.{back_answer, back_session_from}
use Rattle.or_back.specs.Tells.{Tells}
use Rattle.or_back.specs.Backward.{state_at, StandsBack, IsBackAnswered, IsAppended, IsFront}

-- the commands up to a place were answered
pub record IsBackUpTo (start : Board) (turns : List ℕ) (first : State) (commands : List BackCommand) (place : ℕ) (before later : List ℕ) (history : History) (stops : Stops) : Type 0 where
  pub stands : StandsBack history stops start turns
  pub front : List ℕ
  pub text : later ≡ before ++ front
  pub parts : back_session_from start turns first commands ≡ front ++ back_session_from start turns (state_at history.at stops) (drop place commands)

-- the command at a place, and those behind it
at_place : (commands : List BackCommand) (place : ℕ) (command : BackCommand) → place < length commands → drop place commands ≡ get_or commands place command ∷ drop (place + 1) commands
at_place commands place command inside = drop-cons commands place command inside ∙ ap (λ n. get_or commands place command ∷ drop n commands) (sym (add-one place))

pub up_to_more : (start : Board) (turns : List ℕ) (first : State) (commands : List BackCommand) (place : ℕ) (command : BackCommand) (before middle later : List ℕ) (old new : History) (old_stops new_stops : Stops)
    → IsBackUpTo start turns first commands place before middle old old_stops → place < length commands
    → IsAppended start turns old old_stops (get_or commands place command) middle later new new_stops
    → IsBackUpTo start turns first commands (place + 1) before later new new_stops
up_to_more start turns first commands place command before middle later old new old_stops new_stops up_to inside added =
    let here = get_or commands place command in
    let rest = drop (place + 1) commands in
    let cut = at_place commands place command inside in
    let state = state_at old.at old_stops in
    let text = back_answer start turns state here in
    record {
      stands = added.stands;
      front = up_to.front ++ text;
      text = added.text ∙ ap (λ l. l ++ text) up_to.text ∙ append_assoc before up_to.front text;
      parts = up_to.parts ∙ ap (λ l. up_to.front ++ back_session_from start turns state l) cut
          ∙ ap (λ s. up_to.front ++ (text ++ back_session_from start turns s rest)) (sym added.state)
          ∙ sym (append_assoc up_to.front text (back_session_from start turns (state_at new.at new_stops) rest));
    }

pub up_to_none : (start : Board) (turns : List ℕ) (commands : List BackCommand) (before : List ℕ) (history : History) (stops : Stops) → StandsBack history stops start turns
    → IsBackUpTo start turns (state_at history.at stops) commands 0 before before history stops
up_to_none start turns commands before history stops stands = record { stands = stands; front = []; text = sym (append-nil before); parts = refl }

pub up_to_all : (start : Board) (turns : List ℕ) (first : State) (commands : List BackCommand) (place : ℕ) (before later : List ℕ) (history : History) (stops : Stops)
    → IsBackUpTo start turns first commands place before later history stops → length commands ≤ place → later ≡ before ++ back_session_from start turns first commands
up_to_all start turns first commands place before later history stops up_to past =
    let none = drop_all place commands past in
    up_to.text ∙ ap (λ l. before ++ l) (sym (up_to.parts ∙ ap (λ l. up_to.front ++ back_session_from start turns (state_at history.at stops) l) none ∙ append-nil up_to.front))

pub up_to_some : (start : Board) (turns : List ℕ) (first : State) (commands : List BackCommand) (place : ℕ) (before middle later : List ℕ) (history : History) (stops : Stops)
    → IsBackUpTo start turns first commands place before middle history stops → later ≡ middle → IsFront (back_session_from start turns first commands) before later
up_to_some start turns first commands place before middle later history stops up_to same = record {
  front = up_to.front;
  rest = back_session_from start turns (state_at history.at stops) (drop place commands);
  parts = up_to.parts;
  text = same ∙ up_to.text;
}

-- nothing of a text was appended
pub no_front : (whole before : List ℕ) → IsFront whole before before
no_front whole before = record { front = []; rest = whole; parts = refl; text = sym (append-nil before) }

-- a session begins without points
pub fresh : (start : Board) (turns : List ℕ) (history : History) (stops : Stops) → Tells history start turns → ((ram : List ℕ) → HasSeen ram stops) → StandsBack history stops start turns
fresh start turns history stops tells none = record { tells = tells; seen_is = none (ram_in (after start turns history.at)) }

pub first_at : (history : History) (stops : Stops) → history.at ≡ 0 → points_of stops ≡ no_points → state_at history.at stops ≡ first_state
first_at history stops at none = ap (λ (n : ℕ). record { turn = n; points = points_of stops }) at ∙ ap (λ (p : Points). record { turn = 0; points = p }) none

-- a point more, which has seen RAM where the history stands
pub seen_here : (start : Board) (turns : List ℕ) (old new : History) (old_stops new_stops : Stops) → StandsBack old old_stops start turns → Tells new start turns → new.at ≡ old.at
    → ((now : Board) → IsBoard old.board.cores old.board.bus now → HasSeen now.world.ram old_stops → HasSeen now.world.ram new_stops) → StandsBack new new_stops start turns
seen_here start turns old new old_stops new_stops stands tells same sees =
    let here = stands.tells.here in
    let before : HasSeen here.now.world.ram old_stops = subst (λ ram. HasSeen ram old_stops) (ram_behind start turns old.at old.board.cores old.board.bus here) stands.seen_is in
    let seen : HasSeen (ram_in (after start turns old.at)) new_stops = seen_behind start turns old.at old.board.cores old.board.bus here new_stops (sees here.now here.is before) in
    record { tells = tells; seen_is = subst (λ (n : ℕ). HasSeen (ram_in (after start turns n)) new_stops) (sym same) seen }

pub watch_told : (start : Board) (turns : List ℕ) (old new : History) (old_stops new_stops : Stops) (command : Command) (address : ℕ) (text : List ℕ) → command ≡ Watch address
    → StandsBack new new_stops start turns → new.at ≡ old.at → points_of new_stops ≡ with_watch (points_of old_stops) address → text ≡ []
    → IsBackAnswered start turns old old_stops (Plain command) text new new_stops
watch_told start turns old new old_stops new_stops command address text is stands same points none =
    subst (λ (c : Command). IsBackAnswered start turns old old_stops (Plain c) text new new_stops) (sym is)
    (record {
      stands = stands;
      state = ap (λ (n : ℕ). record { turn = n; points = points_of new_stops }) same ∙ ap (λ (p : Points). record { turn = old.at; points = p }) points;
      text_is = none;
    })

pub store_told : (start : Board) (turns : List ℕ) (old new : History) (old_stops new_stops : Stops) (command : Command) (address : ℕ) (text : List ℕ) → command ≡ Stores address
    → StandsBack new new_stops start turns → new.at ≡ old.at → points_of new_stops ≡ with_store (points_of old_stops) address → text ≡ []
    → IsBackAnswered start turns old old_stops (Plain command) text new new_stops
store_told start turns old new old_stops new_stops command address text is stands same points none =
    subst (λ (c : Command). IsBackAnswered start turns old old_stops (Plain c) text new new_stops) (sym is)
    (record {
      stands = stands;
      state = ap (λ (n : ℕ). record { turn = n; points = points_of new_stops }) same ∙ ap (λ (p : Points). record { turn = old.at; points = p }) points;
      text_is = none;
    })

-- the last turns, behind which the history stands again
pub last_shown : (start : Board) (turns : List ℕ) (count : ℕ) (old new : History) (stops : Stops) (text : List ℕ) → StandsBack old stops start turns → Tells new start turns → new.at ≡ old.at
    → text ≡ made_text (last_of count (turns_made start turns old.at)) → IsBackAnswered start turns old stops (Plain (Last count)) text new stops
last_shown start turns count old new stops text stands tells same is = record {
  stands = record { tells = tells; seen_is = subst (λ (n : ℕ). HasSeen (ram_in (after start turns n)) stops) (sym same) stands.seen_is };
  state = ap (λ (n : ℕ). state_at n stops) same;
  text_is = is;
}
