-- How the backward debugger stands while its history goes on.
use Rattle.std.proofs.Common.{◌≡◌, ◌≢◌, ◌∙◌, refl, sym, ap, subst, ℕ, ◌+◌, ◌<◌, ◌≤◌, List, [], ◌++◌, length}
use Rattle.std.specs.Prelude.{min}
use Rattle.circular_buffer.specs.Buffer.{buffer}
use Rattle.or_model.specs.Turn.{Board}
use Rattle.or_replay.specs.Board.{IsBoard}
use Rattle.or_script.specs.declared.command.Command.TheVariants.{Go}
use Rattle.or_debug.specs.declared.debugger.Debugger.{Debugger}
use Rattle.or_debug.specs.declared.turns.MadeTurn.{MadeTurn}
use Rattle.or_debug.specs.declared.stops.Stops.{Stops}
use Rattle.or_debug.specs.Turns.{turn_made, turns_made, last_of}
use Rattle.or_debug.specs.Points.{Points}
use Rattle.or_debug.specs.Hits.{hits_of}
use Rattle.or_debug.specs.Session.{end_line}
use Rattle.or_debug.specs.Standing.{IsAfter, IsMade, IsFollowed, IsAnswered, Stands, HasSeen, HasLooked, points_of}
use Rattle.or_debug.proofs.Seen.{followed, seen_behind}
use Rattle.or_debug.proofs.Going.{going_none, going_on, going_hits, going_ends, IsGoing}
use Rattle.or_back.specs.declared.history.History.{History}
use Rattle.or_back.specs.declared.lines.BackCommand.TheVariants.{Plain}
use Rattle.or_back.specs.Tells.{Tells}
use Rattle.or_back.specs.Backward.{StandsBack, IsNext, IsThere, IsBackAnswered}

-- the debugger that has followed the first so many turns, with these points
abbrev pub debugger_at : Board → List ℕ → ℕ → Stops → Debugger
debugger_at start turns n stops = record { turn = n; stops = stops; last = buffer (last_of 64 (turns_made start turns n)) 64 }

-- the debugger of the first turns stands there
pub stands_of : (start : Board) (turns : List ℕ) (history : History) (stops : Stops) → StandsBack history stops start turns
    → Stands start turns (debugger_at start turns history.at stops) history.board.cores history.board.bus
stands_of start turns history stops is = record { reaches = record { board = is.tells.here; ring = refl }; seen_is = is.seen_is }

-- one turn more, once its hits are written
pub next_turn : (start : Board) (turns : List ℕ) (old middle new : History) (old_stops new_stops : Stops) (before later : List ℕ) (made : MadeTurn)
    → StandsBack old old_stops start turns → Tells middle start turns → Tells new start turns → middle.at ≡ old.at + 1 → new.at ≡ middle.at → made ≡ turn_made start turns old.at
    → ((now : Board) (ram : List ℕ) → IsBoard middle.board.cores middle.board.bus now → HasSeen ram old_stops → later ≡ before ++ hits_of made ram now.world.ram (points_of old_stops))
    → ((now : Board) → IsBoard middle.board.cores middle.board.bus now → HasLooked now.world.ram old_stops new_stops)
    → ((now : Board) → IsBoard middle.board.cores middle.board.bus now → IsBoard new.board.cores new.board.bus now)
    → IsNext start turns old old_stops before new new_stops later
next_turn start turns old middle new old_stops new_stops before later made stands tells new_tells moved stays is text looks same =
    let at : new.at ≡ old.at + 1 = stays ∙ moved in
    let cores = middle.board.cores in
    let bus = middle.board.bus in
    let last = debugger_at start turns new.at new_stops in
    let made_here : IsMade start turns old.at made last.last cores bus = record {
      reaches = record {
        board = subst (λ (n : ℕ). IsAfter start turns n cores bus) moved tells.here;
        ring = ap (λ (n : ℕ). buffer (last_of 64 (turns_made start turns n)) 64) at;
      };
      made_is = is;
    } in
    let done = followed start turns (debugger_at start turns old.at old_stops) last before later made old.board.cores cores new.board.cores old.board.bus bus new.board.bus
    (stands_of start turns old old_stops stands) made_here at text looks same in
    record { stands = record { tells = new_tells; seen_is = done.stands.seen_is }; state = done.state; text = done.text }

-- as the debugger sees it
next_followed : (start : Board) (turns : List ℕ) (old new : History) (old_stops new_stops : Stops) (before later : List ℕ) → IsNext start turns old old_stops before new new_stops later
    → IsFollowed start turns (debugger_at start turns old.at old_stops) before (debugger_at start turns new.at new_stops) later new.board.cores new.board.bus
next_followed start turns old new old_stops new_stops before later next = record { stands = stands_of start turns new new_stops next.stands; state = next.state; text = next.text }

-- nothing was hit so far
abbrev pub Goes : Board → List ℕ → History → Stops → History → Stops → Type 0
Goes start turns old old_stops new new_stops =
    Tells new start turns × IsGoing start turns (debugger_at start turns old.at old_stops) (debugger_at start turns new.at new_stops) new.board.cores new.board.bus

pub goes_none : (start : Board) (turns : List ℕ) (history : History) (stops : Stops) → StandsBack history stops start turns → Goes start turns history stops history stops
goes_none start turns history stops is =
    (is.tells, going_none start turns (debugger_at start turns history.at stops) history.board.cores history.board.bus (stands_of start turns history stops is))

pub goes_back : (start : Board) (turns : List ℕ) (old new : History) (old_stops new_stops : Stops) → Goes start turns old old_stops new new_stops → StandsBack new new_stops start turns
goes_back start turns old new old_stops new_stops goes = record { tells = goes.0; seen_is = goes.1.stands.seen_is }

inside_of : (start : Board) (turns : List ℕ) (history : History) → Tells history start turns → history.at < length history.turns.items → history.at < length turns
inside_of start turns history tells inside = subst (λ (l : List ℕ). history.at < length l) tells.turns_are inside

pub goes_on : (start : Board) (turns : List ℕ) (old middle new : History) (old_stops middle_stops new_stops : Stops) (before later : List ℕ) → Goes start turns old old_stops middle middle_stops
    → middle.at < length middle.turns.items → IsNext start turns middle middle_stops before new new_stops later → before ≡ [] → later ≡ [] → Goes start turns old old_stops new new_stops
goes_on start turns old middle new old_stops middle_stops new_stops before later goes inside next none nothing = (
  next.stands.tells,
  going_on start turns (debugger_at start turns old.at old_stops) (debugger_at start turns middle.at middle_stops) (debugger_at start turns new.at new_stops) before later
      middle.board.cores new.board.cores middle.board.bus new.board.bus goes.1 (inside_of start turns middle goes.0 inside)
      (next_followed start turns middle new middle_stops new_stops before later next) none nothing,
)

answered_of : (start : Board) (turns : List ℕ) (old new : History) (old_stops new_stops : Stops) (text : List ℕ) → Tells new start turns
    → IsAnswered start turns (debugger_at start turns old.at old_stops) Go text (debugger_at start turns new.at new_stops) new.board.cores new.board.bus
    → IsBackAnswered start turns old old_stops (Plain Go) text new new_stops
answered_of start turns old new old_stops new_stops text tells is = record { stands = record { tells = tells; seen_is = is.stands.seen_is }; state = is.state; text_is = is.text }

pub goes_hit : (start : Board) (turns : List ℕ) (old middle new : History) (old_stops middle_stops new_stops : Stops) (before later : List ℕ) → Goes start turns old old_stops middle middle_stops
    → middle.at < length middle.turns.items → IsNext start turns middle middle_stops before new new_stops later → before ≡ [] → later ≢ []
    → IsBackAnswered start turns old old_stops (Plain Go) later new new_stops
goes_hit start turns old middle new old_stops middle_stops new_stops before later goes inside next none some =
    answered_of start turns old new old_stops new_stops later next.stands.tells
    (going_hits start turns (debugger_at start turns old.at old_stops) (debugger_at start turns middle.at middle_stops) (debugger_at start turns new.at new_stops) before later
    middle.board.cores new.board.cores middle.board.bus new.board.bus goes.1 (inside_of start turns middle goes.0 inside)
    (next_followed start turns middle new middle_stops new_stops before later next) none some)

pub goes_end : (start : Board) (turns : List ℕ) (old new : History) (old_stops new_stops : Stops) (text : List ℕ) → Goes start turns old old_stops new new_stops
    → length new.turns.items ≤ new.at → text ≡ end_line new.at → IsBackAnswered start turns old old_stops (Plain Go) text new new_stops
goes_end start turns old new old_stops new_stops text goes past is =
    answered_of start turns old new old_stops new_stops text goes.0
    (going_ends start turns (debugger_at start turns old.at old_stops) (debugger_at start turns new.at new_stops) text new.board.cores new.board.bus goes.1
    (subst (λ (l : List ℕ). length l ≤ new.at) goes.0.turns_are past) is)

-- the history at another turn, where the points have looked
pub there : (start : Board) (turns : List ℕ) (turn : ℕ) (middle new : History) (old_stops new_stops : Stops) → Tells middle start turns → Tells new start turns
    → middle.at ≡ min turn (length turns) → new.at ≡ middle.at
    → ((now : Board) → IsBoard middle.board.cores middle.board.bus now → HasLooked now.world.ram old_stops new_stops)
    → IsThere start turns turn old_stops new new_stops
there start turns turn middle new old_stops new_stops tells new_tells moved stays looks =
    let at : new.at ≡ min turn (length turns) = stays ∙ moved in
    let here : IsAfter start turns new.at middle.board.cores middle.board.bus = subst (λ (n : ℕ). IsAfter start turns n middle.board.cores middle.board.bus) (sym stays) tells.here in
    let look = looks here.now here.is in
    record {
      stands = record { tells = new_tells; seen_is = seen_behind start turns new.at middle.board.cores middle.board.bus here new_stops look.seen_is };
      state = ap (λ (t : ℕ). record { turn = t; points = points_of new_stops }) at ∙ ap (λ (p : Points). record { turn = min turn (length turns); points = p }) look.points;
    }
