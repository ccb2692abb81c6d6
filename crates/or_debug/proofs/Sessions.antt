-- Commands that are answered one by one.
use Rattle.std.proofs.Common.{◌≡◌, ◌∙◌, refl, sym, ap, subst, ℕ, ◌+◌, ◌<◌, ◌≤◌, List, [], ◌∷◌, ◌++◌, length, drop, get_or, add-one, append_assoc, append-nil, arith}
use Rattle.std.proofs.Math.Seq.{drop-cons}
use Rattle.std.proofs.lemmas.List.{drop_all}
use Rattle.or_script.specs.declared.command.Command.{Command}
use Rattle.or_model.specs.Core.{Core}
use Rattle.or_model.specs.Turn.{Board}
use Rattle.or_bus.specs.State.{BusState}
use Rattle.circular_buffer.specs.Buffer.{buffer}
use Rattle.or_words.specs.declared.Config.{Config}
use Rattle.or_replay.specs.Board.{IsBoard}
use Rattle.or_debug.specs.Turns.{after, turns_made, last_of}
use Rattle.or_debug.specs.Hits.{ram_in}
use Rattle.or_debug.specs.declared.debugger.Debugger.{Debugger}
use Rattle.or_debug.specs.Session.{State, first_state, answer, session_from, state_behind, session_text}
use Rattle.or_debug.specs.Standing.{IsAfter, Reaches, Stands, HasSeen, state_of}
use Rattle.or_debug.specs.Answers.{IsPart, IsAdded, AreAnswered, SomeAnswered, IsRun, IsRunInPart}

-- the commands up to a place were answered
pub record IsUpTo (start : Board) (turns : List ℕ) (first : State) (commands : List Command) (place : ℕ) (before later : List ℕ) (debugger : Debugger) (cores : List Core) (bus : BusState) : Type 0 where
  pub stands : Stands start turns debugger cores bus
  pub front : List ℕ
  pub text : later ≡ before ++ front
  pub parts : session_from start turns first commands ≡ front ++ session_from start turns (state_of debugger) (drop place commands)
  pub state : state_behind start turns first commands ≡ state_behind start turns (state_of debugger) (drop place commands)

-- the command at a place, and those behind it
at_place : (commands : List Command) (place : ℕ) (command : Command) → place < length commands → drop place commands ≡ get_or commands place command ∷ drop (place + 1) commands
at_place commands place command inside = drop-cons commands place command inside ∙ ap (λ n. get_or commands place command ∷ drop n commands) (sym (add-one place))

pub up_to_more : (start : Board) (turns : List ℕ) (first : State) (commands : List Command) (place : ℕ) (command : Command) (before middle later : List ℕ) (old new : Debugger)
    (cores new_cores : List Core) (bus new_bus : BusState) → IsUpTo start turns first commands place before middle old cores bus → place < length commands
    → IsAdded start turns old (get_or commands place command) middle later new new_cores new_bus
    → IsUpTo start turns first commands (place + 1) before later new new_cores new_bus
up_to_more start turns first commands place command before middle later old new cores new_cores bus new_bus up_to inside added =
    let here = get_or commands place command in
    let rest = drop (place + 1) commands in
    let cut = at_place commands place command inside in
    let text = answer start turns (state_of old) here in
    record {
      stands = added.stands;
      front = up_to.front ++ text;
      text = added.text ∙ ap (λ l. l ++ text) up_to.text ∙ append_assoc before up_to.front text;
      parts = up_to.parts ∙ ap (λ l. up_to.front ++ session_from start turns (state_of old) l) cut
          ∙ ap (λ s. up_to.front ++ (text ++ session_from start turns s rest)) (sym added.state)
          ∙ sym (append_assoc up_to.front text (session_from start turns (state_of new) rest));
      state = up_to.state ∙ ap (state_behind start turns (state_of old)) cut ∙ ap (λ s. state_behind start turns s rest) (sym added.state);
    }

pub up_to_none : (start : Board) (turns : List ℕ) (commands : List Command) (before : List ℕ) (debugger : Debugger) (cores : List Core) (bus : BusState) → Stands start turns debugger cores bus
    → IsUpTo start turns (state_of debugger) commands 0 before before debugger cores bus
up_to_none start turns commands before debugger cores bus stands = record { stands = stands; front = []; text = sym (append-nil before); parts = refl; state = refl }

pub up_to_all : (start : Board) (turns : List ℕ) (first : State) (commands : List Command) (place : ℕ) (before later : List ℕ) (debugger : Debugger) (cores : List Core) (bus : BusState)
    → IsUpTo start turns first commands place before later debugger cores bus → length commands ≤ place → AreAnswered start turns first commands before later debugger cores bus
up_to_all start turns first commands place before later debugger cores bus up_to past =
    let none = drop_all place commands past in
    record {
      stands = up_to.stands;
      text = up_to.text ∙ ap (λ l. before ++ l) (sym (up_to.parts ∙ ap (λ l. up_to.front ++ session_from start turns (state_of debugger) l) none ∙ append-nil up_to.front));
      state = sym (up_to.state ∙ ap (state_behind start turns (state_of debugger)) none);
    }

pub up_to_some : (start : Board) (turns : List ℕ) (first : State) (commands : List Command) (place : ℕ) (before middle later : List ℕ) (old new : Debugger)
    (cores new_cores : List Core) (bus new_bus : BusState) → IsUpTo start turns first commands place before middle old cores bus → later ≡ middle
    → Reaches start turns new.turn new.last new_cores new_bus → SomeAnswered start turns first commands before later new new_cores new_bus
up_to_some start turns first commands place before middle later old new cores new_cores bus new_bus up_to same reaches = record {
  front = up_to.front;
  rest = session_from start turns (state_of old) (drop place commands);
  parts = up_to.parts;
  text = same ∙ up_to.text;
  reaches = reaches;
}

-- the board before the first turn
at_start : (start : Board) (turns : List ℕ) (cores : List Core) (bus : BusState) → IsBoard cores bus start → IsAfter start turns 0 cores bus
at_start start turns cores bus is = record { now = start; reached = refl; is = is; within = omega arith }

pub nothing_run : (start : Board) (turns : List ℕ) (commands : List Command) (before : List ℕ) (cores : List Core) (bus : BusState) → IsBoard cores bus start
    → IsRunInPart start turns commands before before cores bus
nothing_run start turns commands before cores bus is = record {
  front = [];
  rest = session_from start turns first_state commands;
  parts = refl;
  text = sym (append-nil before);
  followed = 0;
  board = at_start start turns cores bus is;
}

pub nothing_written : (config : Config) (start : Board) (turns script before : List ℕ) (cores : List Core) (bus : BusState) → IsBoard cores bus start
    → IsPart config start turns script before before cores bus
nothing_written config start turns script before cores bus is = record {
  front = [];
  rest = session_text config start turns script;
  parts = refl;
  text = sym (append-nil before);
  followed = 0;
  board = at_start start turns cores bus is;
}

-- a debugger that has followed no turn
pub fresh : (start : Board) (turns : List ℕ) (debugger : Debugger) (cores : List Core) (bus : BusState) → IsBoard cores bus start → state_of debugger ≡ first_state
    → ((ram : List ℕ) → HasSeen ram debugger.stops) → debugger.last ≡ buffer [] 64 → Stands start turns debugger cores bus
fresh start turns debugger cores bus is state none last =
    let turn : debugger.turn ≡ 0 = ap (λ (s : State). s.turn) state in
    let board : IsAfter start turns debugger.turn cores bus = subst (λ n. IsAfter start turns n cores bus) (sym turn) (at_start start turns cores bus is) in
    record {
      reaches = record {
        board = board;
        ring = last ∙ ap (λ n. buffer (last_of 64 (turns_made start turns n)) 64) (sym turn);
      };
      seen_is = none (ram_in (after start turns debugger.turn));
    }

pub run_all : (start : Board) (turns : List ℕ) (first last : Debugger) (commands : List Command) (before later : List ℕ) (cores : List Core) (bus : BusState) → state_of first ≡ first_state
    → AreAnswered start turns (state_of first) commands before later last cores bus → IsRun start turns commands before later cores bus
run_all start turns first last commands before later cores bus state all =
    let turn = ap (λ (s : State). s.turn) (all.state ∙ ap (λ s. state_behind start turns s commands) state) in
    record {
      text = all.text ∙ ap (λ s. before ++ session_from start turns s commands) state;
      board = subst (λ n. IsAfter start turns n cores bus) turn all.stands.reaches.board;
    }

pub run_some : (start : Board) (turns : List ℕ) (first last : Debugger) (commands : List Command) (before later : List ℕ) (cores : List Core) (bus : BusState) → state_of first ≡ first_state
    → SomeAnswered start turns (state_of first) commands before later last cores bus → IsRunInPart start turns commands before later cores bus
run_some start turns first last commands before later cores bus state some = record {
  front = some.front;
  rest = some.rest;
  parts = ap (λ s. session_from start turns s commands) (sym state) ∙ some.parts;
  text = some.text;
  followed = last.turn;
  board = some.reaches.board;
}
