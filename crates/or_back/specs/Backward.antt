-- How the backward debugger stands, and what it answers.
use Rattle.std.specs.Prelude.{◌≡◌, ℕ, ◌+◌, min, List, ◌++◌, Option, Some, None, length, Result, Ok, Err}
use Rattle.std.specs.Option.{option_or}
use Rattle.or_script.specs.declared.command.LineFault.{LineFault}
use Rattle.or_script.specs.declared.fault.ScriptFault.{ScriptFault}
use Rattle.or_script.specs.declared.fault.ScriptFault.TheVariants.{BadCommand, OutOfRange, NoMemory}
use Rattle.or_model.specs.Turn.{Board}
use Rattle.or_debug.specs.Turns.{after}
use Rattle.or_debug.specs.Points.{Points}
use Rattle.or_debug.specs.Hits.{ram_in, hit_lines}
use Rattle.or_debug.specs.Session.{State, at_line}
use Rattle.or_debug.specs.Standing.{HasSeen, points_of}
use Rattle.or_back.specs.declared.history.History.{History}
use Rattle.or_debug.specs.declared.stops.Stops.{Stops}
use Rattle.or_back.specs.declared.lines.BackCommand.{BackCommand}
use Rattle.or_back.specs.Script.{back_fault_of}
use Rattle.or_back.specs.Session.{last_hit, back_state_after, back_answer}
use Rattle.or_back.specs.Tells.{Tells}

-- the state at a turn, with these points
abbrev pub state_at : ℕ → Stops → State
state_at n stops = record { turn = n; points = points_of stops }

-- the history is of these turns, and the points have seen RAM where it stands
pub record StandsBack (history : History) (stops : Stops) (start : Board) (turns : List ℕ) : Type 0 where
  pub tells : Tells history start turns
  pub seen_is : HasSeen (ram_in (after start turns history.at)) stops

-- it stands there with the same points
pub record StandsWith (start : Board) (turns : List ℕ) (points : Points) (history : History) (stops : Stops) : Type 0 where
  pub stands : StandsBack history stops start turns
  pub points_are : points_of stops ≡ points

-- of the turns from a place on, up to where the history stands, the last is known that hits something
pub record Searches (start : Board) (turns : List ℕ) (points : Points) (from : ℕ) (found : Option ℕ) (history : History) (stops : Stops) : Type 0 where
  pub stands : StandsWith start turns points history stops
  pub last : last_hit (hit_lines start turns points) history.at ≡ option_or found (last_hit (hit_lines start turns points) from)

-- the next turn was made, with the lines of what it hits
pub record IsNext (start : Board) (turns : List ℕ) (old : History) (old_stops : Stops) (before : List ℕ) (new : History) (new_stops : Stops) (later : List ℕ) : Type 0 where
  pub stands : StandsBack new new_stops start turns
  pub state : state_at new.at new_stops ≡ record { turn = old.at + 1; points = points_of old_stops }
  pub text : later ≡ before ++ hit_lines start turns (points_of old_stops) old.at

-- the history went to a turn, or to the last where there are fewer
pub record IsThere (start : Board) (turns : List ℕ) (turn : ℕ) (old_stops : Stops) (new : History) (new_stops : Stops) : Type 0 where
  pub stands : StandsBack new new_stops start turns
  pub state : state_at new.at new_stops ≡ state_at (min turn (length turns)) old_stops

-- and says so
pub record IsGone (start : Board) (turns : List ℕ) (turn : ℕ) (old_stops : Stops) (new : History) (new_stops : Stops) (text : List ℕ) : Type 0 where
  pub stands : StandsBack new new_stops start turns
  pub state : state_at new.at new_stops ≡ state_at (min turn (length turns)) old_stops
  pub text_is : text ≡ at_line (min turn (length turns))

-- a command was answered
pub record IsBackAnswered (start : Board) (turns : List ℕ) (old : History) (old_stops : Stops) (command : BackCommand) (text : List ℕ) (new : History) (new_stops : Stops) : Type 0 where
  pub stands : StandsBack new new_stops start turns
  pub state : state_at new.at new_stops ≡ back_state_after start turns (state_at old.at old_stops) command
  pub text_is : text ≡ back_answer start turns (state_at old.at old_stops) command

-- and its text was appended
pub record IsAppended (start : Board) (turns : List ℕ) (old : History) (old_stops : Stops) (command : BackCommand) (before later : List ℕ) (new : History) (new_stops : Stops) : Type 0 where
  pub stands : StandsBack new new_stops start turns
  pub state : state_at new.at new_stops ≡ back_state_after start turns (state_at old.at old_stops) command
  pub text : later ≡ before ++ back_answer start turns (state_at old.at old_stops) command

-- the front of a text was appended
pub record IsFront (whole before later : List ℕ) : Type 0 where
  pub front : List ℕ
  pub rest : List ℕ
  pub parts : whole ≡ front ++ rest
  pub text : later ≡ before ++ front

-- the fault of the script exactly where it has one; memory may run out where it has none
abbrev pub AnswersBackScript : {X : Type 0} → Result X ScriptFault → Result (List BackCommand) (LineFault × ℕ) → Type 0
AnswersBackScript (Ok done) script = back_fault_of script ≡ None
AnswersBackScript (Err (BadCommand line)) script = back_fault_of script ≡ Some (BadCommand line)
AnswersBackScript (Err (OutOfRange line)) script = back_fault_of script ≡ Some (OutOfRange line)
AnswersBackScript (Err NoMemory) script = back_fault_of script ≡ None
