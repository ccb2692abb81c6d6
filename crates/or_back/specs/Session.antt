-- The backward debugger's text: what a script shows of a schedule's turns, as it goes forward and back over them.
use Rattle.std.specs.Prelude.{ℕ, zero, suc, ◌+◌, ◌-◌, min, if◌then◌else◌, List, [], ◌∷◌, ◌++◌, codes, Option, Some, None, Result, Ok, Err, length}
use Rattle.or_words.specs.declared.Config.{Config}
use Rattle.or_script.specs.declared.command.LineFault.{LineFault}
use Rattle.or_model.specs.Turn.{Board}
use Rattle.or_debug.specs.Hits.{hit_lines, is_empty}
use Rattle.or_debug.specs.Session.{State, first_state, state_after, answer, at_line}
use Rattle.or_back.specs.declared.lines.BackCommand.{BackCommand}
use Rattle.or_back.specs.declared.lines.BackCommand.TheVariants.{Plain, Back, To, GoBack}
use Rattle.or_back.specs.Script.{back_script_of}

-- another turn, with the same points
abbrev pub at_turn : State → ℕ → State
at_turn state turn = record state { turn = turn }

-- the last of the first so many turns that has lines of hits
abbrev pub last_hit : (ℕ → List ℕ) → ℕ → Option ℕ
last_hit lines zero = None
last_hit lines (suc n) = if is_empty (lines n) then last_hit lines n else Some n

-- the place of the last turn that hits something, of those before the one that was made last
unfoldable pub hit_before : Board → List ℕ → State → Option ℕ
hit_before start turns state = last_hit (hit_lines start turns state.points) (state.turn - 1)

-- rgo stops behind that turn, or before the first one
abbrev pub back_stop : Option ℕ → ℕ
back_stop None = 0
back_stop (Some n) = n + 1

abbrev pub back_stop_text : Board → List ℕ → State → Option ℕ → List ℕ
back_stop_text start turns state None = codes "start turn 0\n"
back_stop_text start turns state (Some n) = hit_lines start turns state.points n

-- the state after a command
abbrev pub back_state_after : Board → List ℕ → State → BackCommand → State
back_state_after start turns state (Plain command) = state_after start turns state command
back_state_after start turns state (Back n) = at_turn state (state.turn - n)
back_state_after start turns state (To n) = at_turn state (min n (length turns))
back_state_after start turns state GoBack = at_turn state (back_stop (hit_before start turns state))

-- what a command writes: at turn T a line of the debugger writes what the debugger writes that has followed the first T turns
abbrev pub back_answer : Board → List ℕ → State → BackCommand → List ℕ
back_answer start turns state (Plain command) = answer start turns state command
back_answer start turns state (Back n) = at_line (state.turn - n)
back_answer start turns state (To n) = at_line (min n (length turns))
back_answer start turns state GoBack = back_stop_text start turns state (hit_before start turns state)

-- what commands write, from a state on
abbrev pub back_session_from : Board → List ℕ → State → List BackCommand → List ℕ
back_session_from start turns state [] = []
back_session_from start turns state (command ∷ commands) =
    back_answer start turns state command ++ back_session_from start turns (back_state_after start turns state command) commands

abbrev pub back_commands_in : Result (List BackCommand) (LineFault × ℕ) → List BackCommand
back_commands_in (Ok commands) = commands
back_commands_in (Err refusal) = []

-- BACKSESSION: the text of a script without fault
unfoldable pub back_session_text : Config → Board → List ℕ → List ℕ → List ℕ
back_session_text config start turns script = back_session_from start turns first_state (back_commands_in (back_script_of config script))
