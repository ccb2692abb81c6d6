-- The debugger's text: what a script shows of a schedule's turns.
use Rattle.std.specs.Prelude.{ℕ, ◌+◌, ◌-◌, min, List, [], ◌∷◌, ◌++◌, codes, decimal, Option, Some, None, Result, Ok, Err, length}
use Rattle.or_words.specs.declared.Config.{Config}
use Rattle.or_script.specs.declared.command.Command.{Command}
use Rattle.or_script.specs.declared.command.Command.TheVariants.{Nothing, Go, Turn, Break, Watch, Stores, Registers, Memory, Lines, Last}
use Rattle.or_script.specs.declared.command.LineFault.{LineFault}
use Rattle.or_script.specs.Script.{script_of}
use Rattle.or_model.specs.Turn.{Board}
use Rattle.or_debug.specs.Turns.{after, turns_made, last_of}
use Rattle.or_debug.specs.Points.{Points, no_points, with_break, with_watch, with_store}
use Rattle.or_debug.specs.Hits.{hit_lines, first_hit}
use Rattle.or_debug.specs.BoardText.{registers_text, memory_text, lines_text, made_text}

-- the number of turns followed so far, and the points that were set
pub record State : Type 0 where
  pub turn : ℕ
  pub points : Points

-- where a session begins
abbrev pub first_state : State
first_state = record { turn = 0; points = no_points }

abbrev pub at_line : ℕ → List ℕ
at_line turn = codes "at turn " ++ decimal turn ++ codes "\n"

abbrev pub end_line : ℕ → List ℕ
end_line turn = codes "end turn " ++ decimal turn ++ codes "\n"

-- the place of the next turn that hits something
unfoldable pub next_hit : Board → List ℕ → State → Option ℕ
next_hit start turns state = first_hit (hit_lines start turns state.points) state.turn (length turns - state.turn)

-- go stops behind that turn, or behind the last one
abbrev pub stop_turn : List ℕ → Option ℕ → ℕ
stop_turn turns None = length turns
stop_turn turns (Some n) = n + 1

abbrev pub stop_text : Board → List ℕ → State → Option ℕ → List ℕ
stop_text start turns state None = end_line (length turns)
stop_text start turns state (Some n) = hit_lines start turns state.points n

-- the state after a command
abbrev pub state_after : Board → List ℕ → State → Command → State
state_after start turns state Nothing = state
state_after start turns state Go = record state { turn = stop_turn turns (next_hit start turns state) }
state_after start turns state (Turn n) = record state { turn = min (state.turn + n) (length turns) }
state_after start turns state (Break core pc) = record state { points = with_break state.points core pc }
state_after start turns state (Watch address) = record state { points = with_watch state.points address }
state_after start turns state (Stores address) = record state { points = with_store state.points address }
state_after start turns state (Registers core) = state
state_after start turns state (Memory address words) = state
state_after start turns state (Lines core) = state
state_after start turns state (Last n) = state

abbrev pub of_board : (Board → List ℕ) → Option Board → List ℕ
of_board text None = []
of_board text (Some board) = text board

-- what a command writes
abbrev pub answer : Board → List ℕ → State → Command → List ℕ
answer start turns state Nothing = []
answer start turns state Go = stop_text start turns state (next_hit start turns state)
answer start turns state (Turn n) = at_line (min (state.turn + n) (length turns))
answer start turns state (Break core pc) = []
answer start turns state (Watch address) = []
answer start turns state (Stores address) = []
answer start turns state (Registers core) = of_board (λ board. registers_text board core) (after start turns state.turn)
answer start turns state (Memory address words) = of_board (λ board. memory_text board.world.ram address words) (after start turns state.turn)
answer start turns state (Lines core) = of_board (λ board. lines_text board core) (after start turns state.turn)
answer start turns state (Last n) = made_text (last_of n (turns_made start turns state.turn))

-- what commands write, from a state on
abbrev pub session_from : Board → List ℕ → State → List Command → List ℕ
session_from start turns state [] = []
session_from start turns state (command ∷ commands) = answer start turns state command ++ session_from start turns (state_after start turns state command) commands

-- where they lead
abbrev pub state_behind : Board → List ℕ → State → List Command → State
state_behind start turns state [] = state
state_behind start turns state (command ∷ commands) = state_behind start turns (state_after start turns state command) commands

abbrev pub commands_in : Result (List Command) (LineFault × ℕ) → List Command
commands_in (Ok commands) = commands
commands_in (Err refusal) = []

-- SESSION: the text of a script without fault
unfoldable pub session_text : Config → Board → List ℕ → List ℕ → List ℕ
session_text config start turns script = session_from start turns first_state (commands_in (script_of config script))

-- how many turns a script without fault follows
unfoldable pub turns_followed : Config → Board → List ℕ → List ℕ → ℕ
turns_followed config start turns script = (state_behind start turns first_state (commands_in (script_of config script))).turn
