-- What a script says: the commands of its lines, or the fault of its first faulty line.
use Rattle.std.specs.Prelude.{◌≡◌, ℕ, ◌+◌, ◌≤◌, ◌==◌, nat_lt, if◌then◌else◌, List, [], ◌∷◌, ◌++◌, Option, Some, None, Result, Ok, Err}
use Rattle.std.specs.List.{slice_split}
use Rattle.or_words.specs.declared.Config.{Config}
use Rattle.or_words.specs.declared.limits.TheConstants.{MOST_POINTS}
use Rattle.or_script.specs.declared.command.Command.{Command}
use Rattle.or_script.specs.declared.command.Command.TheVariants.{Nothing, Go, Turn, Break, Watch, Stores, Registers, Memory, Lines, Last}
use Rattle.or_script.specs.declared.command.LineFault.{LineFault}
use Rattle.or_script.specs.declared.command.LineFault.TheVariants as line_fault
use Rattle.or_script.specs.declared.fault.ScriptFault.{ScriptFault}
use Rattle.or_script.specs.declared.fault.ScriptFault.TheVariants.{BadCommand, OutOfRange, NoMemory}
use Rattle.or_script.specs.declared.script.Points.{Points}
use Rattle.or_script.specs.Command.{command_of}

abbrev pub no_points : Points
no_points = record { breaks = 0; watches = 0; stores = 0 }

-- the points with those of one more command
abbrev pub points_after : Points → Command → Points
points_after points (Break core pc) = record points { breaks = points.breaks + 1 }
points_after points (Watch address) = record points { watches = points.watches + 1 }
points_after points (Stores address) = record points { stores = points.stores + 1 }
points_after points Nothing = points
points_after points Go = points
points_after points (Turn n) = points
points_after points (Registers core) = points
points_after points (Memory address words) = points
points_after points (Lines core) = points
points_after points (Last n) = points

abbrev pub AreFew : Points → Type 0
AreFew points = (points.breaks ≤ MOST_POINTS) × ((points.watches ≤ MOST_POINTS) × (points.stores ≤ MOST_POINTS))

-- there is room for so many points of each kind
abbrev pub with_room : Points → Command → Result Command LineFault
with_room points (Break core pc) = if nat_lt points.breaks MOST_POINTS then Ok (Break core pc) else Err line_fault.OutOfRange
with_room points (Watch address) = if nat_lt points.watches MOST_POINTS then Ok (Watch address) else Err line_fault.OutOfRange
with_room points (Stores address) = if nat_lt points.stores MOST_POINTS then Ok (Stores address) else Err line_fault.OutOfRange
with_room points Nothing = Ok Nothing
with_room points Go = Ok Go
with_room points (Turn n) = Ok (Turn n)
with_room points (Registers core) = Ok (Registers core)
with_room points (Memory address words) = Ok (Memory address words)
with_room points (Lines core) = Ok (Lines core)
with_room points (Last n) = Ok (Last n)

abbrev pub unless_full : Points → Result Command LineFault → Result Command LineFault
unless_full points (Ok command) = with_room points command
unless_full points (Err fault) = Err fault

-- the command of a line behind others that give so many points
unfoldable pub command_at : Config → Points → List ℕ → Result Command LineFault
command_at config points line = unless_full points (command_of config line)

abbrev pub onto : Command → Result (List Command) (LineFault × ℕ) → Result (List Command) (LineFault × ℕ)
onto command (Ok commands) = Ok (command ∷ commands)
onto command (Err refusal) = Err refusal

abbrev pub after_line : ℕ → Result Command LineFault → (Command → Result (List Command) (LineFault × ℕ)) → Result (List Command) (LineFault × ℕ)
after_line number (Err fault) later = Err (fault, number)
after_line number (Ok command) later = onto command (later command)

-- the commands of lines, the first of which has this number and stands behind so many points
abbrev pub script_from : Config → ℕ → Points → List (List ℕ) → Result (List Command) (LineFault × ℕ)
script_from config number points [] = Ok []
script_from config number points (line ∷ lines) =
    after_line number (command_at config points line) (λ command. script_from config (number + 1) (points_after points command) lines)

-- lines stand between line feeds, so behind the last one stands an empty line, or one that lacks its line feed
unfoldable pub script_of : Config → List ℕ → Result (List Command) (LineFault × ℕ)
script_of config script = script_from config 1 no_points (slice_split (λ b. b == 10) script)

-- the fault of a script as it is answered
abbrev pub fault_at : LineFault → ℕ → ScriptFault
fault_at line_fault.BadCommand line = BadCommand line
fault_at line_fault.OutOfRange line = OutOfRange line

abbrev pub fault_of : Result (List Command) (LineFault × ℕ) → Option ScriptFault
fault_of (Ok commands) = None
fault_of (Err refusal) = Some (fault_at refusal.0 refusal.1)

-- an answer of the check: the fault of the least line, exactly where there is one
abbrev pub IsChecked : {X : Type 0} → Result X ScriptFault → Result (List Command) (LineFault × ℕ) → Type 0
IsChecked (Ok _) script = fault_of script ≡ None
IsChecked (Err fault) script = fault_of script ≡ Some fault

-- the number of a fault, 1 to 3, and its line
abbrev pub number_of_fault : ScriptFault → ℕ
number_of_fault (BadCommand line) = 1
number_of_fault (OutOfRange line) = 2
number_of_fault NoMemory = 3

abbrev pub line_of_fault : ScriptFault → Option ℕ
line_of_fault (BadCommand line) = Some line
line_of_fault (OutOfRange line) = Some line
line_of_fault NoMemory = None

-- the commands behind others
abbrev pub behind : List Command → Result (List Command) (LineFault × ℕ) → Result (List Command) (LineFault × ℕ)
behind commands (Ok others) = Ok (commands ++ others)
behind commands (Err refusal) = Err refusal
