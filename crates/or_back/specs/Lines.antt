-- The lines of the backward debugger: those of the debugger, and three that go to another turn.
use Rattle.std.specs.Prelude.{ℕ, nat_le, if◌then◌else◌, ◌&&◌, List, [], ◌∷◌, codes, Option, Some, None, Result, Ok, Err}
use Rattle.std.specs.Str.{bytes_eq}
use Rattle.or_words.specs.declared.Config.{Config}
use Rattle.or_script.specs.declared.command.Command.{Command}
use Rattle.or_script.specs.declared.command.LineFault.{LineFault}
use Rattle.or_script.specs.declared.command.LineFault.TheVariants.{BadCommand, OutOfRange}
use Rattle.or_script.specs.declared.script.Points.{Points}
use Rattle.or_script.specs.Operands.{number_of}
use Rattle.or_script.specs.Command.{is_word, words_of}
use Rattle.or_script.specs.Script.{command_at, points_after}
use Rattle.or_back.specs.declared.lines.BackCommand.{BackCommand}
use Rattle.or_back.specs.declared.lines.BackCommand.TheVariants.{Plain, Back, To, GoBack}

-- `back N`: 1 to 4294967295 turns
abbrev pub back_line : Option ℕ → Result BackCommand LineFault
back_line None = Err BadCommand
back_line (Some n) = if nat_le 1 n && is_word n then Ok (Back n) else Err OutOfRange

-- `to N`: turn 0 to 4294967295
abbrev pub to_line : Option ℕ → Result BackCommand LineFault
to_line None = Err BadCommand
to_line (Some n) = if is_word n then Ok (To n) else Err OutOfRange

abbrev pub move_alone : List ℕ → Option (Result BackCommand LineFault)
move_alone name = if bytes_eq name (codes "rgo") then Some (Ok GoBack) else None

abbrev pub move_named : List ℕ → List ℕ → Option (Result BackCommand LineFault)
move_named name word =
    if bytes_eq name (codes "back") then Some (back_line (number_of word))
    else (if bytes_eq name (codes "to") then Some (to_line (number_of word)) else None)

-- what a line of these words says that goes to another turn; none where it is no such line
abbrev pub move_of : List (List ℕ) → Option (Result BackCommand LineFault)
move_of [] = None
move_of (name ∷ []) = move_alone name
move_of (name ∷ word ∷ []) = move_named name word
move_of (name ∷ first ∷ second ∷ others) = None

-- a line of the debugger
abbrev pub plain : Result Command LineFault → Result BackCommand LineFault
plain (Ok command) = Ok (Plain command)
plain (Err fault) = Err fault

abbrev pub or_plain : Option (Result BackCommand LineFault) → Result Command LineFault → Result BackCommand LineFault
or_plain None line = plain line
or_plain (Some moved) line = moved

-- the command of a line behind others that give so many points
unfoldable pub back_command_at : Config → Points → List ℕ → Result BackCommand LineFault
back_command_at config points line = or_plain (move_of (words_of line)) (command_at config points line)

-- the points with those of one more command
abbrev pub back_points_after : Points → BackCommand → Points
back_points_after points (Plain command) = points_after points command
back_points_after points (Back n) = points
back_points_after points (To n) = points
back_points_after points GoBack = points
