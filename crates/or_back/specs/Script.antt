-- What a script of the backward debugger says: the commands of its lines, or the fault of its first faulty line.
use Rattle.std.specs.Prelude.{◌≡◌, ℕ, ◌+◌, ◌==◌, List, [], ◌∷◌, ◌++◌, Option, Some, None, Result, Ok, Err}
use Rattle.std.specs.List.{slice_split}
use Rattle.or_words.specs.declared.Config.{Config}
use Rattle.or_script.specs.declared.command.LineFault.{LineFault}
use Rattle.or_script.specs.declared.fault.ScriptFault.{ScriptFault}
use Rattle.or_script.specs.declared.script.Points.{Points}
use Rattle.or_script.specs.Script.{no_points, fault_at}
use Rattle.or_back.specs.declared.lines.BackCommand.{BackCommand}
use Rattle.or_back.specs.Lines.{back_command_at, back_points_after}

abbrev pub onto : BackCommand → Result (List BackCommand) (LineFault × ℕ) → Result (List BackCommand) (LineFault × ℕ)
onto command (Ok commands) = Ok (command ∷ commands)
onto command (Err refusal) = Err refusal

abbrev pub after_line : ℕ → Result BackCommand LineFault → (BackCommand → Result (List BackCommand) (LineFault × ℕ)) → Result (List BackCommand) (LineFault × ℕ)
after_line number (Err fault) later = Err (fault, number)
after_line number (Ok command) later = onto command (later command)

-- the commands of lines, the first of which has this number and stands behind so many points
abbrev pub back_script_from : Config → ℕ → Points → List (List ℕ) → Result (List BackCommand) (LineFault × ℕ)
back_script_from config number points [] = Ok []
back_script_from config number points (line ∷ lines) =
    after_line number (back_command_at config points line) (λ command. back_script_from config (number + 1) (back_points_after points command) lines)

-- lines stand between line feeds, so behind the last one stands an empty line, or one that lacks its line feed
unfoldable pub back_script_of : Config → List ℕ → Result (List BackCommand) (LineFault × ℕ)
back_script_of config script = back_script_from config 1 no_points (slice_split (λ b. b == 10) script)

-- the fault of a script as it is answered
abbrev pub back_fault_of : Result (List BackCommand) (LineFault × ℕ) → Option ScriptFault
back_fault_of (Ok commands) = None
back_fault_of (Err refusal) = Some (fault_at refusal.0 refusal.1)

-- an answer of the check: the fault of the least line, exactly where there is one
abbrev pub IsBackChecked : {X : Type 0} → Result X ScriptFault → Result (List BackCommand) (LineFault × ℕ) → Type 0
IsBackChecked (Ok _) script = back_fault_of script ≡ None
IsBackChecked (Err fault) script = back_fault_of script ≡ Some fault

-- the commands behind others
abbrev pub behind : List BackCommand → Result (List BackCommand) (LineFault × ℕ) → Result (List BackCommand) (LineFault × ℕ)
behind commands (Ok others) = Ok (commands ++ others)
behind commands (Err refusal) = Err refusal
