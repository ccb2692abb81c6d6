-- The lines of a script of the backward debugger, one by one.
use Rattle.std.proofs.Common.{◌≡◌, ◌∙◌, refl, sym, ap, ℕ, ◌+◌, List, [], ◌∷◌, ◌++◌, append_assoc, Result, Ok, Err}
use Rattle.or_words.specs.declared.Config.{Config}
use Rattle.or_back.specs.declared.lines.BackCommand.{BackCommand}
use Rattle.or_script.specs.declared.command.LineFault.{LineFault}
use Rattle.or_script.specs.declared.script.Points.{Points}
use Rattle.or_back.specs.Lines.{back_command_at, back_points_after}
use Rattle.or_back.specs.Script.{onto, after_line, back_script_from, back_fault_of, behind}

-- what lines say that begin with a command
pub script_ok : (config : Config) (number : ℕ) (points : Points) (line : List ℕ) (lines : List (List ℕ)) (command : BackCommand) → back_command_at config points line ≡ Ok command
    → back_script_from config number points (line ∷ lines) ≡ onto command (back_script_from config (number + 1) (back_points_after points command) lines)
script_ok config number points line lines command ok =
    ap (λ (r : Result BackCommand LineFault). after_line number r (λ command. back_script_from config (number + 1) (back_points_after points command) lines)) ok

pub script_err : (config : Config) (number : ℕ) (points : Points) (line : List ℕ) (lines : List (List ℕ)) (fault : LineFault) → back_command_at config points line ≡ Err fault
    → back_script_from config number points (line ∷ lines) ≡ Err (fault, number)
script_err config number points line lines fault err =
    ap (λ (r : Result BackCommand LineFault). after_line number r (λ command. back_script_from config (number + 1) (back_points_after points command) lines)) err

fault_onto : (command : BackCommand) (later : Result (List BackCommand) (LineFault × ℕ)) → back_fault_of (onto command later) ≡ back_fault_of later
fault_onto command (Ok commands) = refl
fault_onto command (Err refusal) = refl

-- a line without fault leaves the fault of the script to those behind it
pub fault_later : (config : Config) (number : ℕ) (points next : Points) (line : List ℕ) (parts lines : List (List ℕ)) (command : BackCommand) → back_command_at config points line ≡ Ok command
    → parts ≡ line ∷ lines → next ≡ back_points_after points command
    → back_fault_of (back_script_from config number points parts) ≡ back_fault_of (back_script_from config (number + 1) next lines)
fault_later config number points next line parts lines command ok cut after =
    ap (λ l. back_fault_of (back_script_from config number points l)) cut ∙ ap back_fault_of (script_ok config number points line lines command ok)
    ∙ fault_onto command (back_script_from config (number + 1) (back_points_after points command) lines)
    ∙ ap (λ (p : Points). back_fault_of (back_script_from config (number + 1) p lines)) (sym after)

pub fault_here : (config : Config) (number : ℕ) (points : Points) (line : List ℕ) (parts lines : List (List ℕ)) (fault : LineFault) → back_command_at config points line ≡ Err fault
    → parts ≡ line ∷ lines → back_script_from config number points parts ≡ Err (fault, number)
fault_here config number points line parts lines fault err cut =
    ap (back_script_from config number points) cut ∙ script_err config number points line lines fault err

behind_onto : (commands : List BackCommand) (command : BackCommand) (later : Result (List BackCommand) (LineFault × ℕ)) → behind commands (onto command later) ≡ behind (commands ++ command ∷ []) later
behind_onto commands command (Ok others) = ap Ok (sym (append_assoc commands (command ∷ []) others))
behind_onto commands command (Err refusal) = refl

-- one command more stands before those behind it
pub command_later : (config : Config) (number : ℕ) (points next : Points) (line : List ℕ) (parts lines : List (List ℕ)) (command : BackCommand) (old new : List BackCommand)
    → back_command_at config points line ≡ Ok command → parts ≡ line ∷ lines → next ≡ back_points_after points command → new ≡ old ++ command ∷ []
    → behind old (back_script_from config number points parts) ≡ behind new (back_script_from config (number + 1) next lines)
command_later config number points next line parts lines command old new ok cut after pushed =
    ap (λ l. behind old (back_script_from config number points l)) cut ∙ ap (behind old) (script_ok config number points line lines command ok)
    ∙ behind_onto old command (back_script_from config (number + 1) (back_points_after points command) lines)
    ∙ ap (λ (p : Points). behind (old ++ command ∷ []) (back_script_from config (number + 1) p lines)) (sym after)
    ∙ ap (λ l. behind l (back_script_from config (number + 1) next lines)) (sym pushed)

pub fault_behind : (commands : List BackCommand) (later : Result (List BackCommand) (LineFault × ℕ)) → back_fault_of (behind commands later) ≡ back_fault_of later
fault_behind commands (Ok others) = refl
fault_behind commands (Err refusal) = refl

pub behind_none : (later : Result (List BackCommand) (LineFault × ℕ)) → behind [] later ≡ later
behind_none (Ok others) = refl
behind_none (Err refusal) = refl

pub ruleset lines = (fault_later, fault_here, command_later, fault_behind, behind_none)
