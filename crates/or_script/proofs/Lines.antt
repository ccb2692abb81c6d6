-- The lines of a script, one by one.
use Rattle.std.proofs.Common.{◌≡◌, ◌∙◌, refl, sym, ap, ℕ, ◌+◌, List, [], ◌∷◌, ◌++◌, append_assoc, Result, Ok, Err}
use Rattle.or_words.specs.declared.Config.{Config}
use Rattle.or_script.specs.declared.command.Command.{Command}
use Rattle.or_script.specs.declared.command.LineFault.{LineFault}
use Rattle.or_script.specs.declared.script.Points.{Points}
use Rattle.or_script.specs.Script.{points_after, command_at, onto, after_line, script_from, fault_of, behind}

-- what lines say that begin with a command
pub script_ok : (config : Config) (number : ℕ) (points : Points) (line : List ℕ) (lines : List (List ℕ)) (command : Command) → command_at config points line ≡ Ok command
    → script_from config number points (line ∷ lines) ≡ onto command (script_from config (number + 1) (points_after points command) lines)
script_ok config number points line lines command ok =
    ap (λ (r : Result Command LineFault). after_line number r (λ command. script_from config (number + 1) (points_after points command) lines)) ok

pub script_err : (config : Config) (number : ℕ) (points : Points) (line : List ℕ) (lines : List (List ℕ)) (fault : LineFault) → command_at config points line ≡ Err fault
    → script_from config number points (line ∷ lines) ≡ Err (fault, number)
script_err config number points line lines fault err =
    ap (λ (r : Result Command LineFault). after_line number r (λ command. script_from config (number + 1) (points_after points command) lines)) err

fault_onto : (command : Command) (later : Result (List Command) (LineFault × ℕ)) → fault_of (onto command later) ≡ fault_of later
fault_onto command (Ok commands) = refl
fault_onto command (Err refusal) = refl

-- a line without fault leaves the fault of the script to those behind it
pub fault_later : (config : Config) (number : ℕ) (points next : Points) (line : List ℕ) (parts lines : List (List ℕ)) (command : Command) → command_at config points line ≡ Ok command
    → parts ≡ line ∷ lines → next ≡ points_after points command
    → fault_of (script_from config number points parts) ≡ fault_of (script_from config (number + 1) next lines)
fault_later config number points next line parts lines command ok cut after =
    ap (λ l. fault_of (script_from config number points l)) cut ∙ ap fault_of (script_ok config number points line lines command ok)
    ∙ fault_onto command (script_from config (number + 1) (points_after points command) lines)
    ∙ ap (λ (p : Points). fault_of (script_from config (number + 1) p lines)) (sym after)

pub fault_here : (config : Config) (number : ℕ) (points : Points) (line : List ℕ) (parts lines : List (List ℕ)) (fault : LineFault) → command_at config points line ≡ Err fault
    → parts ≡ line ∷ lines → script_from config number points parts ≡ Err (fault, number)
fault_here config number points line parts lines fault err cut =
    ap (script_from config number points) cut ∙ script_err config number points line lines fault err

behind_onto : (commands : List Command) (command : Command) (later : Result (List Command) (LineFault × ℕ)) → behind commands (onto command later) ≡ behind (commands ++ command ∷ []) later
behind_onto commands command (Ok others) = ap Ok (sym (append_assoc commands (command ∷ []) others))
behind_onto commands command (Err refusal) = refl

-- one command more stands before those behind it
pub command_later : (config : Config) (number : ℕ) (points next : Points) (line : List ℕ) (parts lines : List (List ℕ)) (command : Command) (old new : List Command)
    → command_at config points line ≡ Ok command → parts ≡ line ∷ lines → next ≡ points_after points command → new ≡ old ++ command ∷ []
    → behind old (script_from config number points parts) ≡ behind new (script_from config (number + 1) next lines)
command_later config number points next line parts lines command old new ok cut after pushed =
    ap (λ l. behind old (script_from config number points l)) cut ∙ ap (behind old) (script_ok config number points line lines command ok)
    ∙ behind_onto old command (script_from config (number + 1) (points_after points command) lines)
    ∙ ap (λ (p : Points). behind (old ++ command ∷ []) (script_from config (number + 1) p lines)) (sym after)
    ∙ ap (λ l. behind l (script_from config (number + 1) next lines)) (sym pushed)

pub fault_behind : (commands : List Command) (later : Result (List Command) (LineFault × ℕ)) → fault_of (behind commands later) ≡ fault_of later
fault_behind commands (Ok others) = refl
fault_behind commands (Err refusal) = refl

pub behind_none : (later : Result (List Command) (LineFault × ℕ)) → behind [] later ≡ later
behind_none (Ok others) = refl
behind_none (Err refusal) = refl

pub ruleset lines = (fault_later, fault_here, command_later, fault_behind, behind_none)
