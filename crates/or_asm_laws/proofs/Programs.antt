-- What lines without a fault put is the program of their source.
use Rattle.std.proofs.Common.{◌≡◌, ◌∙◌, ap, ℕ, ◌+◌, List, [], ◌∷◌, Ok}
use Rattle.or_asm_read.specs.Labels.{Labels}
use Rattle.or_asm.specs.Lines.{lines_of}
use Rattle.or_asm.specs.Source.{State, initial_state, state_after, fault_at, unless_fault, source_from, source_of}
use Rattle.or_asm.specs.First.{RunsWithoutFault, all_labels, IsProgram}

leads_to_end : (labels : Labels) (number : ℕ) (from to : State) (lines : List (List ℕ)) → RunsWithoutFault labels from lines to → source_from labels number from lines ≡ Ok to.pieces
leads_to_end labels number from to [] leads = ap (λ (s : State). Ok s.pieces) leads
leads_to_end labels number from to (line ∷ lines) leads =
    ap (λ v. unless_fault (fault_at labels number from line) v (source_from labels (number + 1) (state_after labels from line) lines)) leads.0
    ∙ leads_to_end labels (number + 1) (state_after labels from line) to lines leads.1

pub is_program : (text : List ℕ) (pieces : List (ℕ × List ℕ)) → IsProgram text pieces → source_of text ≡ Ok pieces
unfolding source_of
is_program text pieces is = leads_to_end (all_labels text) 1 initial_state is.state (lines_of text) is.leads ∙ ap Ok is.puts
