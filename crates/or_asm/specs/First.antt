-- What it means that a line is the first with a fault.
use Rattle.std.specs.Prelude.{◌≡◌, ℕ, ◌+◌, List, [], ◌∷◌, ◌++◌, length, Some, None}
use Rattle.or_asm_read.specs.AtFault.{word_at_fault}
use Rattle.or_asm_read.specs.Labels.{Labels}
use Rattle.or_asm.specs.Lines.{lines_of, labels_from}
use Rattle.or_asm.specs.Source.{State, initial_state, line_fault, state_after, SourceFault}

-- lines without fault lead from one state to another
abbrev pub RunsWithoutFault : Labels → State → List (List ℕ) → State → Type 0
RunsWithoutFault labels from [] to = from ≡ to
RunsWithoutFault labels from (line ∷ lines) to = (line_fault labels from line ≡ None) × RunsWithoutFault labels (state_after labels from line) lines to

abbrev pub all_labels : List ℕ → Labels
all_labels text = labels_from 0x100 (lines_of text)

-- the line of this number has the fault as its least, which is about this word, and no line before it has any
pub record IsFirstFault (text : List ℕ) (refusal : SourceFault) : Type 0 where
  pub front : List (List ℕ)
  pub line : List ℕ
  pub rest : List (List ℕ)
  pub state : State
  pub parts : lines_of text ≡ front ++ line ∷ rest
  pub counts : refusal.line ≡ 1 + length front
  pub leads : RunsWithoutFault (all_labels text) initial_state front state
  pub faulty : line_fault (all_labels text) state line ≡ Some refusal.fault
  pub about : refusal.word ≡ word_at_fault (all_labels text) state.place line refusal.fault

-- no line has a fault, and the lines put these pieces
pub record IsProgram (text : List ℕ) (pieces : List (ℕ × List ℕ)) : Type 0 where
  pub state : State
  pub leads : RunsWithoutFault (all_labels text) initial_state (lines_of text) state
  pub puts : state.pieces ≡ pieces
