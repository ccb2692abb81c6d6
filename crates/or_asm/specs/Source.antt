-- What a source says: its program, or the fault of its first faulty line.
use Rattle.std.specs.Prelude.{◌≡◌, ℕ, ◌+◌, nat_le, if◌then◌else◌, Bool, true, false, ◌&&◌, ◌||◌, not, List, [], ◌∷◌, ◌++◌, length, take, Option, Some, None, Result, Ok, Err, is_some, option_map, MatchOption}
use Rattle.std.specs.List.{list_any}
use Rattle.std.specs.Option.{option_map_or}
use Rattle.or_words.specs.declared.limits.TheConstants.{MOST_RAM_BYTES, MOST_SEGMENTS}
use Rattle.or_asm_read.specs.declared.fault.Fault.{Fault}
use Rattle.or_asm_read.specs.declared.fault.Fault.TheVariants as fault
use Rattle.or_asm_read.specs.declared.statements.Statement.{Statement}
use Rattle.or_asm_read.specs.declared.statements.Statement.TheVariants.{Nothing, Place, Word}
use Rattle.or_asm_read.specs.Cuts.{is_clean, label_of, statement_of}
use Rattle.or_asm_read.specs.AtFault.{word_at_fault}
use Rattle.or_asm_read.specs.Faults.{lesser, number_of_fault}
use Rattle.or_asm_read.specs.Labels.{Labels, place_of}
use Rattle.or_asm_read.specs.Statements.{statement_at}
use Rattle.or_asm.specs.declared.fault.AsmFault.{AsmFault}
use Rattle.or_asm.specs.declared.fault.AsmFault.TheVariants as answer
use Rattle.or_asm.specs.declared.passes.Progress.{Progress}
use Rattle.or_asm.specs.Program.{covers, extended}
use Rattle.or_asm.specs.Lines.{lines_of, puts_word, labels_from}

-- where the lines so far lead: the place, how many labels they gave, whether the next word begins a piece, and the pieces
pub record State : Type 0 where
  pub place : ℕ
  pub labels_before : ℕ
  pub begins_piece : Bool
  pub pieces : List (ℕ × List ℕ)

abbrev pub fault_where : Bool → Fault → Option Fault
fault_where holds fault = if holds then Some fault else None

-- the lesser of two faults, if there are any
abbrev pub lesser_of : Option Fault → Option Fault → Option Fault
lesser_of None other = other
lesser_of (Some first) None = Some first
lesser_of (Some first) (Some second) = Some (lesser first second)

abbrev pub fault_in : Result Statement Fault → Option Fault
fault_in (Ok statement) = None
fault_in (Err fault) = Some fault

abbrev pub repeats : Labels → Option (List ℕ) → Bool
repeats labels None = false
repeats labels (Some name) = is_some (place_of labels name)

-- a word has no room at 10000000 (hexadecimal) or above, nor in a 65th piece
abbrev pub lacks_room : State → List ℕ → Bool
lacks_room state statement = puts_word statement && (nat_le MOST_RAM_BYTES state.place || (state.begins_piece && nat_le MOST_SEGMENTS (length state.pieces)))

abbrev pub overlaps : State → List ℕ → Bool
overlaps state statement = puts_word statement && list_any (covers state.place) state.pieces

-- the least of the faults of a line
unfoldable pub line_fault : Labels → State → List ℕ → Option Fault
line_fault labels state line =
    lesser_of (fault_where (not (is_clean line)) fault.BadLine)
    (lesser_of (fault_in (statement_at labels state.place (statement_of line)))
    (lesser_of (fault_where (lacks_room state (statement_of line)) fault.OutOfRange)
    (lesser_of (fault_where (repeats (take state.labels_before labels) (label_of line)) fault.RepeatedLabel)
    (fault_where (overlaps state (statement_of line)) fault.Overlap))))

-- how many labels a line gives
abbrev pub label_count : Option (List ℕ) → ℕ
label_count None = 0
label_count (Some name) = 1

abbrev pub with_word : Bool → ℕ → ℕ → List (ℕ × List ℕ) → List (ℕ × List ℕ)
with_word begins_piece place word pieces = if begins_piece then pieces ++ (place, word ∷ []) ∷ [] else extended word pieces

abbrev pub carried_out : State → ℕ → Result Statement Fault → State
carried_out state labels_before (Ok Nothing) = record { place = state.place; labels_before = labels_before; begins_piece = state.begins_piece; pieces = state.pieces }
carried_out state labels_before (Ok (Place place)) = record { place = place; labels_before = labels_before; begins_piece = true; pieces = state.pieces }
carried_out state labels_before (Ok (Word word)) = record { place = state.place + 4; labels_before = labels_before; begins_piece = false; pieces = with_word state.begins_piece state.place word state.pieces }
carried_out state labels_before (Err fault) = state

-- the state after a line without fault
unfoldable pub state_after : Labels → State → List ℕ → State
state_after labels state line = carried_out state (state.labels_before + label_count (label_of line)) (statement_at labels state.place (statement_of line))

-- why a source has no program: the least fault of its first faulty line, the line, and the word that the fault is about
pub record SourceFault : Type 0 where
  pub fault : Fault
  pub line : ℕ
  pub word : List ℕ

abbrev pub fault_at : Labels → ℕ → State → List ℕ → Fault → SourceFault
fault_at labels number state line fault = record { fault = fault; line = number; word = word_at_fault labels state.place line fault }

abbrev pub unless_fault : (Fault → SourceFault) → Option Fault → Result (List (ℕ × List ℕ)) SourceFault → Result (List (ℕ × List ℕ)) SourceFault
unless_fault told None rest = rest
unless_fault told (Some fault) rest = Err (told fault)

-- the program of the lines from a state on, or the fault of the first line that has one
abbrev pub source_from : Labels → ℕ → State → List (List ℕ) → Result (List (ℕ × List ℕ)) SourceFault
source_from labels number state [] = Ok state.pieces
source_from labels number state (line ∷ lines) =
    unless_fault (fault_at labels number state line) (line_fault labels state line) (source_from labels (number + 1) (state_after labels state line) lines)

abbrev pub initial_state : State
initial_state = record { place = 0x100; labels_before = 0; begins_piece = true; pieces = [] }

unfoldable pub source_of : List ℕ → Result (List (ℕ × List ℕ)) SourceFault
source_of text = source_from (labels_from 0x100 (lines_of text)) 1 initial_state (lines_of text)

abbrev pub source_fault : Fault → ℕ → List ℕ → SourceFault
source_fault fault line word = record { fault = fault; line = line; word = word }

-- what an answer says of a source, and nothing for want of memory
abbrev pub refusal_of : AsmFault → Option SourceFault
refusal_of (answer.BadLine line word) = Some (source_fault fault.BadLine line word.now)
refusal_of (answer.UnknownName line word) = Some (source_fault fault.UnknownName line word.now)
refusal_of (answer.OutOfRange line word) = Some (source_fault fault.OutOfRange line word.now)
refusal_of (answer.UnknownLabel line word) = Some (source_fault fault.UnknownLabel line word.now)
refusal_of (answer.RepeatedLabel line word) = Some (source_fault fault.RepeatedLabel line word.now)
refusal_of (answer.Overlap line word) = Some (source_fault fault.Overlap line word.now)
refusal_of answer.NoMemory = None

-- the number of an answer, 1 to 7, and its line
abbrev pub number_of_answer : AsmFault → ℕ
number_of_answer answer = option_map_or (λ refusal. number_of_fault refusal.fault) (refusal_of answer) 7

abbrev pub line_of_answer : AsmFault → Option ℕ
line_of_answer answer = option_map (λ refusal. refusal.line) (refusal_of answer)

-- a refusal is the source's own; want of memory says nothing of the source
abbrev pub Refuses : AsmFault → Result (List (ℕ × List ℕ)) SourceFault → Type 0
Refuses answer source = MatchOption (refusal_of answer) (Unit {0}) (λ refusal. source ≡ Err refusal)

-- an answer of the assembler, with what it leaves as the program
abbrev pub Answers : {X : Type 0} → Result X AsmFault → List (ℕ × List ℕ) → Result (List (ℕ × List ℕ)) SourceFault → Type 0
Answers (Ok _) program source = source ≡ Ok program
Answers (Err answer) program source = Refuses answer source

-- where the lines so far have led the code
abbrev pub state_of : Progress → State
state_of progress = record { place = progress.place; labels_before = progress.labels_before; begins_piece = progress.begins_piece; pieces = progress.pieces.items }
