-- The lines of a source, and what each says whatever the labels are.
use Rattle.std.specs.Prelude.{ℕ, ◌+◌, ◌==◌, if◌then◌else◌, Bool, ◌&&◌, ◌||◌, not, List, [], ◌∷◌, codes, Option, Some, None, Result, Ok, Err, is_some}
use Rattle.std.specs.List.{onto_first}
use Rattle.std.specs.Str.{bytes_eq}
use Rattle.or_asm_text.specs.Names.{insn_named}
use Rattle.or_asm_read.specs.declared.fault.Fault.{Fault}
use Rattle.or_asm_read.specs.declared.statements.Statement.{Statement}
use Rattle.or_asm_read.specs.declared.statements.Statement.TheVariants.{Nothing, Place, Word}
use Rattle.or_asm_read.specs.Cuts.{is_clean, label_of, statement_of, name_part, operands_part, trimmed}
use Rattle.or_asm_read.specs.Numbers.{number_of}
use Rattle.or_asm_read.specs.Operands.{is_empty}
use Rattle.or_asm_read.specs.Labels.{Labels}
use Rattle.or_asm_read.specs.Statements.{org_at}

-- lines are ended by a line feed, which the last may lack
abbrev pub lines_of : List ℕ → List (List ℕ)
lines_of [] = []
lines_of (b ∷ bs) = if b == 10 then [] ∷ lines_of bs else onto_first b (lines_of bs)

abbrev pub is_org : List ℕ → Bool
is_org statement = bytes_eq (name_part statement) (codes ".org")

-- whether a statement puts a word: each that there is, but .org and unknown names
unfoldable pub puts_word : List ℕ → Bool
puts_word statement = not (is_empty statement) && not (is_org statement)
    && (bytes_eq (name_part statement) (codes ".word") || is_some (insn_named (name_part statement)))

-- where a faultless .org leads
abbrev pub set_place : ℕ → Result Statement Fault → ℕ
set_place place (Ok (Place next)) = next
set_place place (Ok Nothing) = place
set_place place (Ok (Word word)) = place
set_place place (Err fault) = place

-- the place after a line
unfoldable pub place_after : ℕ → List ℕ → ℕ
place_after place line = let statement = statement_of line in
    if puts_word statement then place + 4
    else (if is_org statement && is_clean line then set_place place (org_at (number_of (trimmed (operands_part statement)))) else place)

abbrev pub with_label : Option (List ℕ) → ℕ → Labels → Labels
with_label None place labels = labels
with_label (Some name) place labels = (name, place) ∷ labels

-- the labels of lines, the first of which stands at a place
abbrev pub labels_from : ℕ → List (List ℕ) → Labels
labels_from place [] = []
labels_from place (line ∷ lines) = with_label (label_of line) place (labels_from (place_after place line) lines)
