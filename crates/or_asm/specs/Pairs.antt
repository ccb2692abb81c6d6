-- A program as pairs of a place and a word, and the pairs that lines put.
use Rattle.std.specs.Prelude.{ℕ, ◌+◌, List, [], ◌∷◌, ◌++◌, Result, Ok, Err}
use Rattle.std.specs.List.{flat_map}
use Rattle.or_asm_read.specs.declared.fault.Fault.{Fault}
use Rattle.or_asm_read.specs.declared.statements.Statement.{Statement}
use Rattle.or_asm_read.specs.declared.statements.Statement.TheVariants.{Nothing, Place, Word}
use Rattle.or_asm_read.specs.Cuts.{statement_of}
use Rattle.or_asm_read.specs.Labels.{Labels}
use Rattle.or_asm_read.specs.Statements.{statement_at}
use Rattle.or_asm.specs.Source.{State, state_after}

abbrev pub words_at : ℕ → List ℕ → List (ℕ × ℕ)
words_at place [] = []
words_at place (word ∷ words) = (place, word) ∷ words_at (place + 4) words

abbrev pub placed_words : List (ℕ × List ℕ) → List (ℕ × ℕ)
placed_words pieces = flat_map (λ piece. words_at piece.0 piece.1) pieces

abbrev pub word_put : ℕ → Result Statement Fault → List (ℕ × ℕ)
word_put place (Ok Nothing) = []
word_put place (Ok (Place next)) = []
word_put place (Ok (Word word)) = (place, word) ∷ []
word_put place (Err fault) = []

-- what each line puts at its place, in order
abbrev pub words_put : Labels → State → List (List ℕ) → List (ℕ × ℕ)
words_put labels state [] = []
words_put labels state (line ∷ lines) = word_put state.place (statement_at labels state.place (statement_of line)) ++ words_put labels (state_after labels state line) lines
