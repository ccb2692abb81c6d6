-- The text of a report.
use Rattle.std.specs.Prelude.{Bool, true, false, ℕ, ◌≡◌, List, [], ◌∷◌, ◌++◌, Option, Some, None, length, codes, decimal}
use Rattle.std.specs.List.{flat_map}
use Rattle.or_text.specs.Hexadecimal.{word_text}
use Rattle.or_text.specs.Letters.{core_letter}
use Rattle.or_elf.specs.Symbols.{SymbolTable, place_text, object_text}
use Rattle.or_race.specs.declared.line.Line.{Line}
use Rattle.or_race.specs.Event.{Event}
use Rattle.or_race.specs.Race.{IsReport}

-- a turn and a core
abbrev pub access_text : ℕ → ℕ → List ℕ
access_text turn core = codes " " ++ decimal turn ++ codes " " ++ core_letter core ∷ []

-- a pc, and the function that it lies in
abbrev pub pc_text : SymbolTable → ℕ → List ℕ
pc_text symbols pc = word_text pc ++ place_text symbols pc

-- where two accesses were made, by the image's symbols where these are given: the word's object, and both pcs
unfoldable pub places_text : Option SymbolTable → Line → List ℕ
places_text None line = []
places_text (Some symbols) line = object_text symbols line.word ++ codes " at " ++ pc_text symbols line.first_pc ++ codes " " ++ pc_text symbols line.second_pc

-- the word, the turns and cores of two accesses, and where they were made
unfoldable pub line_text : Option SymbolTable → Line → List ℕ
line_text symbols line =
    codes "race " ++ word_text line.word ++ access_text line.first_turn line.first_core ++ access_text line.second_turn line.second_core ++ places_text symbols line ++ codes "\n"

unfoldable pub lines_text : Option SymbolTable → List Line → List ℕ
lines_text symbols lines = flat_map (line_text symbols) lines

-- the first line, which names the format
abbrev pub head_text : Bool → List ℕ
head_text false = codes "orrace 1\n"
head_text true = codes "orrace 1 locks\n"

-- the lines between the first and the last, which counts them
abbrev pub race_report_text : Bool → Option SymbolTable → List Line → List ℕ
race_report_text locks symbols lines = head_text locks ++ lines_text symbols lines ++ codes "races " ++ decimal (length lines) ++ codes "\n"

-- THE REPORT on a list of events, with or without locks, and with the places of the accesses where symbols are given
pub record RaceText (locks : Bool) (symbols : Option SymbolTable) (es : List Event) (text : List ℕ) : Type 0 where
  pub lines : List Line
  pub report : IsReport locks es lines
  pub text_is : text ≡ race_report_text locks symbols lines
