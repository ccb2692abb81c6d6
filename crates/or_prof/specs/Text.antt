-- The text of a profile.
use Rattle.std.specs.Prelude.{◌≡◌, ℕ, zero, suc, ◌==◌, ◌++◌, ◌&&◌, Bool, List, [], if◌then◌else◌, Option, Some, None, length, map, take, count_by, nat_lt, codes, decimal}
use Rattle.std.specs.List.{filter, flat_map}
use Rattle.std.specs.List.Sorted.{IsPermutation, IsSorted}
use Rattle.std.specs.Ordering.{nat_cmp, ordering_then}
use Rattle.std.specs.declared.cmp.Ordering.{Ordering}
use Rattle.or_elf.specs.declared.symbols.Symbol.{Symbol as Function}
use Rattle.or_elf.specs.Symbols.{SymbolTable, symbol_name}
use Rattle.or_text.specs.Hexadecimal.{word_text}
use Rattle.or_prof.specs.declared.ranking.Line.{Line}
use Rattle.or_prof.specs.Profile.{Addition, items_of, count_of, spot_count}

abbrev pub line_of : (Option ℕ → ℕ) → Function → Line
line_of count function = record { count = count (Some function.index); key = function.index }

-- a line for each function that has a count, in the order of the symbol table
abbrev pub lines_of : (Option ℕ → ℕ) → List Function → List Line
lines_of count functions = filter (λ (line : Line). nat_lt 0 line.count) (map (line_of count) functions)

-- the greater count comes first, and of equal counts the lesser index or pc
abbrev pub rank : Line → Line → Ordering
rank one other = ordering_then (nat_cmp other.count one.count) (nat_cmp one.key other.key)

-- these lines, in this order
pub record AreRanked (lines ranked : List Line) : Type 0 where
  pub same : IsPermutation lines ranked
  pub order : IsSorted rank ranked

abbrev pub line_text : SymbolTable → Line → List ℕ
line_text symbols line = decimal line.count ++ codes " " ++ symbol_name symbols line.key ++ codes "\n"

-- the line of the items that have no function, if there are any
abbrev pub outside_text : ℕ → List ℕ
outside_text count = if count == 0 then [] else decimal count ++ codes " ?\n"

unfoldable pub is_line : Line → Line → Bool
is_line one other = (one.count == other.count) && (one.key == other.key)

abbrev pub spot_line : ℕ × ℕ → Line
spot_line spot = record { count = spot.1; key = spot.0 }

-- the line of each pc that has a count stands here once, and no other line
abbrev pub AreSpots : (ℕ → ℕ) → List Line → Type 0
AreSpots at lines = (line : Line) → count_by (is_line line) lines ≡ (if nat_lt 0 line.count && (at line.key == line.count) then 1 else 0)

abbrev pub spot_text : Line → List ℕ
spot_text line = decimal line.count ++ codes " ? " ++ word_text line.key ++ codes "\n"

-- the lines of the pcs with the greatest counts, up to eight
pub record IsHotText (at : ℕ → ℕ) (text : List ℕ) : Type 0 where
  pub ranked : List Line
  pub are : AreSpots at ranked
  pub order : IsSorted rank ranked
  pub is : text ≡ flat_map spot_text (take 8 ranked)

unfoldable pub core_line : ℕ → ℕ → List ℕ
core_line core steps = codes "core " ++ decimal core ++ codes " steps " ++ decimal steps ++ codes "\n"

-- the text of a core but for its pcs
abbrev pub front_text : SymbolTable → ℕ → ℕ → (Option ℕ → ℕ) → List Line → List ℕ
front_text symbols core steps count lines = core_line core steps ++ (flat_map (line_text symbols) lines ++ outside_text (count None))

-- the text of a core with so many items, these counts of functions and these counts of pcs
pub record IsCoreText (symbols : SymbolTable) (core steps : ℕ) (count : Option ℕ → ℕ) (at : ℕ → ℕ) (text : List ℕ) : Type 0 where
  pub lines : List Line
  pub ranked : AreRanked (lines_of count symbols.functions) lines
  pub hot : List ℕ
  pub is_hot : IsHotText at hot
  pub is : text ≡ front_text symbols core steps count lines ++ hot

pub record Joins (First Second : List ℕ → Type 0) (text : List ℕ) : Type 0 where
  pub first : List ℕ
  pub second : List ℕ
  pub is_first : First first
  pub is_second : Second second
  pub is : text ≡ first ++ second

-- the text of the first so many cores, in their order
abbrev pub AreCoreTexts : Bool → SymbolTable → List Addition → ℕ → List ℕ → Type 0
AreCoreTexts hot symbols additions zero text = text ≡ []
AreCoreTexts hot symbols additions (suc core) text = let items = items_of core additions in
    Joins (AreCoreTexts hot symbols additions core) (IsCoreText symbols core (length items) (count_of symbols items) (spot_count hot symbols items)) text

abbrev pub head_line : List ℕ
head_line = codes "orprof 1\n"

-- the text of the profile of what was added for so many cores, with or without the pcs
pub record IsProfText (hot : Bool) (cores : ℕ) (symbols : SymbolTable) (additions : List Addition) (text : List ℕ) : Type 0 where
  pub behind : List ℕ
  pub is_behind : AreCoreTexts hot symbols additions cores behind
  pub is : text ≡ head_line ++ behind

-- a text of a kind was appended
pub record Appends (IsText : List ℕ → Type 0) (old new : List ℕ) : Type 0 where
  pub text : List ℕ
  pub is_text : IsText text
  pub appended : new ≡ old ++ text
