-- Where the functions of an image begin.
use Rattle.std.specs.Prelude.{◌≡◌, ℕ, ◌==◌, ◌++◌, if◌then◌else◌, List, [], Option, Some, None, drop, codes}
use Rattle.std.specs.BTreeMap.{BTreeMap, get}
use Rattle.std.specs.Ordering.{nat_cmp}
use Rattle.or_elf.specs.declared.symbol_fault.SymFault.{SymFault}
use Rattle.or_elf.specs.declared.symbols.Symbol.{Symbol}
use Rattle.or_elf.specs.Symbols.{SymbolTable, no_symbols, symbols_of, symbol_fault, function_around, name_text}

abbrev pub unless_faulty : SymbolTable → Option SymFault → SymbolTable
unless_faulty symbols None = symbols
unless_faulty symbols (Some fault) = no_symbols

-- the symbols of an image; none where they have a fault
abbrev pub sound_symbols : List ℕ → SymbolTable
sound_symbols image = unless_faulty (symbols_of image) (symbol_fault image)

-- a function, if it begins at this address
abbrev pub if_begins : ℕ → Option Symbol → Option Symbol
if_begins pc None = None
if_begins pc (Some function) = if function.value == pc then Some function else None

-- the function of an address, if it begins there
abbrev pub function_at : SymbolTable → ℕ → Option Symbol
function_at symbols pc = if_begins pc (function_around symbols pc)

abbrev pub label_in : List ℕ → Option Symbol → List ℕ
label_in names None = []
label_in names (Some function) = name_text (drop function.name names) ++ codes ":\n"

-- `NAME:`, a line of its own before the first instruction of a function
abbrev pub label_text : SymbolTable → ℕ → List ℕ
label_text symbols pc = label_in symbols.names (function_at symbols pc)

-- the map has the function that begins at each address
abbrev pub AreStarts : SymbolTable → BTreeMap ℕ Symbol → Type 0
AreStarts symbols starts = (pc : ℕ) → get nat_cmp starts pc ≡ function_at symbols pc
