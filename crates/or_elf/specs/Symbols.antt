-- The functions and objects that a file's symbol table names (ELF gABI, "Section Header", "Symbol Table" and "String Table").
use Rattle.std.specs.Prelude.{ℕ, ◌+◌, ◌-◌, ◌*◌, ◌/◌, ◌%◌, ◌<◌, ◌≤◌, ◌==◌, Bool, not, ◌&&◌, nat_lt, nat_le, List, [], ◌∷◌, ◌++◌, map, length, slice_index, drop, if◌then◌else◌, Option, Some, None, codes, decimal}
use Rattle.std.specs.List.{filter, find, list_any, range_with_len}
use Rattle.std.specs.Option.{option_map}
use Rattle.or_words.specs.declared.limits.TheConstants.{IMAGE_LIMIT}
use Rattle.or_elf.specs.declared.symbol_fault.SymFault.{SymFault}
use Rattle.or_elf.specs.declared.symbol_fault.SymFault.TheVariants.{BadSections, BadTable, BadName, NoMemory}
use Rattle.or_elf.specs.declared.sections.Section.{Section}
use Rattle.or_elf.specs.declared.symbols.Symbol.{Symbol}
use Rattle.or_elf.specs.Header.{half_at, word_at}
use Rattle.or_elf.specs.Fault.{or_else}
use Rattle.or_elf.specs.Loading.{part}

-- the number of a fault, and its field's offset or its index
abbrev pub symbol_number_of : SymFault → ℕ
symbol_number_of (BadSections field) = 1
symbol_number_of (BadTable index) = 2
symbol_number_of (BadName index) = 3
symbol_number_of NoMemory = 4

abbrev pub symbol_place_of : SymFault → ℕ
symbol_place_of (BadSections field) = field
symbol_place_of (BadTable index) = index
symbol_place_of (BadName index) = index
symbol_place_of NoMemory = 0

-- e_shoff and e_shnum: where the section headers start, and how many there are
abbrev pub sections_start : List ℕ → ℕ
sections_start bytes = word_at bytes 32

abbrev pub section_count : List ℕ → ℕ
section_count bytes = half_at bytes 48

abbrev pub has_sections : List ℕ → Bool
has_sections bytes = not (sections_start bytes == 0) && not (section_count bytes == 0)

abbrev pub section_start : List ℕ → ℕ → ℕ
section_start bytes index = sections_start bytes + 40 * index

-- what the section header with this index says
abbrev pub section_at : List ℕ → ℕ → Section
section_at bytes index = let start = section_start bytes index in record {
  kind = word_at bytes (start + 4);
  offset = word_at bytes (start + 16);
  size = word_at bytes (start + 20);
  link = word_at bytes (start + 24);
}

-- the first section of type 2, SHT_SYMTAB, of so many from this index on
unfoldable pub table_among : List ℕ → ℕ → ℕ → Option ℕ
table_among bytes index count = find (λ index. (section_at bytes index).kind == 2) (range_with_len index count)

abbrev pub symbol_table : List ℕ → Option ℕ
symbol_table bytes = table_among bytes 0 (section_count bytes)

-- the section header of the symbols' names
abbrev pub linked : List ℕ → ℕ → Section
linked bytes table = section_at bytes (section_at bytes table).link

-- the section that holds the symbols' names
unfoldable pub names_of : List ℕ → ℕ → List ℕ
names_of bytes table = part bytes (linked bytes table).offset (linked bytes table).size

-- where the symbol with this index starts in a table that starts here
abbrev pub symbol_start : ℕ → ℕ → ℕ
symbol_start first index = first + 16 * index

-- the types of symbols that name data and functions
abbrev pub object_type : ℕ
object_type = 1

abbrev pub function_type : ℕ
function_type = 2

-- the symbol that starts here is of this type, and has bytes
abbrev pub is_of_type : ℕ → List ℕ → ℕ → Bool
is_of_type kind bytes start = (slice_index bytes (start + 12) % 16 == kind) && not (word_at bytes (start + 8) == 0)

abbrev pub symbol_at : List ℕ → ℕ → ℕ → Symbol
symbol_at bytes first index = let start = symbol_start first index in record {
  index = index;
  name = word_at bytes start;
  value = word_at bytes (start + 4);
  size = word_at bytes (start + 8);
}

-- the symbols of a type among so many, from this index on, of a table that starts here
unfoldable pub symbols_among : ℕ → List ℕ → ℕ → ℕ → ℕ → List Symbol
symbols_among kind bytes first index count =
    map (symbol_at bytes first) (filter (λ index. is_of_type kind bytes (symbol_start first index)) (range_with_len index count))

-- all symbols of a type in the symbol table of this section
abbrev pub symbols_of_type : ℕ → List ℕ → ℕ → List Symbol
symbols_of_type kind bytes table = let section = section_at bytes table in symbols_among kind bytes section.offset 0 (section.size / 16)

abbrev pub functions_of : List ℕ → ℕ → List Symbol
functions_of bytes table = symbols_of_type function_type bytes table

-- 1: section headers have 40 bytes each, and end within the file
abbrev pub sections_fault : List ℕ → Option SymFault
sections_fault bytes =
    or_else (if half_at bytes 46 == 40 then None else Some (BadSections 46))
    (if nat_le (sections_start bytes + 40 * section_count bytes) (length bytes) then None else Some (BadSections 32))

abbrev pub ends_within : ℕ → Section → Bool
ends_within size section = nat_le (section.offset + section.size) size

-- 2: the table has whole symbols and lies in the file, as does the section of their names
abbrev pub symbol_table_fault : List ℕ → ℕ → Option SymFault
symbol_table_fault bytes table = let section = section_at bytes table in
    if (section.size % 16 == 0) && ends_within (length bytes) section
    && nat_lt section.link (section_count bytes) && ends_within (length bytes) (linked bytes table)
    then None else Some (BadTable table)

-- the name that starts here ends by a zero byte
abbrev pub has_end : List ℕ → ℕ → Bool
has_end names start = list_any (λ byte. byte == 0) (drop start names)

-- the symbols whose names are whole
unfoldable pub with_names : List ℕ → List Symbol → List Symbol
with_names names symbols = filter (λ symbol. has_end names symbol.name) symbols

-- the objects; one whose name is not whole is none
abbrev pub objects_of : List ℕ → ℕ → List Symbol
objects_of bytes table = with_names (names_of bytes table) (symbols_of_type object_type bytes table)

-- 3: the first function whose name starts or ends outside the section of names
abbrev pub names_fault : List ℕ → List Symbol → Option SymFault
names_fault names [] = None
names_fault names (function ∷ others) =
    or_else (if has_end names function.name then None else Some (BadName function.index)) (names_fault names others)

abbrev pub contents_fault : List ℕ → Option ℕ → Option SymFault
contents_fault bytes None = None
contents_fault bytes (Some table) = or_else (symbol_table_fault bytes table) (names_fault (names_of bytes table) (functions_of bytes table))

-- the first fault of the symbols of a file
unfoldable pub symbol_fault : List ℕ → Option SymFault
symbol_fault bytes =
    if has_sections bytes then or_else (sections_fault bytes) (contents_fault bytes (symbol_table bytes)) else None

-- the section headers of a file of a length that can be read lie in it
pub record HasSections (bytes : List ℕ) : Type 0 where
  pub long : 52 ≤ length bytes
  pub short : length bytes ≤ IMAGE_LIMIT
  pub table : sections_start bytes + 40 * section_count bytes ≤ length bytes

-- a symbol table lies in the file, as does the section of its names
pub record HasTable (bytes : List ℕ) (table : ℕ) : Type 0 where
  pub index : table < section_count bytes
  pub symbols : (section_at bytes table).offset + (section_at bytes table).size ≤ length bytes
  pub link : (section_at bytes table).link < section_count bytes
  pub names : (linked bytes table).offset + (linked bytes table).size ≤ length bytes

-- the functions and objects that are named, and the bytes of their names
pub record SymbolTable : Type 0 where
  pub functions : List Symbol
  pub objects : List Symbol
  pub names : List ℕ

abbrev pub no_symbols : SymbolTable
no_symbols = record { functions = []; objects = []; names = [] }

abbrev pub symbols_in : List ℕ → Option ℕ → SymbolTable
symbols_in bytes None = no_symbols
symbols_in bytes (Some table) = record { functions = functions_of bytes table; objects = objects_of bytes table; names = names_of bytes table }

-- the symbols of a file without such a fault
unfoldable pub symbols_of : List ℕ → SymbolTable
symbols_of bytes = if has_sections bytes then symbols_in bytes (symbol_table bytes) else no_symbols

-- a symbol has one of so many bytes from this address on
abbrev pub covers : ℕ → ℕ → Symbol → Bool
covers address count symbol = nat_lt symbol.value (address + count) && nat_lt address (symbol.value + symbol.size)

-- of two symbols that may be there, the one that starts later; of two that start together, the first
abbrev pub later_start : Option Symbol → Option Symbol → Option Symbol
later_start None second = second
later_start (Some first) None = Some first
later_start (Some first) (Some second) = if nat_lt first.value second.value then Some second else Some first

-- of the symbols that have one of these bytes, the one that starts last, and of these the first in the table
unfoldable pub innermost : List Symbol → ℕ → ℕ → Option Symbol
innermost [] address count = None
innermost (symbol ∷ others) address count = later_start (if covers address count symbol then Some symbol else None) (innermost others address count)

-- the function that has its bytes around this address
abbrev pub function_around : SymbolTable → ℕ → Option Symbol
function_around symbols pc = innermost symbols.functions pc 1

-- its index
abbrev pub function_of : SymbolTable → ℕ → Option ℕ
function_of symbols pc = option_map (λ (function : Symbol). function.index) (function_around symbols pc)

-- the object that a byte of the word at this address lies in
abbrev pub object_of : SymbolTable → ℕ → Option Symbol
object_of symbols word = innermost symbols.objects word 4

-- a byte of a name as it is shown: `?` outside the visible characters of ASCII
abbrev pub shown : ℕ → ℕ
shown byte = if nat_le 0x21 byte && nat_le byte 0x7E then byte else 0x3F

-- the name that starts here, up to its zero byte
unfoldable pub name_text : List ℕ → List ℕ
name_text [] = []
name_text (byte ∷ others) = if byte == 0 then [] else shown byte ∷ name_text others

abbrev pub name_of : List ℕ → Option Symbol → List ℕ
name_of names None = []
name_of names (Some symbol) = name_text (drop symbol.name names)

-- the name of the function with this index
abbrev pub symbol_name : SymbolTable → ℕ → List ℕ
symbol_name symbols index = name_of symbols.names (find (λ (function : Symbol). function.index == index) symbols.functions)

-- `NAME+N`: an address by a symbol's name and its distance from the symbol's start, 0 before that
abbrev pub offset_text : List ℕ → Symbol → ℕ → List ℕ
offset_text names symbol address = name_text (drop symbol.name names) ++ codes "+" ++ decimal (address - symbol.value)

abbrev pub place_in : List ℕ → Option Symbol → ℕ → List ℕ
place_in names None pc = []
place_in names (Some function) pc = codes "<" ++ offset_text names function pc ++ codes ">"

-- `<NAME+N>`: an address in a function, and nothing elsewhere
abbrev pub place_text : SymbolTable → ℕ → List ℕ
place_text symbols pc = place_in symbols.names (function_around symbols pc) pc

abbrev pub object_in : List ℕ → Option Symbol → ℕ → List ℕ
object_in names None word = []
object_in names (Some object) word = codes " in " ++ offset_text names object word

-- ` in NAME+N`: the address of a word that an object has a byte of, and nothing elsewhere
abbrev pub object_text : SymbolTable → ℕ → List ℕ
object_text symbols word = object_in symbols.names (object_of symbols word) word
