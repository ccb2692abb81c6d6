-- What a name stands for: the value of a symbol, and where that lies in RAM (ELF gABI, "Symbol Table" and "Program Header").
use Rattle.std.specs.Prelude.{ℕ, ◌+◌, ◌-◌, ◌/◌, ◌%◌, ◌==◌, Bool, false, not, ◌&&◌, ◌||◌, nat_lt, nat_le, List, slice_index, take, drop, if◌then◌else◌, Option, Some, None, position}
use Rattle.std.specs.List.{find, range_with_len}
use Rattle.std.specs.Option.{option_map}
use Rattle.std.specs.Str.{bytes_eq}
use Rattle.or_elf.specs.declared.symbol_fault.SymFault.{SymFault}
use Rattle.or_elf.specs.Header.{half_at, word_at, header_count, header_start, is_load}
use Rattle.or_elf.specs.Symbols.{has_sections, section_at, symbol_table, names_of, symbol_start, sections_fault, symbol_table_fault}

-- the symbol that starts here is a place: of no type (STT_NOTYPE) but of a section, an object or a function
abbrev pub is_place : List ℕ → ℕ → Bool
is_place bytes start = let kind = slice_index bytes (start + 12) % 16 in
    (kind == 1) || (kind == 2) || ((kind == 0) && not (half_at bytes (start + 14) == 0))

abbrev pub is_up_to : List ℕ → List ℕ → Option ℕ → Bool
is_up_to name bytes None = false
is_up_to name bytes (Some end) = bytes_eq (take end bytes) name

-- this name starts here, and ends by the first zero byte
abbrev pub is_called : List ℕ → List ℕ → ℕ → Bool
is_called name names start = is_up_to name (drop start names) (position (λ byte. byte == 0) (drop start names))

-- the symbol that starts here is a place of this name
abbrev pub is_named : List ℕ → List ℕ → List ℕ → ℕ → Bool
is_named name names bytes start = is_place bytes start && is_called name names (word_at bytes start)

-- the first place of this name among so many symbols, from this index on, of a table that starts here
unfoldable pub named_among : List ℕ → List ℕ → List ℕ → ℕ → ℕ → ℕ → Option ℕ
named_among name names bytes first index count = find (λ index. is_named name names bytes (symbol_start first index)) (range_with_len index count)

-- its value
abbrev pub value_in : List ℕ → List ℕ → List ℕ → ℕ → ℕ → Option ℕ
value_in name names bytes first count = option_map (λ index. word_at bytes (symbol_start first index + 4)) (named_among name names bytes first 0 count)

abbrev pub value_in_table : List ℕ → List ℕ → ℕ → Option ℕ
value_in_table name bytes table = let section = section_at bytes table in value_in name (names_of bytes table) bytes section.offset (section.size / 16)

abbrev pub unless_fault : Option SymFault → Option ℕ → Option ℕ
unless_fault (Some fault) value = None
unless_fault None value = value

abbrev pub value_in_symbols : List ℕ → List ℕ → Option ℕ → Option ℕ
value_in_symbols name bytes None = None
value_in_symbols name bytes (Some table) = unless_fault (symbol_table_fault bytes table) (value_in_table name bytes table)

-- the value of a name: that of the first place with this name in a symbol table without fault
unfoldable pub value_of_name : List ℕ → List ℕ → Option ℕ
value_of_name bytes name =
    if has_sections bytes then unless_fault (sections_fault bytes) (value_in_symbols name bytes (symbol_table bytes)) else None

-- p_vaddr and p_memsz: the segment of this header has a byte at this virtual address
abbrev pub has_address : List ℕ → ℕ → ℕ → Bool
has_address bytes address index = let start = header_start bytes index in
    is_load bytes index && nat_le (word_at bytes (start + 8)) address && nat_lt address (word_at bytes (start + 8) + word_at bytes (start + 20))

-- the first such segment of so many headers, from this index on
unfoldable pub segment_around : List ℕ → ℕ → ℕ → ℕ → Option ℕ
segment_around bytes address index count = find (has_address bytes address) (range_with_len index count)

-- p_paddr: where the segment is loaded, and this address with it
abbrev pub address_by : List ℕ → ℕ → Option ℕ → ℕ
address_by bytes address None = address
address_by bytes address (Some index) = let start = header_start bytes index in
    address - word_at bytes (start + 8) + word_at bytes (start + 12)

-- where a virtual address lies in RAM: by the first segment around it, or at the same address
abbrev pub physical_address : List ℕ → ℕ → ℕ
physical_address bytes address = address_by bytes address (segment_around bytes address 0 (header_count bytes))
