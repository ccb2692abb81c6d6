-- The file of a program with a symbol for each of its labels (ELF gABI, "Section Header", "String Table" and "Symbol
-- Table").
use Rattle.std.specs.Prelude.{ℕ, ◌+◌, ◌-◌, ◌*◌, ◌%◌, List, [], ◌∷◌, ◌++◌, length, codes, replicate, sum_by}
use Rattle.std.specs.List.{flat_map}
use Rattle.or_elf.specs.declared.writer.SectionHeaders.{SectionHeaders}
use Rattle.or_elf.specs.Text.{Piece, word_count, words_text, halves_text, program_text}

-- a label: its name, the address that it stands for, and how many bytes it names
pub record LabelEntry : Type 0 where
  pub name : List ℕ
  pub place : ℕ
  pub size : ℕ

-- how many bytes the names take, each ended by a zero byte
abbrev pub names_size : List LabelEntry → ℕ
names_size labels = sum_by (λ label. length label.name + 1) labels

abbrev pub name_text : LabelEntry → List ℕ
name_text label = label.name ++ 0 ∷ []

abbrev pub names_text : List LabelEntry → List ℕ
names_text labels = flat_map name_text labels

-- the strings: the names of the sections, behind a zero byte, and those of the labels
unfoldable pub strings_text : List LabelEntry → List ℕ
strings_text labels = 0 ∷ codes ".symtab" ++ 0 ∷ codes ".strtab" ++ 0 ∷ names_text labels

-- how many bytes the strings have
abbrev pub strings_size : List LabelEntry → ℕ
strings_size labels = 17 + names_size labels

-- how many zero bytes follow them, up to a multiple of four
abbrev pub padding_size : List LabelEntry → ℕ
padding_size labels = (4 - strings_size labels % 4) % 4

-- the symbol of a label whose name starts here among the strings: global, a function, of no section
unfoldable pub symbol_text : ℕ → LabelEntry → List ℕ
symbol_text name label = words_text (name ∷ label.place ∷ label.size ∷ []) ++ 0x12 ∷ 0 ∷ halves_text (0xFFF1 ∷ [])

-- a symbol for each label, where the name of the first starts here and the others follow
unfoldable pub symbols_text : ℕ → List LabelEntry → List ℕ
symbols_text name [] = []
symbols_text name (label ∷ labels) = symbol_text name label ++ symbols_text (name + length label.name + 1) labels

-- the symbol table: the null symbol, and the labels
unfoldable pub symbol_table_text : List LabelEntry → List ℕ
symbol_table_text labels = words_text (0 ∷ 0 ∷ 0 ∷ 0 ∷ []) ++ symbols_text 17 labels

abbrev pub symbol_table_size : List LabelEntry → ℕ
symbol_table_size labels = 16 * (length labels + 1)

-- where the symbol table starts: behind the words of the program
abbrev pub symbol_table_start : List Piece → ℕ
symbol_table_start program = 52 + 32 * length program + 4 * word_count program

abbrev pub strings_start : List Piece → List LabelEntry → ℕ
strings_start program labels = symbol_table_start program + symbol_table_size labels

abbrev pub sections_start : List Piece → List LabelEntry → ℕ
sections_start program labels = strings_start program labels + strings_size labels + padding_size labels

-- three section headers of 40 bytes that start here, of which the third is that of the strings
abbrev pub three_sections : ℕ → SectionHeaders
three_sections start = record { start = start; entry_size = 40; count = 3; names = 2 }

-- the section headers: none, the symbol table and the strings. The words of a header are sh_name, sh_type, sh_flags,
-- sh_addr, sh_offset, sh_size, sh_link, sh_info, sh_addralign and sh_entsize
unfoldable pub section_headers : ℕ → ℕ → ℕ → ℕ → List ℕ
section_headers table table_size strings strings_size =
    words_text (0 ∷ 0 ∷ 0 ∷ 0 ∷ 0 ∷ 0 ∷ 0 ∷ 0 ∷ 0 ∷ 0 ∷ [])
    ++ words_text (1 ∷ 2 ∷ 0 ∷ 0 ∷ table ∷ table_size ∷ 2 ∷ 1 ∷ 4 ∷ 16 ∷ [])
    ++ words_text (9 ∷ 3 ∷ 0 ∷ 0 ∷ strings ∷ strings_size ∷ 0 ∷ 0 ∷ 1 ∷ 0 ∷ [])

-- what stands behind the program: the symbol table, the strings and the section headers
unfoldable pub sections_text : List Piece → List LabelEntry → List ℕ
sections_text program labels =
    symbol_table_text labels ++ strings_text labels ++ replicate (padding_size labels) 0
    ++ section_headers (symbol_table_start program) (symbol_table_size labels) (strings_start program labels) (strings_size labels)

-- the file of a program with its labels
unfoldable pub labelled_text : List Piece → List LabelEntry → List ℕ
labelled_text program labels = program_text (three_sections (sections_start program labels)) program ++ sections_text program labels
