-- The file of a program: the ELF header, a program header for each piece, and the words of the pieces.
use Rattle.std.specs.Prelude.{ℕ, ◌+◌, ◌*◌, ◌==◌, List, [], ◌∷◌, ◌++◌, length, if◌then◌else◌}
use Rattle.std.specs.List.{flat_map, sum_by}
use Rattle.byteorder.specs.Endian.{big_bytes}
use Rattle.or_elf.specs.declared.writer.SectionHeaders.{SectionHeaders}

-- a piece of a program: the address of its first word, and its words
abbrev pub Piece : Type 0
Piece = ℕ × List ℕ

-- how many words a program has in all
abbrev pub word_count : List Piece → ℕ
word_count program = sum_by (λ piece. length piece.1) program

abbrev pub piece_size : Piece → ℕ
piece_size piece = 4 * length piece.1

-- numbers of four bytes each and of two bytes each, big-endian
unfoldable pub words_text : List ℕ → List ℕ
words_text words = flat_map (λ word. big_bytes 4 word) words

unfoldable pub halves_text : List ℕ → List ℕ
halves_text halves = flat_map (λ half. big_bytes 2 half) halves

-- ELF, 32 bits, big-endian, version 1
unfoldable pub ident : List ℕ
ident = 0x7F ∷ 0x45 ∷ 0x4C ∷ 0x46 ∷ 1 ∷ 2 ∷ 1 ∷ 0 ∷ 0 ∷ 0 ∷ 0 ∷ 0 ∷ 0 ∷ 0 ∷ 0 ∷ 0 ∷ []

-- where the program headers start: behind the ELF header, and 0 where there are none
abbrev pub headers_start : ℕ → ℕ
headers_start count = if count == 0 then 0 else 52

abbrev pub no_sections : SectionHeaders
no_sections = record { start = 0; entry_size = 0; count = 0; names = 0 }

-- the ELF header of a file with so many program headers and these section headers: an executable for OpenRISC that is
-- entered at 100
unfoldable pub elf_header : ℕ → SectionHeaders → List ℕ
elf_header count sections =
    ident ++ halves_text (2 ∷ 92 ∷ []) ++ words_text (1 ∷ 0x100 ∷ headers_start count ∷ sections.start ∷ 0 ∷ [])
    ++ halves_text (52 ∷ 32 ∷ count ∷ sections.entry_size ∷ sections.count ∷ sections.names ∷ [])

-- the header of a segment that is to be loaded, to be read, written and executed, at multiples of four
unfoldable pub program_header : ℕ → ℕ → ℕ → List ℕ
program_header offset place size = words_text (1 ∷ offset ∷ place ∷ place ∷ size ∷ size ∷ 7 ∷ 4 ∷ [])

-- a header for each piece, where the words of the first stand at this offset and the others follow without gaps
unfoldable pub program_headers : ℕ → List Piece → List ℕ
program_headers offset [] = []
program_headers offset (piece ∷ others) =
    program_header offset piece.0 (piece_size piece) ++ program_headers (offset + piece_size piece) others

-- the words of all pieces
unfoldable pub pieces_text : List Piece → List ℕ
pieces_text program = flat_map (λ piece. words_text piece.1) program

-- the headers of a program and its words, in a file with these section headers
unfoldable pub program_text : SectionHeaders → List Piece → List ℕ
program_text sections program =
    elf_header (length program) sections ++ program_headers (52 + 32 * length program) program ++ pieces_text program

-- the file of a program
abbrev pub elf_text : List Piece → List ℕ
elf_text program = program_text no_sections program
