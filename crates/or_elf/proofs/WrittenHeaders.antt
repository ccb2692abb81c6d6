-- The headers of a written file.
use Rattle.std.proofs.Common.{◌≡◌, ◌∙◌, ap, sym, refl, ℕ, suc, ◌+◌, ◌*◌, ◌^◌, ◌<◌, ◌≤◌, ◌==◌, List, [], ◌∷◌, ◌++◌, length, drop, get_or, arith, append_assoc, length-append, None, true, cond}
use Rattle.std.specs.List.{All}
use Rattle.std.proofs.lemmas.List.Sums.{sum_by-cons}
use Rattle.std.proofs.lemmas.List.{drop-drop}
use Rattle.std.proofs.lemmas.Bool.Decides.{nat_tests}
use Rattle.byteorder.specs.Numbers.{big_number-reads_back}
use Rattle.or_elf.specs.declared.segment.Segment.{Segment}
use Rattle.or_elf.specs.Header.{half_at, word_at, header_start, is_load, segment_at, segments_among}
use Rattle.or_elf.specs.Fault.{ident_fault}
use Rattle.or_elf.specs.declared.writer.SectionHeaders.{SectionHeaders}
use Rattle.or_elf.specs.Text.{Piece, piece_size, word_count, words_text, halves_text, ident, headers_start, elf_header, program_header, program_headers}
use Rattle.or_elf.proofs.WrittenWords.{word_at-add, word_at-words}
use Rattle.std.proofs.Math.Seq.{drop-append_seam}
use Rattle.or_elf.proofs.LoadsAlike.{segments_among-suc}

-- the ELF header

pub length-elf_header : (count : ℕ) (sections : SectionHeaders) → length (elf_header count sections) ≡ 52
unfolding elf_header ident halves_text words_text
length-elf_header count sections = refl

pub ident_written : (count : ℕ) (sections : SectionHeaders) (rest : List ℕ) → ident_fault (elf_header count sections ++ rest) ≡ None
unfolding elf_header ident halves_text words_text
ident_written count sections rest = refl

pub type_written : (count : ℕ) (sections : SectionHeaders) (rest : List ℕ) → half_at (elf_header count sections ++ rest) 16 ≡ 2
unfolding half_at elf_header ident halves_text words_text
type_written count sections rest = refl

pub machine_written : (count : ℕ) (sections : SectionHeaders) (rest : List ℕ) → half_at (elf_header count sections ++ rest) 18 ≡ 92
unfolding half_at elf_header ident halves_text words_text
machine_written count sections rest = refl

pub version_written : (count : ℕ) (sections : SectionHeaders) (rest : List ℕ) → word_at (elf_header count sections ++ rest) 20 ≡ 1
unfolding word_at elf_header ident halves_text words_text
version_written count sections rest = refl

pub header_size_written : (count : ℕ) (sections : SectionHeaders) (rest : List ℕ) → half_at (elf_header count sections ++ rest) 40 ≡ 52
unfolding half_at elf_header ident halves_text words_text
header_size_written count sections rest = refl

pub entry_size_written : (count : ℕ) (sections : SectionHeaders) (rest : List ℕ) → half_at (elf_header count sections ++ rest) 42 ≡ 32
unfolding half_at elf_header ident halves_text words_text
entry_size_written count sections rest = refl

pub count_written : (count : ℕ) (sections : SectionHeaders) (rest : List ℕ) → count ≤ 64 → half_at (elf_header count sections ++ rest) 44 ≡ count
unfolding half_at elf_header ident halves_text words_text
count_written count sections rest few = big_number-reads_back 2 count (drop 46 (elf_header count sections ++ rest)) (omega arith)

headers_start_some : (count : ℕ) → 0 < count → headers_start count ≡ 52
headers_start_some count some = grind (arith, nat_tests)

pub start_written : (count : ℕ) (sections : SectionHeaders) (rest : List ℕ) → 0 < count → word_at (elf_header count sections ++ rest) 28 ≡ 52
unfolding word_at elf_header ident halves_text words_text
start_written count sections rest some =
    let e : headers_start count ≡ 52 = headers_start_some count some in
    big_number-reads_back 4 (headers_start count) (drop 32 (elf_header count sections ++ rest)) (omega arith) ∙ e

-- the program headers

pub length-program_header : (offset place size : ℕ) → length (program_header offset place size) ≡ 32
unfolding program_header words_text
length-program_header offset place size = refl

pub length-program_headers : (offset : ℕ) (program : List Piece) → length (program_headers offset program) ≡ 32 * length program
unfolding program_headers
length-program_headers offset [] = refl
length-program_headers offset (piece ∷ others) =
    let here : length (program_header offset piece.0 (piece_size piece)) ≡ 32 = length-program_header offset piece.0 (piece_size piece) in
    let rest : length (program_headers (offset + piece_size piece) others) ≡ 32 * length others = length-program_headers (offset + piece_size piece) others in
    length-append (program_header offset piece.0 (piece_size piece)) (program_headers (offset + piece_size piece) others)
    ∙ omega (arith, here, rest)

abbrev pub segment_of : ℕ → ℕ → ℕ → ℕ → Segment
segment_of index offset place size = record { index = index; offset = offset; paddr = place; filesz = size; memsz = size }

-- the segments of pieces, the first with this index and at this offset
abbrev pub segments_of : ℕ → ℕ → List Piece → List Segment
segments_of index offset [] = []
segments_of index offset (piece ∷ others) =
    segment_of index offset piece.0 (piece_size piece) ∷ segments_of (index + 1) (offset + piece_size piece) others

-- a field of a program header
field_written : (bytes rest : List ℕ) (start offset place size index value : ℕ)
    → drop start bytes ≡ program_header offset place size ++ rest → index < 8
    → get_or (1 ∷ offset ∷ place ∷ place ∷ size ∷ size ∷ 7 ∷ 4 ∷ []) index 0 ≡ value → value < 2 ^ 32
    → word_at bytes (start + 4 * index) ≡ value
unfolding program_header
field_written bytes rest start offset place size index value stands inside is small =
    let words : List ℕ = 1 ∷ offset ∷ place ∷ place ∷ size ∷ size ∷ 7 ∷ 4 ∷ [] in
    word_at-add bytes start (4 * index) ∙ ap (λ text. word_at text (4 * index)) stands
    ∙ word_at-words words rest index inside (omega arith) ∙ is

load_written : (bytes rest : List ℕ) (start offset place size : ℕ) → drop start bytes ≡ program_header offset place size ++ rest
    → word_at bytes start ≡ 1
load_written bytes rest start offset place size stands =
    let e : start ≡ start + 4 * 0 = omega arith in
    ap (word_at bytes) e ∙ field_written bytes rest start offset place size 0 1 stands (omega arith) refl (omega arith)

segment_same : (index o o' p p' f f' m m' : ℕ) → o ≡ o' → p ≡ p' → f ≡ f' → m ≡ m'
    → (let s : Segment = record { index = index; offset = o; paddr = p; filesz = f; memsz = m } in s) ≡ (let s : Segment = record { index = index; offset = o'; paddr = p'; filesz = f'; memsz = m' } in s)
segment_same index o o' p p' f f' m m' a b c d = cc

segment_written : (bytes rest : List ℕ) (index offset place size : ℕ) → drop (header_start bytes index) bytes ≡ program_header offset place size ++ rest
    → offset < 2 ^ 32 → place < 2 ^ 32 → size < 2 ^ 32 → segment_at bytes index ≡ segment_of index offset place size
segment_written bytes rest index offset place size stands o p s =
    let start : ℕ = header_start bytes index in
    segment_same index _ _ _ _ _ _ _ _
    (field_written bytes rest start offset place size 1 offset stands (omega arith) refl o)
    (field_written bytes rest start offset place size 3 place stands (omega arith) refl p)
    (field_written bytes rest start offset place size 4 size stands (omega arith) refl s)
    (field_written bytes rest start offset place size 5 size stands (omega arith) refl s)

-- the segments of a file where such headers stand
pub segments_written : (bytes rest : List ℕ) (index offset : ℕ) (program : List Piece)
    → drop (header_start bytes index) bytes ≡ program_headers offset program ++ rest
    → offset + 4 * word_count program < 2 ^ 32 → All (λ piece. piece.0 < 2 ^ 32) program
    → segments_among bytes index (length program) ≡ segments_of index offset program
unfolding program_headers segments_among
segments_written bytes rest index offset [] stands fits places = refl
segments_written bytes rest index offset (piece ∷ others) stands fits places =
    let size : ℕ = piece_size piece in
    let here : List ℕ = program_header offset piece.0 size in
    let behind : List ℕ = program_headers (offset + size) others ++ rest in
    let first : drop (header_start bytes index) bytes ≡ here ++ behind = stands ∙ append_assoc here (program_headers (offset + size) others) rest in
    let next_start : header_start bytes (index + 1) ≡ header_start bytes index + 32 = omega arith in
    let next : drop (header_start bytes (index + 1)) bytes ≡ behind =
    ap (λ start. drop start bytes) next_start ∙ sym (drop-drop 32 (header_start bytes index) bytes) ∙ ap (drop 32) first
    ∙ ap (λ n. drop n (here ++ behind)) (sym (length-program_header offset piece.0 size)) ∙ drop-append_seam here behind in
    let count : word_count (piece ∷ others) ≡ length piece.1 + word_count others = sum_by-cons (λ (p : Piece). length p.1) piece others in
    let place : piece.0 < 2 ^ 32 = places 0 piece (omega arith) in
    let kind : is_load bytes index ≡ true = ap (λ kind. kind == 1) (load_written bytes behind (header_start bytes index) offset piece.0 size first) in
    let segment : segment_at bytes index ≡ segment_of index offset piece.0 size =
    segment_written bytes behind index offset piece.0 size first (omega arith) place (omega arith) in
    let tail : segments_among bytes (index + 1) (length others) ≡ segments_of (index + 1) (offset + size) others =
    segments_written bytes rest (index + 1) (offset + size) others next (omega arith) (λ k d below. places (suc k) d (omega arith)) in
    segments_among-suc bytes index (length others)
    ∙ ap (λ test. cond test (segment_at bytes index ∷ segments_among bytes (index + 1) (length others)) (segments_among bytes (index + 1) (length others))) kind
    ∙ ap (λ s. s ∷ segments_among bytes (index + 1) (length others)) segment
    ∙ ap (λ s. segment_of index offset piece.0 size ∷ s) tail
