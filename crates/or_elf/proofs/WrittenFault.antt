-- A written file of a loadable program has no fault.
use Rattle.std.proofs.Common.{◌≡◌, ◌∙◌, ap, sym, refl, ℕ, suc, ◌+◌, ◌*◌, ◌^◌, ◌<◌, ◌≤◌, ◌==◌, List, [], ◌∷◌, ◌++◌, length, drop, arith, append_assoc, length-append, Option, Some, None, cond, nat_le}
use Rattle.std.specs.List.{All}
use Rattle.std.proofs.lemmas.List.Sums.{sum_by-cons}
use Rattle.std.proofs.lemmas.Bool.Decides.{nat_tests}
use Rattle.std.proofs.Math.Seq.{drop-append_seam}
use Rattle.or_elf.specs.declared.fault.ElfFault.{ElfFault}
use Rattle.or_elf.specs.declared.fault.ElfFault.TheVariants.{Short, BadHeader}
use Rattle.or_elf.specs.Header.{half_at, word_at, table_start, header_count, header_start, segments_among, segments}
use Rattle.or_elf.specs.Fault.{or_else, length_fault, ident_fault, field_fault, header_fault, segment_fault, first_segment_fault, segments_fault, elf_fault}
use Rattle.or_elf.specs.Text.{Piece, piece_size, word_count, no_sections, elf_header, program_headers, pieces_text, program_text, elf_text, words_text}
use Rattle.or_elf.specs.Loading.{IsLoadable}
use Rattle.or_elf.proofs.WrittenWords.{length-words_text}
use Rattle.or_elf.proofs.WrittenHeaders.{length-elf_header, ident_written, type_written, machine_written, version_written, header_size_written, entry_size_written, count_written, start_written, length-program_headers, segments_of, segment_of, segments_written}

pub length-pieces_text : (program : List Piece) → length (pieces_text program) ≡ 4 * word_count program
unfolding pieces_text
length-pieces_text [] = refl
length-pieces_text (piece ∷ others) =
    let rest : length (pieces_text others) ≡ 4 * word_count others = length-pieces_text others in
    let here : length (words_text piece.1) ≡ 4 * length piece.1 = length-words_text piece.1 in
    let count : word_count (piece ∷ others) ≡ length piece.1 + word_count others = sum_by-cons (λ (p : Piece). length p.1) piece others in
    length-append (words_text piece.1) (pieces_text others) ∙ omega (arith, here, rest, count)

-- the file without its ELF header, and without all its headers

pub behind_header : List Piece → List ℕ
behind_header program = program_headers (52 + 32 * length program) program ++ pieces_text program

pub elf_text_parts : (program : List Piece) → elf_text program ≡ elf_header (length program) no_sections ++ behind_header program
unfolding program_text behind_header
elf_text_parts program = append_assoc (elf_header (length program) no_sections) (program_headers (52 + 32 * length program) program) (pieces_text program)

pub length-elf_text : (program : List Piece) → length (elf_text program) ≡ 52 + 32 * length program + 4 * word_count program
unfolding program_text
length-elf_text program =
    let headers : List ℕ = program_headers (52 + 32 * length program) program in
    let front : length (elf_header (length program) no_sections ++ headers) ≡ 52 + 32 * length program =
    length-append (elf_header (length program) no_sections) headers
    ∙ omega (arith, length-elf_header (length program) no_sections, length-program_headers (52 + 32 * length program) program) in
    length-append (elf_header (length program) no_sections ++ headers) (pieces_text program) ∙ omega (arith, front, length-pieces_text program)

pub pieces_stand : (program : List Piece) → drop (52 + 32 * length program) (elf_text program) ≡ pieces_text program
unfolding program_text
pieces_stand program =
    let headers : List ℕ = program_headers (52 + 32 * length program) program in
    let front : length (elf_header (length program) no_sections ++ headers) ≡ 52 + 32 * length program =
    length-append (elf_header (length program) no_sections) headers
    ∙ omega (arith, length-elf_header (length program) no_sections, length-program_headers (52 + 32 * length program) program) in
    ap (λ n. drop n (elf_text program)) (sym front) ∙ drop-append_seam (elf_header (length program) no_sections ++ headers) (pieces_text program)

-- the fields of the file

count_read : (program : List Piece) → length program ≤ 64 → header_count (elf_text program) ≡ length program
count_read program few = ap (λ text. half_at text 44) (elf_text_parts program) ∙ count_written (length program) no_sections (behind_header program) few

start_read : (program : List Piece) → 0 < length program → table_start (elf_text program) ≡ 52
start_read program some = ap (λ text. word_at text 28) (elf_text_parts program) ∙ start_written (length program) no_sections (behind_header program) some

headers_stand : (program : List Piece) → 0 < length program
    → drop (header_start (elf_text program) 0) (elf_text program) ≡ program_headers (52 + 32 * length program) program ++ pieces_text program
unfolding behind_header
headers_stand program some =
    let start : table_start (elf_text program) ≡ 52 = start_read program some in
    let front : header_start (elf_text program) 0 ≡ length (elf_header (length program) no_sections) = omega (arith, length-elf_header (length program) no_sections) in
    ap (λ n. drop n (elf_text program)) front ∙ ap (drop (length (elf_header (length program) no_sections))) (elf_text_parts program)
    ∙ drop-append_seam (elf_header (length program) no_sections) (behind_header program)

-- the segments are those of the pieces
pub segments_read : (ram : ℕ) (program : List Piece) → ram < 2 ^ 32 → IsLoadable ram program
    → segments (elf_text program) ≡ segments_of 0 (52 + 32 * length program) program
unfolding segments
segments_read ram program small fits =
    let count : header_count (elf_text program) ≡ length program = count_read program fits.few in
    ap (segments_among (elf_text program) 0) count
    ∙ segments_written (elf_text program) (pieces_text program) 0 (52 + 32 * length program) program (headers_stand program fits.some) (omega arith)
    (λ k d below. let inside = fits.inside k d below in omega (arith, inside))

-- no fault

none_then : (first next : Option ElfFault) → first ≡ None → next ≡ None → or_else first next ≡ None
none_then first next p q = ap (λ f. or_else f next) p ∙ q

field_right : (field value wanted : ℕ) → value ≡ wanted → field_fault field value wanted ≡ None
field_right field value wanted same = grind (arith, nat_tests)

few_right : (count : ℕ) → count ≤ 64 → cond (nat_le count 64) None (Some (BadHeader 44 count)) ≡ None
few_right count few = grind (arith, nat_tests)

header_right : (program : List Piece) → length program ≤ 64 → header_fault (elf_text program) ≡ None
header_right program few =
    let parts = elf_text_parts program in
    let count = length program in
    let rest = behind_header program in
    none_then _ _ (field_right 16 _ 2 (ap (λ text. half_at text 16) parts ∙ type_written count no_sections rest))
    (none_then _ _ (field_right 18 _ 92 (ap (λ text. half_at text 18) parts ∙ machine_written count no_sections rest))
    (none_then _ _ (field_right 20 _ 1 (ap (λ text. word_at text 20) parts ∙ version_written count no_sections rest))
    (none_then _ _ (field_right 40 _ 52 (ap (λ text. half_at text 40) parts ∙ header_size_written count no_sections rest))
    (none_then _ _ (field_right 42 _ 32 (ap (λ text. half_at text 42) parts ∙ entry_size_written count no_sections rest))
    (few_right (header_count (elf_text program)) (omega (arith, count_read program few)))))))

length_right : (bytes : List ℕ) → 52 ≤ length bytes → length_fault bytes ≡ None
length_right bytes long = grind (arith, nat_tests)

table_right : (start count size : ℕ) → start + 32 * count ≤ size
    → cond (count == 0) None (cond (nat_le (start + 32 * count) size) None (Some (Short size))) ≡ None
table_right start count size inside = grind (arith, nat_tests)

segment_right : (size ram index offset place filesz : ℕ) → offset + filesz ≤ size → place + filesz ≤ ram
    → segment_fault size ram (segment_of index offset place filesz) ≡ None
segment_right size ram index offset place filesz in_file in_ram = grind (arith, nat_tests)

each_right : (size ram index offset : ℕ) (program : List Piece) → offset + 4 * word_count program ≤ size
    → All (λ piece. piece.0 + piece_size piece ≤ ram) program → first_segment_fault size ram (segments_of index offset program) ≡ None
each_right size ram index offset [] in_file inside = refl
each_right size ram index offset (piece ∷ others) in_file inside =
    let count : word_count (piece ∷ others) ≡ length piece.1 + word_count others = sum_by-cons (λ (p : Piece). length p.1) piece others in
    let here : piece.0 + piece_size piece ≤ ram = inside 0 piece (omega arith) in
    none_then _ _ (segment_right size ram index offset piece.0 (piece_size piece) (omega arith) here)
    (each_right size ram (index + 1) (offset + piece_size piece) others (omega arith) (λ k d below. inside (suc k) d (omega arith)))

segments_right : (size ram index offset : ℕ) (program : List Piece) → 0 < length program → offset + 4 * word_count program ≤ size
    → All (λ piece. piece.0 + piece_size piece ≤ ram) program → segments_fault size ram (segments_of index offset program) ≡ None
segments_right size ram index offset [] some in_file inside = absurd (omega arith)
segments_right size ram index offset (piece ∷ others) some in_file inside = each_right size ram index offset (piece ∷ others) in_file inside

pub no_fault : (program : List Piece) (ram : ℕ) → ram < 2 ^ 32 → IsLoadable ram program → elf_fault (elf_text program) ram ≡ None
unfolding elf_fault
no_fault program ram small fits =
    let size : length (elf_text program) ≡ 52 + 32 * length program + 4 * word_count program = length-elf_text program in
    let start : table_start (elf_text program) ≡ 52 = start_read program fits.some in
    let count : header_count (elf_text program) ≡ length program = count_read program fits.few in
    let few : length program ≤ 64 = fits.few in
    none_then _ _ (length_right (elf_text program) (omega arith))
    (none_then _ _ (ap ident_fault (elf_text_parts program) ∙ ident_written (length program) no_sections (behind_header program))
    (none_then _ _ (header_right program few)
    (none_then _ _ (table_right (table_start (elf_text program)) (header_count (elf_text program)) (length (elf_text program)) (omega arith))
    (ap (segments_fault (length (elf_text program)) ram) (segments_read ram program small fits)
    ∙ segments_right (length (elf_text program)) ram 0 (52 + 32 * length program) program fits.some (omega arith) fits.inside))))
