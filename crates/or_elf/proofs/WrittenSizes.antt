-- How long a file is from one of its pieces on.
use Rattle.std.proofs.Common.{◌≡◌, ◌∙◌, ap, sym, arith, ℕ, ◌+◌, List, ◌∷◌, ◌++◌, length, length-append}
use Rattle.or_elf.specs.Text.{Piece, piece_size, words_text, pieces_text, program_header, program_headers}

pub headers_from : (offset : ℕ) (pieces : List Piece) (piece : Piece) (others : List Piece) (before whole : List ℕ) → pieces ≡ piece ∷ others
    → before ++ program_headers offset pieces ≡ whole
    → length before + (length (program_header offset piece.0 (piece_size piece)) + length (program_headers (offset + piece_size piece) others)) ≡ length whole
unfolding program_headers
headers_from offset pieces piece others before whole parts text =
    let header = program_header offset piece.0 (piece_size piece) in
    let behind = program_headers (offset + piece_size piece) others in
    let shape : before ++ (header ++ behind) ≡ whole = ap (λ p. before ++ program_headers offset p) (sym parts) ∙ text in
    grind (arith, ap length shape, length-append before (header ++ behind), length-append header behind)

pub pieces_from : (pieces : List Piece) (piece : Piece) (others : List Piece) (before whole : List ℕ) → pieces ≡ piece ∷ others
    → before ++ pieces_text pieces ≡ whole
    → length before + (length (words_text piece.1) + length (pieces_text others)) ≡ length whole
unfolding pieces_text
pieces_from pieces piece others before whole parts text =
    let shape : before ++ (words_text piece.1 ++ pieces_text others) ≡ whole = ap (λ p. before ++ pieces_text p) (sym parts) ∙ text in
    grind (arith, ap length shape, length-append before (words_text piece.1 ++ pieces_text others), length-append (words_text piece.1) (pieces_text others))
