-- After a written file is placed, each word of the program stands at its address.
use Rattle.std.proofs.Common.{◌≡◌, ◌∙◌, ap, sym, refl, subst, ℕ, suc, ◌+◌, ◌-◌, ◌*◌, ◌^◌, ◌<◌, ◌≤◌, List, [], ◌∷◌, ◌++◌, length, drop, take, replicate, get_or, arith, append_assoc, append-nil, length-append, length-take-le, length-drop, inl, inr}
use Rattle.std.specs.Prelude.{◌⊎◌}
use Rattle.std.specs.List.{All, AllPairs, fold}
use Rattle.std.proofs.lemmas.Bool.{cases_lt}
use Rattle.std.proofs.lemmas.List.{get_or-take, get_or-drop, drop-drop, get_or_append_left, get_or-append_right, get_or-append-add, ext_get_or, take-append-drop, length-replicate, get_or-replicate, get_or_past}
use Rattle.std.proofs.lemmas.List.Elements.{All-nil, All-cons}
use Rattle.std.proofs.Math.Nat.{sub_self}
use Rattle.std.proofs.Math.Seq.{take-append_seam, drop-append_seam}
use Rattle.or_elf.specs.Header.{word_at}
use Rattle.or_elf.specs.Placed.{place_segment, placed}
use Rattle.or_elf.specs.Text.{Piece, piece_size, words_text, pieces_text, elf_text}
use Rattle.or_elf.specs.Loading.{part, Covers, ShareNoAddress, IsLoadable}
use Rattle.or_elf.proofs.WrittenWords.{length-words_text, word_at-add, word_at-words}
use Rattle.or_elf.proofs.WrittenHeaders.{segment_of, segments_of}
use Rattle.or_elf.proofs.WrittenFault.{pieces_stand, segments_read}

-- RAM with these bytes from an address on
written : List ℕ → ℕ → List ℕ → List ℕ
written ram place bytes = take place ram ++ (bytes ++ drop (place + length bytes) ram)

length-written : (ram : List ℕ) (place : ℕ) (bytes : List ℕ) → place + length bytes ≤ length ram → length (written ram place bytes) ≡ length ram
unfolding written
length-written ram place bytes inside =
    let behind : List ℕ = drop (place + length bytes) ram in
    let front : length (take place ram) ≡ place = length-take-le place ram (omega arith) in
    let back : length behind ≡ length ram - (place + length bytes) = length-drop (place + length bytes) ram in
    length-append (take place ram) (bytes ++ behind) ∙ omega (arith, front, back, length-append bytes behind)

-- an address in them, before them and behind them
written_inside : (ram : List ℕ) (place : ℕ) (bytes : List ℕ) (k : ℕ) → place + length bytes ≤ length ram → k < length bytes
    → get_or (written ram place bytes) (place + k) 0 ≡ get_or bytes k 0
unfolding written
written_inside ram place bytes k inside below =
    let behind : List ℕ = drop (place + length bytes) ram in
    let front : place ≡ length (take place ram) = sym (length-take-le place ram (omega arith)) in
    ap (λ n. get_or (take place ram ++ (bytes ++ behind)) (n + k) 0) front
    ∙ get_or-append-add (take place ram) (bytes ++ behind) k 0
    ∙ get_or_append_left bytes behind 0 k below

written_before : (ram : List ℕ) (place : ℕ) (bytes : List ℕ) (address : ℕ) → place + length bytes ≤ length ram → address < place
    → get_or (written ram place bytes) address 0 ≡ get_or ram address 0
unfolding written
written_before ram place bytes address inside before =
    let front : length (take place ram) ≡ place = length-take-le place ram (omega arith) in
    get_or_append_left (take place ram) (bytes ++ drop (place + length bytes) ram) 0 address (omega arith)
    ∙ get_or-take place ram address 0 before

written_behind : (ram : List ℕ) (place : ℕ) (bytes : List ℕ) (address : ℕ) → place + length bytes ≤ length ram → place + length bytes ≤ address
    → get_or (written ram place bytes) address 0 ≡ get_or ram address 0
unfolding written
written_behind ram place bytes address inside behind =
    let rest : List ℕ = drop (place + length bytes) ram in
    let front : length (take place ram) ≡ place = length-take-le place ram (omega arith) in
    let e : place + length bytes + (address - place - length bytes) ≡ address = omega arith in
    get_or-append_right (take place ram) (bytes ++ rest) place address 0 front (omega arith)
    ∙ get_or-append_right bytes rest (length bytes) (address - place) 0 refl (omega arith)
    ∙ get_or-drop (place + length bytes) ram (address - place - length bytes) 0
    ∙ ap (λ n. get_or ram n 0) e

written_outside : (ram : List ℕ) (place : ℕ) (bytes : List ℕ) (address : ℕ) → place + length bytes ≤ length ram
    → (address < place) ⊎ (place ≤ address) → (address < place + length bytes) ⊎ (place + length bytes ≤ address)
    → (place ≤ address → address < place + length bytes → ⊥) → get_or (written ram place bytes) address 0 ≡ get_or ram address 0
written_outside ram place bytes address inside (inl before) end apart = written_before ram place bytes address inside before
written_outside ram place bytes address inside (inr from) (inl below) apart = absurd (apart from below)
written_outside ram place bytes address inside (inr from) (inr behind) apart = written_behind ram place bytes address inside behind

-- what the placing of a piece's segment makes, where its words stand in the file
piece_placed : (bytes ram rest : List ℕ) (index offset place : ℕ) (words : List ℕ) → drop offset bytes ≡ words_text words ++ rest
    → place_segment bytes ram (segment_of index offset place (4 * length words)) ≡ written ram place (words_text words)
unfolding written
piece_placed bytes ram rest index offset place words stands =
    let size : ℕ = 4 * length words in
    let text : List ℕ = words_text words in
    let front : List ℕ = take place ram in
    let whole : length text ≡ size = length-words_text words in
    let taken : take size (drop offset bytes) ≡ text =
    ap (take size) stands ∙ ap (λ n. take n (text ++ rest)) (sym whole) ∙ take-append_seam text rest in
    ap (λ part. front ++ part ++ replicate (size - size) 0 ++ drop (place + size) ram) taken
    ∙ ap (λ n. front ++ text ++ replicate n 0 ++ drop (place + size) ram) (sub_self size)
    ∙ ap (λ part. part ++ drop (place + size) ram) (append-nil (front ++ text))
    ∙ append_assoc front text (drop (place + size) ram)
    ∙ ap (λ n. front ++ (text ++ drop (place + n) ram)) (sym whole)

-- RAM after pieces are placed, the first of which has its words at this offset
abbrev after : List ℕ → List ℕ → ℕ → ℕ → List Piece → List ℕ
after bytes ram index offset program = fold (place_segment bytes) ram (segments_of index offset program)

-- one piece, and then the others
step : (bytes ram : List ℕ) (index offset : ℕ) (piece : Piece) (others : List Piece) → drop offset bytes ≡ pieces_text (piece ∷ others)
    → after bytes ram index offset (piece ∷ others)
    ≡ after bytes (written ram piece.0 (words_text piece.1)) (index + 1) (offset + piece_size piece) others
unfolding pieces_text
step bytes ram index offset piece others stands =
    ap (λ ram. after bytes ram (index + 1) (offset + piece_size piece) others)
    (piece_placed bytes ram (pieces_text others) index offset piece.0 piece.1 stands)

next_stands : (bytes : List ℕ) (offset : ℕ) (piece : Piece) (others : List Piece) → drop offset bytes ≡ pieces_text (piece ∷ others)
    → drop (offset + piece_size piece) bytes ≡ pieces_text others
unfolding pieces_text
next_stands bytes offset piece others stands =
    sym (drop-drop (piece_size piece) offset bytes) ∙ ap (drop (piece_size piece)) stands
    ∙ ap (λ n. drop n (words_text piece.1 ++ pieces_text others)) (sym (length-words_text piece.1))
    ∙ drop-append_seam (words_text piece.1) (pieces_text others)

abbrev AllInside : ℕ → List Piece → Type 0
AllInside ram program = All (λ piece. piece.0 + piece_size piece ≤ ram) program

length-after : (bytes ram : List ℕ) (index offset : ℕ) (program : List Piece) → drop offset bytes ≡ pieces_text program → AllInside (length ram) program
    → length (after bytes ram index offset program) ≡ length ram
length-after bytes ram index offset [] stands inside = refl
length-after bytes ram index offset (piece ∷ others) stands inside =
    let text : List ℕ = words_text piece.1 in
    let here : piece.0 + piece_size piece ≤ length ram = inside 0 piece (omega arith) in
    let same : length (written ram piece.0 text) ≡ length ram = length-written ram piece.0 text (omega (arith, length-words_text piece.1)) in
    ap length (step bytes ram index offset piece others stands)
    ∙ length-after bytes (written ram piece.0 text) (index + 1) (offset + piece_size piece) others (next_stands bytes offset piece others stands)
    (λ k d below. let there = inside (suc k) d (omega arith) in omega (arith, there, same))
    ∙ same

-- what no piece covers stays
kept : (bytes ram : List ℕ) (index offset : ℕ) (program : List Piece) (address : ℕ) → drop offset bytes ≡ pieces_text program → AllInside (length ram) program
    → All (λ piece. Covers piece address → ⊥) program → get_or (after bytes ram index offset program) address 0 ≡ get_or ram address 0
kept bytes ram index offset [] address stands inside apart = refl
kept bytes ram index offset (piece ∷ others) address stands inside apart =
    let text : List ℕ = words_text piece.1 in
    let size : length text ≡ piece_size piece = length-words_text piece.1 in
    let here : piece.0 + piece_size piece ≤ length ram = inside 0 piece (omega arith) in
    let fits : piece.0 + length text ≤ length ram = omega arith in
    let same : length (written ram piece.0 text) ≡ length ram = length-written ram piece.0 text fits in
    ap (λ ram. get_or ram address 0) (step bytes ram index offset piece others stands)
    ∙ kept bytes (written ram piece.0 text) (index + 1) (offset + piece_size piece) others address (next_stands bytes offset piece others stands)
    (λ k d below. let there = inside (suc k) d (omega arith) in omega (arith, there, same))
    (λ k d below. apart (suc k) d (omega arith))
    ∙ written_outside ram piece.0 text address fits (cases_lt address piece.0) (cases_lt address (piece.0 + length text))
    (λ from below. apart 0 piece (omega arith) (record { from = from; below = omega arith }))

-- the bytes of a piece stand from its address on
abbrev pub Holds : List ℕ → Piece → Type 0
Holds ram piece = (k : ℕ) → k < piece_size piece → get_or ram (piece.0 + k) 0 ≡ get_or (words_text piece.1) k 0

held : (bytes ram : List ℕ) (index offset : ℕ) (program : List Piece) → drop offset bytes ≡ pieces_text program → AllInside (length ram) program
    → AllPairs ShareNoAddress program → All (Holds (after bytes ram index offset program)) program
held bytes ram index offset [] stands inside apart = All-nil (Holds (after bytes ram index offset []))
held bytes ram index offset (piece ∷ others) stands inside apart =
    let text : List ℕ = words_text piece.1 in
    let size : length text ≡ piece_size piece = length-words_text piece.1 in
    let here : piece.0 + piece_size piece ≤ length ram = inside 0 piece (omega arith) in
    let fits : piece.0 + length text ≤ length ram = omega arith in
    let same : length (written ram piece.0 text) ≡ length ram = length-written ram piece.0 text fits in
    let next = next_stands bytes offset piece others stands in
    let inside_next : AllInside (length (written ram piece.0 text)) others =
    λ k d below. let there = inside (suc k) d (omega arith) in omega (arith, there, same) in
    let whole = step bytes ram index offset piece others stands in
    let first : Holds (after bytes ram index offset (piece ∷ others)) piece =
    λ k below.
    ap (λ ram. get_or ram (piece.0 + k) 0) whole
    ∙ kept bytes (written ram piece.0 text) (index + 1) (offset + piece_size piece) others (piece.0 + k) next inside_next
    (λ j d small. apart 0 (suc j) d (omega arith) (omega arith) (piece.0 + k) (record { from = omega arith; below = omega arith }))
    ∙ written_inside ram piece.0 text k fits (omega arith) in
    let rest : All (Holds (after bytes ram index offset (piece ∷ others))) others =
    let P : List ℕ → Type 0 = λ ram. All (Holds ram) others in
    subst P (sym whole)
    (held bytes (written ram piece.0 text) (index + 1) (offset + piece_size piece) others next inside_next
    (λ i j d less small. apart (suc i) (suc j) d (omega arith) (omega arith))) in
    All-cons (Holds (after bytes ram index offset (piece ∷ others))) piece others first rest

-- a written file, placed

abbrev zeros : ℕ → List ℕ
zeros ram = replicate ram 0

placed_after : (program : List Piece) (ram : ℕ) → ram < 2 ^ 32 → IsLoadable ram program
    → placed (elf_text program) ram ≡ after (elf_text program) (zeros ram) 0 (52 + 32 * length program) program
unfolding placed
placed_after program ram small fits = ap (fold (place_segment (elf_text program)) (zeros ram)) (segments_read ram program small fits)

blank_inside : (program : List Piece) (ram : ℕ) → IsLoadable ram program → AllInside (length (zeros ram)) program
blank_inside program ram fits = λ k d below. let here = fits.inside k d below in omega (arith, here, length-replicate {A = ℕ} ram 0)

pub length-placed_text : (program : List Piece) (ram : ℕ) → ram < 2 ^ 32 → IsLoadable ram program → length (placed (elf_text program) ram) ≡ ram
length-placed_text program ram small fits =
    ap length (placed_after program ram small fits)
    ∙ length-after (elf_text program) (zeros ram) 0 (52 + 32 * length program) program (pieces_stand program) (blank_inside program ram fits)
    ∙ length-replicate {A = ℕ} ram 0

piece_held : (program : List Piece) (ram : ℕ) → ram < 2 ^ 32 → IsLoadable ram program → All (Holds (placed (elf_text program) ram)) program
piece_held program ram small fits =
    let P : List ℕ → Type 0 = λ ram. All (Holds ram) program in
    subst P (sym (placed_after program ram small fits))
    (held (elf_text program) (zeros ram) 0 (52 + 32 * length program) program (pieces_stand program) (blank_inside program ram fits) fits.apart)

-- the bytes of a piece
part_of_piece : (ram : List ℕ) (piece : Piece) → piece.0 + piece_size piece ≤ length ram → Holds ram piece → part ram piece.0 (piece_size piece) ≡ words_text piece.1
part_of_piece ram piece inside holds =
    let size : length (words_text piece.1) ≡ piece_size piece = length-words_text piece.1 in
    let behind : length (drop piece.0 ram) ≡ length ram - piece.0 = length-drop piece.0 ram in
    let taken : length (part ram piece.0 (piece_size piece)) ≡ piece_size piece = length-take-le (piece_size piece) (drop piece.0 ram) (omega arith) in
    ext_get_or 0 (part ram piece.0 (piece_size piece)) (words_text piece.1) (omega arith)
    (λ k below. let small : k < piece_size piece = omega arith in
    get_or-take (piece_size piece) (drop piece.0 ram) k 0 small ∙ get_or-drop piece.0 ram k 0 ∙ holds k small)

pub pieces_placed : (program : List Piece) (ram : ℕ) → ram < 2 ^ 32 → IsLoadable ram program
    → All (λ piece. part (placed (elf_text program) ram) piece.0 (piece_size piece) ≡ words_text piece.1) program
pieces_placed program ram small fits k d below =
    let here = fits.inside k d below in
    part_of_piece (placed (elf_text program) ram) (get_or program k d) (omega (arith, here, length-placed_text program ram small fits))
    (piece_held program ram small fits k d below)

-- a word of a piece
word_of_piece : (ram : List ℕ) (piece : Piece) → part ram piece.0 (piece_size piece) ≡ words_text piece.1
    → (index : ℕ) → index < length piece.1 → get_or piece.1 index 0 < 2 ^ 32 → word_at ram (piece.0 + 4 * index) ≡ get_or piece.1 index 0
word_of_piece ram piece holds index below small =
    let rest : List ℕ = drop (piece_size piece) (drop piece.0 ram) in
    let whole : drop piece.0 ram ≡ words_text piece.1 ++ rest =
    sym (take-append-drop (piece_size piece) (drop piece.0 ram)) ∙ ap (λ front. front ++ rest) holds in
    word_at-add ram piece.0 (4 * index) ∙ ap (λ text. word_at text (4 * index)) whole
    ∙ word_at-words piece.1 rest index below small

pub words_placed : (program : List Piece) (ram : ℕ) → ram < 2 ^ 32 → IsLoadable ram program
    → All (λ piece. (index : ℕ) → index < length piece.1 → get_or piece.1 index 0 < 2 ^ 32
    → word_at (placed (elf_text program) ram) (piece.0 + 4 * index) ≡ get_or piece.1 index 0) program
words_placed program ram small fits k d below =
    word_of_piece (placed (elf_text program) ram) (get_or program k d) (pieces_placed program ram small fits k d below)

-- an address that no piece covers
blank : (ram address : ℕ) → (address < ram) ⊎ (ram ≤ address) → get_or (zeros ram) address 0 ≡ 0
blank ram address (inl below) = get_or-replicate {A = ℕ} ram address 0 0 below
blank ram address (inr past) = get_or_past (zeros ram) address 0 (omega (arith, length-replicate {A = ℕ} ram 0))

pub zeros_placed : (program : List Piece) (ram address : ℕ) → ram < 2 ^ 32 → IsLoadable ram program → All (λ piece. Covers piece address → ⊥) program
    → get_or (placed (elf_text program) ram) address 0 ≡ 0
zeros_placed program ram address small fits apart =
    ap (λ ram. get_or ram address 0) (placed_after program ram small fits)
    ∙ kept (elf_text program) (zeros ram) 0 (52 + 32 * length program) program address (pieces_stand program) (blank_inside program ram fits) apart
    ∙ blank ram address (cases_lt address ram)
