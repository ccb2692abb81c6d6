-- The names of labels take no more bytes than their source.
use Rattle.std.proofs.Common.{◌≡◌, refl, ℕ, ◌+◌, ◌≤◌, Bool, true, false, cond, eqb, List, [], ◌∷◌, length, map, Some, None, arith, sum_by}
use Rattle.std.specs.Prelude.{◌==◌, ◌&&◌, ◌||◌, not}
use Rattle.std.specs.List.{onto_first, position_or_len}
use Rattle.std.proofs.lemmas.List.{length-take}
use Rattle.std.proofs.lemmas.List.Sums.{sum_by-cons}
use Rattle.or_elf.specs.LabelText.{LabelEntry, names_size}
use Rattle.or_asm_read.specs.Labels.{Labels}
use Rattle.or_asm_read.specs.Cuts.{is_label, is_blank, trimmed_start, before, has, body_of, has_label}
use Rattle.or_asm.specs.Lines.{lines_of, place_after, with_label, labels_from}
use Rattle.or_asm.specs.First.{all_labels}
use Rattle.or_asm.specs.Symbols.{entry_of, places_of, symbols_of}

abbrev label_bytes : Labels → ℕ
label_bytes labels = sum_by (λ label. length label.0 + 1) labels

abbrev line_bytes : List (List ℕ) → ℕ
line_bytes lines = sum_by length lines

-- an entry has its label's name
entries_bytes : (places : List ℕ) (pieces : List (ℕ × List ℕ)) (labels : Labels) → names_size (map (entry_of places pieces) labels) ≡ label_bytes labels
entries_bytes places pieces [] = refl
entries_bytes places pieces (label ∷ labels) =
    let rest = entries_bytes places pieces labels in
    let left : names_size (map (entry_of places pieces) (label ∷ labels)) ≡ length label.0 + 1 + names_size (map (entry_of places pieces) labels) =
    sum_by-cons (λ (l : LabelEntry). length l.name + 1) (entry_of places pieces label) (map (entry_of places pieces) labels) in
    let right : label_bytes (label ∷ labels) ≡ length label.0 + 1 + label_bytes labels = sum_by-cons (λ (l : List ℕ × ℕ). length l.0 + 1) label labels in
    omega (arith, rest, left, right)

-- a label is shorter than its line, which has its colon too

before_short : (c : ℕ) (bs : List ℕ) → length (before c bs) ≤ length bs
before_short c bs = let cut = length-take (position_or_len (λ b. b == c) bs) bs in omega (arith, cut)

-- what stands before a byte that is there lacks that byte at least

found_step : (here : Bool) (place size : ℕ) (behind : Bool) → (behind ≡ true → place + 1 ≤ size) → (here || behind) ≡ true → cond (not here) (1 + place) 0 + 1 ≤ size + 1
found_step true place size behind h e = omega arith
found_step false place size behind h e = let rest = h e in omega (arith, rest)

found_below : (c : ℕ) (bs : List ℕ) → has c bs ≡ true → position_or_len (λ b. b == c) bs + 1 ≤ length bs
found_below c [] e = absurd cc
found_below c (b ∷ bs) e = let h = found_step (b == c) (position_or_len (λ b. b == c) bs) (length bs) (has c bs) (found_below c bs) e in omega (arith, h)

colon_short : (c : ℕ) (bs : List ℕ) → has c bs ≡ true → length (before c bs) + 1 ≤ length bs
colon_short c bs e =
    let cut = length-take (position_or_len (λ b. b == c) bs) bs in
    let below = found_below c bs e in
    omega (arith, cut, below)

trimmed_step : (t : Bool) (b : ℕ) (bs : List ℕ) (rest : List ℕ) → length rest ≤ length bs → length (cond t rest (b ∷ bs)) ≤ length bs + 1
trimmed_step true b bs rest h = omega arith
trimmed_step false b bs rest h = omega arith

trimmed_short : (bs : List ℕ) → length (trimmed_start bs) ≤ length bs
trimmed_short [] = omega arith
trimmed_short (b ∷ bs) = let h = trimmed_step (is_blank b) b bs (trimmed_start bs) (trimmed_short bs) in omega (arith, h)

body_short : (line : List ℕ) → length (body_of line) ≤ length line
unfolding body_of
body_short line =
    let cut = before_short 35 line in
    let trim = trimmed_short (before 35 line) in
    omega (arith, cut, trim)

and_left : (a b : Bool) → (a && b) ≡ true → a ≡ true
and_left true b e = refl
and_left false b e = absurd cc

label_short : (line : List ℕ) → has_label line ≡ true → length (before 58 (body_of line)) + 1 ≤ length line
unfolding has_label
label_short line e =
    let colon = colon_short 58 (body_of line) (and_left (has 58 (body_of line)) (is_label (before 58 (body_of line))) e) in
    let body = body_short line in
    omega (arith, colon, body)

-- so the labels of lines are shorter than the lines

with_step : (has : Bool) (name : List ℕ) (line_size place rest : ℕ) (labels : Labels) → (has ≡ true → length name + 1 ≤ line_size) → label_bytes labels ≤ rest
    → label_bytes (with_label (cond has (Some name) None) place labels) ≤ line_size + rest
with_step true name line_size place rest labels h below =
    let all : label_bytes ((name, place) ∷ labels) ≡ length name + 1 + label_bytes labels = sum_by-cons (λ (l : List ℕ × ℕ). length l.0 + 1) (name, place) labels in
    let here = h refl in
    omega (arith, all, here, below)
with_step false name line_size place rest labels h below = omega (arith, below)

labels_short : (place : ℕ) (lines : List (List ℕ)) → label_bytes (labels_from place lines) ≤ line_bytes lines
labels_short place [] = omega arith
labels_short place (line ∷ lines) =
    let all : line_bytes (line ∷ lines) ≡ length line + line_bytes lines = sum_by-cons (λ (l : List ℕ). length l) line lines in
    let step = with_step (has_label line) (before 58 (body_of line)) (length line) place (line_bytes lines) (labels_from (place_after place line) lines)
    (label_short line) (labels_short (place_after place line) lines) in
    omega (arith, all, step)

-- and the lines are no longer than their text

onto_first_bytes : (b : ℕ) (lines : List (List ℕ)) (n : ℕ) → line_bytes lines ≤ n → line_bytes (onto_first b lines) ≤ n + 1
onto_first_bytes b [] n h = omega arith
onto_first_bytes b (line ∷ lines) n h =
    let old : line_bytes (line ∷ lines) ≡ length line + line_bytes lines = sum_by-cons (λ (l : List ℕ). length l) line lines in
    let new : line_bytes ((b ∷ line) ∷ lines) ≡ length (b ∷ line) + line_bytes lines = sum_by-cons (λ (l : List ℕ). length l) (b ∷ line) lines in
    omega (arith, old, new, h)

line_step : (t : Bool) (b : ℕ) (lines : List (List ℕ)) (n : ℕ) → line_bytes lines ≤ n → line_bytes (cond t ([] ∷ lines) (onto_first b lines)) ≤ n + 1
line_step true b lines n h = omega (arith, h)
line_step false b lines n h = onto_first_bytes b lines n h

lines_short : (bs : List ℕ) → line_bytes (lines_of bs) ≤ length bs
lines_short [] = omega arith
lines_short (b ∷ bs) = let h = line_step (eqb b 10) b (lines_of bs) (length bs) (lines_short bs) in omega (arith, h)

pub few_bytes : (text : List ℕ) (pieces : List (ℕ × List ℕ)) → length text ≤ 4194304 → names_size (symbols_of (all_labels text) pieces) ≤ 4194304
few_bytes text pieces short =
    let names = entries_bytes (places_of (all_labels text)) pieces (all_labels text) in
    let labels = labels_short 0x100 (lines_of text) in
    let lines = lines_short text in
    omega (arith, names, labels, lines, short)
