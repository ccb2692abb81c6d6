-- How long a file is from one of its labels on, and how many labels there are.
use Rattle.std.proofs.Common.{◌≡◌, ◌∙◌, ◌≤◌, ◌<◌, ap, sym, arith, ℕ, suc, ◌+◌, List, ◌∷◌, [], ◌++◌, length, drop, slice_index_or}
use Rattle.std.proofs.Math.Seq.{drop-cons}
use Rattle.std.proofs.lemmas.List.{drop_all}
use Rattle.std.proofs.lemmas.List.Sums.{sum_by-cons}
use Rattle.or_elf.specs.LabelText.{LabelEntry, names_size, symbol_text, symbols_text}

more_names : (label : LabelEntry) (labels : List LabelEntry) → names_size (label ∷ labels) ≡ length label.name + 1 + names_size labels
more_names label labels = sum_by-cons (λ (l : LabelEntry). length l.name + 1) label labels

pub few_labels : (labels : List LabelEntry) → length labels ≤ names_size labels
few_labels [] = omega arith
few_labels (label ∷ labels) =
    let rest = few_labels labels in
    let size = more_names label labels in
    omega (arith, rest, size)

-- the names from one label on
pub names_from : (labels : List LabelEntry) (i : ℕ) (d : LabelEntry) → i < length labels
    → names_size (drop i labels) ≡ length (slice_index_or labels i d).name + 1 + names_size (drop (i + 1) labels)
names_from labels i d below =
    let next : suc i ≡ i + 1 = omega arith in
    let here = slice_index_or labels i d in
    ap names_size (drop-cons labels i d below) ∙ more_names here (drop (suc i) labels) ∙ ap (λ n. length here.name + 1 + names_size (drop n labels)) next

-- the symbols from one label on
pub symbols_from : (labels : List LabelEntry) (i name : ℕ) (label : LabelEntry) → i < length labels → label ≡ slice_index_or labels i label
    → symbols_text name (drop i labels) ≡ symbol_text name label ++ symbols_text (name + (length label.name + 1)) (drop (i + 1) labels)
unfolding symbols_text
symbols_from labels i name label below is =
    let next : suc i ≡ i + 1 = omega arith in
    let sum : name + length label.name + 1 ≡ name + (length label.name + 1) = omega arith in
    ap (symbols_text name) (drop-cons labels i label below)
    ∙ ap (λ (l : LabelEntry). symbol_text name l ++ symbols_text (name + length l.name + 1) (drop (suc i) labels)) (sym is)
    ∙ ap (λ n. symbol_text name label ++ symbols_text (name + length label.name + 1) (drop n labels)) next
    ∙ ap (λ n. symbol_text name label ++ symbols_text n (drop (i + 1) labels)) sum

pub symbols_end : (labels : List LabelEntry) (i name : ℕ) → length labels ≤ i → symbols_text name (drop i labels) ≡ []
unfolding symbols_text
symbols_end labels i name above = ap (symbols_text name) (drop_all i labels above)
