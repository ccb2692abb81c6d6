-- The entries of labels, by their places in rising order.
use Rattle.std.proofs.Common.{◌≡◌, ◌∙◌, refl, ap, ℕ, ◌-◌, List, [], ◌∷◌, map, Option, Some, None, Bor, subst}
use Rattle.std.specs.Prelude.{IsPermutation}
use Rattle.or_elf.specs.LabelText.{LabelEntry}
use Rattle.or_asm.specs.Symbols.{next_among, size_within, size_at, end_at, places_of, entry_of, symbols_of}
use Rattle.or_asm.proofs.NextPlace.{next_permuted}

-- labels as the code holds them
abbrev pair_of : Bor (List ℕ) × ℕ → List ℕ × ℕ
pair_of label = (label.0.now, label.1)

abbrev Agree : List ℕ → List ℕ → Type 0
Agree sorted places = (place end : ℕ) → next_among sorted place end ≡ next_among places place end

size_same : (sorted places : List ℕ) (place : ℕ) (end : Option ℕ) → Agree sorted places → size_within sorted place end ≡ size_within places place end
size_same sorted places place None agree = refl
size_same sorted places place (Some end) agree = ap (λ n. n - place) (agree place end)

abbrev entry_with : List ℕ × ℕ → ℕ → LabelEntry
entry_with label n = record { name = label.0; place = label.1; size = n }

entry_same : (sorted places : List ℕ) (pieces : List (ℕ × List ℕ)) (label : List ℕ × ℕ) → Agree sorted places → entry_of sorted pieces label ≡ entry_of places pieces label
entry_same sorted places pieces label agree =
    let size : size_at sorted pieces label.1 ≡ size_at places pieces label.1 = size_same sorted places label.1 (end_at pieces label.1) agree in
    ap (λ (n : ℕ). entry_with label n) size

entries_same : (sorted places : List ℕ) (pieces : List (ℕ × List ℕ)) (labels : List (Bor (List ℕ) × ℕ)) → Agree sorted places
    → map (λ label. entry_of sorted pieces (label.0.now, label.1)) labels ≡ map (entry_of places pieces) (map pair_of labels)
entries_same sorted places pieces [] agree = refl
entries_same sorted places pieces (label ∷ labels) agree =
    ap (λ first. first ∷ map (λ label. entry_of sorted pieces (label.0.now, label.1)) labels) (entry_same sorted places pieces (pair_of label) agree)
    ∙ ap (λ rest. entry_of places pieces (pair_of label) ∷ rest) (entries_same sorted places pieces labels agree)

places_same : (labels : List (Bor (List ℕ) × ℕ)) → map (λ label. label.1) labels ≡ places_of (map pair_of labels)
places_same [] = refl
places_same (label ∷ labels) = ap (λ rest. label.1 ∷ rest) (places_same labels)

pub sorted_entries : (labels : List (Bor (List ℕ) × ℕ)) (sorted : List ℕ) (pieces : List (ℕ × List ℕ)) → IsPermutation (map (λ label. label.1) labels) sorted
    → map (λ label. entry_of sorted pieces (label.0.now, label.1)) labels ≡ symbols_of (map (λ label. (label.0.now, label.1)) labels) pieces
sorted_entries labels sorted pieces same =
    let places = places_of (map pair_of labels) in
    let moved : IsPermutation places sorted = subst (λ (ps : List ℕ). IsPermutation ps sorted) (places_same labels) same in
    entries_same sorted places pieces labels (λ place end. next_permuted places sorted place end moved)
