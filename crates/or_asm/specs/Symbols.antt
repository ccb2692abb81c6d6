-- The labels of a source, as the symbol table of its program has them.
use Rattle.std.specs.Prelude.{ℕ, ◌+◌, ◌-◌, ◌*◌, min, nat_lt, if◌then◌else◌, List, [], ◌∷◌, Option, Some, None, option_map, length, map}
use Rattle.std.specs.List.{find}
use Rattle.or_elf.specs.LabelText.{LabelEntry}
use Rattle.or_asm_read.specs.Labels.{Labels}
use Rattle.or_asm.specs.Program.{covers}

-- where a piece ends
abbrev pub end_of_piece : ℕ × List ℕ → ℕ
end_of_piece piece = piece.0 + 4 * length piece.1

-- where the piece ends that has a word at a place
abbrev pub end_at : List (ℕ × List ℕ) → ℕ → Option ℕ
end_at pieces place = option_map end_of_piece (find (covers place) pieces)

-- the least of these places that is greater than a place, or the end where that is less
abbrev pub next_among : List ℕ → ℕ → ℕ → ℕ
next_among [] place end = end
next_among (other ∷ others) place end =
    if nat_lt place other then min other (next_among others place end) else next_among others place end

-- what a label names: the bytes up to the next greater label in its piece, or to the end of the piece; none where no
-- piece has a word at its place
abbrev pub size_within : List ℕ → ℕ → Option ℕ → ℕ
size_within places place None = 0
size_within places place (Some end) = next_among places place end - place

abbrev pub size_at : List ℕ → List (ℕ × List ℕ) → ℕ → ℕ
size_at places pieces place = size_within places place (end_at pieces place)

abbrev pub places_of : Labels → List ℕ
places_of labels = map (λ label. label.1) labels

abbrev pub entry_of : List ℕ → List (ℕ × List ℕ) → List ℕ × ℕ → LabelEntry
entry_of places pieces label = record { name = label.0; place = label.1; size = size_at places pieces label.1 }

-- in the order of the source
abbrev pub symbols_of : Labels → List (ℕ × List ℕ) → List LabelEntry
symbols_of labels pieces = map (entry_of (places_of labels) pieces) labels
