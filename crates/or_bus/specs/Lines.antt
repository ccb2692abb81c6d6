-- Lines that a data cache holds, and what stands at one of its indexes.
use Rattle.std.specs.Prelude.{◌≡◌, ℕ, ◌+◌, ◌%◌, Bool, true, false, ◌==◌, List, Option, Some, None, slice_range}
use Rattle.or_parts.specs.declared.Line.{Line}
use Rattle.or_parts.specs.Lines.{index_of, line_at_index}
use Rattle.or_model.specs.World.{World}
use Rattle.or_model.specs.Caches.{held}

-- what stands at an index is the line that begins at an address
abbrev pub is_line : ℕ → Option Line → Bool
is_line address None = false
is_line address (Some line) = line.address == address

-- the cache holds the line that begins at an address
unfoldable pub holds : List (Option Line) → ℕ → Bool
holds lines address = is_line address (line_at_index lines (index_of address))

-- what is told of an index of core c's cache: the line of that index that is held, with the bytes of RAM, or none where none is held
abbrev pub IsLineTold : World → ℕ → ℕ → Option (ℕ × List ℕ) → Type 0
IsLineTold world c index (Some line) = (line.0 % 32 ≡ 0) × (index_of line.0 ≡ index) × (held world.accesses c line.0 ≡ true) × (line.1 ≡ slice_range world.ram line.0 (line.0 + 32))
IsLineTold world c index None = (line : ℕ) → line % 32 ≡ 0 → index_of line ≡ index → held world.accesses c line ≡ false
