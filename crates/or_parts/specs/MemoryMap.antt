-- Which device answers an access, by the rows of the memory map.
use Rattle.std.specs.Prelude.{ℕ, ◌+◌, ◌-◌, ◌*◌, Bool, ◌==◌, ◌&&◌, nat_le, nat_lt, if◌then◌else◌, List, [], ◌∷◌, Option, Some, None}
use Rattle.or_words.specs.declared.Width.{Width}
use Rattle.or_parts.specs.declared.memory_map.Device.{Device}
use Rattle.or_parts.specs.declared.memory_map.Mapping.{Mapping}
use Rattle.or_parts.specs.declared.memory_map.TheConstants.{MEMORY_MAP}
use Rattle.or_parts.specs.Memory.{bytes_of}

-- an address is one of so many from a first one on
abbrev pub is_in : ℕ → ℕ → ℕ → Bool
is_in pa first count = nat_le first pa && nat_lt pa (first + count)

-- a row answers an access on a board with so many cores: the address lies in its device, and the width is its own
abbrev pub is_mapped : Mapping → ℕ → ℕ → Width → Bool
is_mapped row cores pa width = bytes_of width == bytes_of row.width && is_in pa row.base (row.bytes + row.bytes_per_core * cores)

-- the device that answers an access of this width, and the offset in it
abbrev pub register_in : List Mapping → ℕ → ℕ → Width → Option (Device × ℕ)
register_in [] cores pa width = None
register_in (row ∷ rows) cores pa width = if is_mapped row cores pa width then Some (row.device, pa - row.base) else register_in rows cores pa width

-- the same by the memory map of the board
unfoldable pub register_at : ℕ → ℕ → Width → Option (Device × ℕ)
register_at cores pa width = register_in MEMORY_MAP cores pa width
