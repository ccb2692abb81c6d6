-- The last access to RAM.
use Rattle.std.specs.Prelude.{ℕ, Option, Some, if◌then◌else◌, nat_lt, length}
use Rattle.or_parts.specs.Memory.{word_address}
use Rattle.or_bus.specs.declared.access.Access.{Access}
use Rattle.or_bus.specs.declared.access.AccessKind.{AccessKind}
use Rattle.or_bus.specs.State.{BusState}

-- an access of core c to the word that an address lies in
abbrev pub access_of : ℕ → ℕ → AccessKind → Access
access_of c pa kind = record { core = c; word = word_address pa; kind = kind }

-- what is told after core c's access at an address: this one where it went to RAM, and the one before where it did not
abbrev pub last_after : BusState → ℕ → ℕ → AccessKind → Option Access
last_after bus c pa kind = if nat_lt pa (length bus.ram) then Some (access_of c pa kind) else bus.last
