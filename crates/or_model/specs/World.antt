-- The world round the cores: flat memory, what has happened to it, and the devices.
use Rattle.std.specs.Prelude.{ℕ, ◌≤◌, ◌≡◌, Bool, false, List, [], ◌∷◌, ◌++◌, Option, Some, None, length, slice_index_or, slice_set, replicate}
use Rattle.or_words.specs.declared.Width.{Width}
use Rattle.or_parts.specs.Memory.{stored, word_address}
use Rattle.or_parts.specs.Lines.{line_of}
use Rattle.or_parts.specs.Reservation.{ReservationMark, stands_by}
use Rattle.or_parts.specs.Devices.{Devices, reset_devices, served_cores}

pub data Kind : Type 0 where
  Loads : Kind
  Stores : Kind
  Drops : Kind

-- one access to RAM: by which core, to which line, and whether through its data cache
pub record Access : Type 0 where
  pub core : ℕ
  pub kind : Kind
  pub line : ℕ
  pub cached : Bool

pub record World : Type 0 where
  pub ram : List ℕ
  -- each write to RAM, as its core and its word's address, the newest last
  pub writes : List (ℕ × ℕ)
  -- each access to RAM, the newest first
  pub accesses : List Access
  -- what each core reserved last, if it has not been used up
  pub marks : List (Option ReservationMark)
  pub devices : Devices

-- a world in which nothing has happened
unfoldable pub new_world : List ℕ → ℕ → List ℕ → World
new_world ram cores input = record {
  ram = ram;
  writes = [];
  accesses = [];
  marks = replicate cores None;
  devices = reset_devices cores input;
}

-- what a load from RAM leaves behind
unfoldable pub after_load : World → ℕ → ℕ → Bool → World
after_load world c pa cached = record world { accesses = (record { core = c; kind = Loads; line = line_of pa; cached = cached }) ∷ world.accesses }

-- what a store to RAM leaves behind
unfoldable pub after_store : World → ℕ → ℕ → Width → ℕ → Bool → World
after_store world c pa width v cached = record world {
  ram = stored world.ram pa width v;
  writes = world.writes ++ (c, word_address pa) ∷ [];
  accesses = (record { core = c; kind = Stores; line = line_of pa; cached = cached }) ∷ world.accesses;
}

-- what the drop of a line leaves behind
unfoldable pub after_drop : World → ℕ → ℕ → World
after_drop world c pa = record world { accesses = (record { core = c; kind = Drops; line = line_of pa; cached = false }) ∷ world.accesses }

-- core c reserves a word
unfoldable pub marked : World → ℕ → ℕ → World
marked world c word = record world { marks = slice_set world.marks c (Some (word, length world.writes)) }

-- core c has no reservation any more
unfoldable pub unmarked : World → ℕ → World
unmarked world c = record world { marks = slice_set world.marks c None }

-- core c's reservation of a word stands: the mark is of this word, and no core has written the word since
unfoldable pub stands : World → ℕ → ℕ → Bool
stands world c word = stands_by world.writes word (slice_index_or world.marks c None)

-- there is a mark for each core, the devices serve each core, and no mark is at a place that the writes have not reached
pub record IsValid (world : World) (cores : ℕ) : Type 0 where
  pub marks : length world.marks ≡ cores
  pub reached : (c word k : ℕ) → slice_index_or world.marks c None ≡ Some (word, k) → k ≤ length world.writes
  pub devices : served_cores world.devices ≡ cores
