-- What contracts see of a bus.
use Rattle.std.specs.Prelude.{ℕ, ◌+◌, min, List, Option, slice_index_or}
use Rattle.or_parts.specs.declared.Line.{Line}
use Rattle.or_parts.specs.Devices.{Devices}
use Rattle.or_model.specs.declared.Counts.{Counts}
use Rattle.or_mem.specs.Memory.{last_count}
use Rattle.or_bus.specs.declared.access.Access.{Access}

pub record BusState : Type 0 where
  pub cores : ℕ
  pub ram : List ℕ
  -- how often RAM was read
  pub reads : ℕ
  -- for each core, the lines of its data cache
  pub caches : List (List (Option Line))
  -- for each of eight cores, the word that it has reserved
  pub slots : List (Option ℕ)
  -- for each of eight cores, its hits and misses
  pub counts : List Counts
  -- how often RAM was written
  pub writes : ℕ
  pub devices : Devices
  -- how many bytes more the console has room for
  pub spare : ℕ
  -- the last access to RAM that was noted
  pub last : Option Access

-- one more, or the last value of a count of 64 bits
abbrev pub counted_up : ℕ → ℕ
counted_up n = min (n + 1) last_count

-- one read of RAM more
abbrev pub with_read : BusState → BusState
with_read bus = record bus { reads = counted_up bus.reads }

abbrev pub no_counts : Counts
no_counts = record { hits = 0; misses = 0 }

-- the counts of a core
abbrev pub counts_of : List Counts → ℕ → Counts
counts_of counts core = slice_index_or counts core no_counts

abbrev pub with_hit : Counts → Counts
with_hit counts = record counts { hits = counted_up counts.hits }

abbrev pub with_miss : Counts → Counts
with_miss counts = record counts { misses = counted_up counts.misses }
