-- The bus against the world: what it holds is what has happened.
use Rattle.std.specs.Prelude.{◌≡◌, ℕ, ◌%◌, ◌<◌, min, length}
use Rattle.or_model.specs.World.{World, IsValid, stands}
use Rattle.or_model.specs.Caches.{held, hits, misses}
use Rattle.or_mem.specs.Memory.{last_count}
use Rattle.or_mem.specs.Caches.{cache_of}
use Rattle.or_reservations.specs.Slots.{is_reserved}
use Rattle.or_bus.specs.State.{BusState, counts_of}
use Rattle.or_bus.specs.Lines.{holds}
use Rattle.or_bus.specs.Coherence.{IsCoherent}

-- the bus is in the state that the world says
pub record Represents (bus : BusState) (world : World) : Type 0 where
  pub ram : bus.ram ≡ world.ram
  pub devices : bus.devices ≡ world.devices
  pub valid : IsValid world bus.cores
  pub writes : bus.writes ≡ min (length world.writes) last_count
  -- a core holds the lines that `held` names
  pub lines : (c line : ℕ) → c < bus.cores → line % 32 ≡ 0 → holds (cache_of bus.caches c) line ≡ held world.accesses c line
  -- each of them stands at its index, with the bytes of RAM
  pub coherent : (c : ℕ) → c < bus.cores → IsCoherent bus.ram (cache_of bus.caches c)
  -- a slot stands for the words that `stands` names
  pub reserved : (c word : ℕ) → c < bus.cores → is_reserved bus.slots c word ≡ stands world c word
  -- the counts are `hits` and `misses`, cut at the last value of 64 bits
  pub counted : (c : ℕ) → c < bus.cores → counts_of bus.counts c ≡ record { hits = min (hits world.accesses c) last_count; misses = min (misses world.accesses c) last_count }
