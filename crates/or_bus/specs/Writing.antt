-- How a store to RAM changes a bus.
use Rattle.std.specs.Prelude.{◌≡◌, ◌≢◌, ℕ, ◌<◌, Bool, true, false, List, Option, length, map}
use Rattle.or_words.specs.declared.Width.{Width}
use Rattle.or_parts.specs.declared.Line.{Line}
use Rattle.or_parts.specs.Memory.{stored, word_address}
use Rattle.or_parts.specs.Lines.{line_dropped}
use Rattle.or_mem.specs.Caches.{cache_of, line_updated}
use Rattle.or_reservations.specs.Slots.{after_write}
use Rattle.or_bus.specs.State.{BusState, counted_up}

-- the storing core's lines: a cached store updates the line, and another drops it
abbrev pub own_lines_after : List (Option Line) → ℕ → Width → ℕ → Bool → List (Option Line)
own_lines_after lines pa width v true = line_updated lines pa width v
own_lines_after lines pa width v false = line_dropped lines pa

-- the caches after a store by core d: no other core keeps the line
pub record AreWritten (old : List (List (Option Line))) (d pa v : ℕ) (width : Width) (cached : Bool) (new : List (List (Option Line))) : Type 0 where
  pub own : cache_of new d ≡ own_lines_after (cache_of old d) pa width v cached
  pub others : (c : ℕ) → c < length old → c ≢ d → cache_of new c ≡ line_dropped (cache_of old c) pa
  pub same_length : length new ≡ length old

-- the bus after a store by core d: each reservation of the word has ended
pub record IsWritten (old : BusState) (d pa v : ℕ) (width : Width) (cached : Bool) (new : BusState) : Type 0 where
  pub ram_after : new.ram ≡ stored old.ram pa width v
  pub caches_after : AreWritten old.caches d pa v width cached new.caches
  pub slots_after : new.slots ≡ map (after_write (word_address pa)) old.slots
  pub writes_after : new.writes ≡ counted_up old.writes
  pub same_cores : new.cores ≡ old.cores
  pub same_reads : new.reads ≡ old.reads
  pub same_counts : new.counts ≡ old.counts
  pub same_devices : new.devices ≡ old.devices
  pub same_spare : new.spare ≡ old.spare
  pub same_last : new.last ≡ old.last
