-- What is true of a bus between any two calls: each valid line of a data cache equals RAM.
use Rattle.std.specs.Prelude.{◌≡◌, ℕ, ◌+◌, ◌%◌, ◌<◌, ◌≤◌, List, Option, Some, length, slice_range}
use Rattle.or_parts.specs.declared.Line.{Line}
use Rattle.or_parts.specs.Lines.{index_of, line_at_index}
use Rattle.or_parts.specs.Devices.{Devices, served_cores}
use Rattle.or_model.specs.declared.Counts.{Counts}
use Rattle.or_mem.specs.Caches.{cache_of}
use Rattle.or_bus.specs.State.{BusState}

-- a line at an index of a cache, which has the bytes of RAM
pub record IsLineOf (ram : List ℕ) (index : ℕ) (line : Line) : Type 0 where
  pub aligned : line.address % 32 ≡ 0
  pub indexed : index_of line.address ≡ index
  pub inside : line.address + 32 ≤ length ram
  pub same : line.bytes ≡ slice_range ram line.address (line.address + 32)

-- each line that a cache holds has the bytes of RAM
abbrev pub IsCoherent : List ℕ → List (Option Line) → Type 0
IsCoherent ram lines = (index : ℕ) (line : Line) → index < 128 → line_at_index lines index ≡ Some line → IsLineOf ram index line

-- so does each cache; there is a cache for each core, the devices serve each core, and there is a slot and counts for each of eight
pub record AreSound (cores : ℕ) (ram : List ℕ) (caches : List (List (Option Line))) (slots : List (Option ℕ)) (counts : List Counts) (devices : Devices) : Type 0 where
  pub few : cores ≤ 8
  pub all_caches : length caches ≡ cores
  pub all_slots : length slots ≡ 8
  pub all_counts : length counts ≡ 8
  pub all_served : served_cores devices ≡ cores
  pub all_lines : (c : ℕ) → c < cores → length (cache_of caches c) ≡ 128
  pub coherent : (c : ℕ) → c < cores → IsCoherent ram (cache_of caches c)

abbrev pub IsSound : BusState → Type 0
IsSound bus = AreSound bus.cores bus.ram bus.caches bus.slots bus.counts bus.devices
