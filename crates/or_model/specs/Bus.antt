-- What the board answers to an access, and the world after it. Where nothing answers, the access is a bus error.
use Rattle.std.specs.Prelude.{ℕ, Bool, true, false, ◌&&◌, nat_lt, if◌then◌else◌, Option, Some, None, length}
use Rattle.or_words.specs.declared.Width.{Width}
use Rattle.or_words.specs.declared.Width.TheVariants.{Word}
use Rattle.or_parts.specs.Memory.{value_at}
use Rattle.or_parts.specs.Lines.{line_bytes}
use Rattle.or_parts.specs.declared.memory_map.Device.{Device}
use Rattle.or_parts.specs.MemoryMap.{register_at}
use Rattle.or_parts.specs.Devices.{device_value, device_after_read, device_written, served_cores}
use Rattle.or_model.specs.declared.Fetched.{Fetched}
use Rattle.or_model.specs.declared.Region.{Region}
use Rattle.or_model.specs.declared.Region.TheVariants.{Ram, Register, Nothing}
use Rattle.or_model.specs.World.{World, after_load, after_store, marked, unmarked, stands}

-- what the bus answers, and the world after it
pub record Answer (A : Type 0) : Type 0 where
  pub value : A
  pub after : World

-- an offset in a device answers, or nothing
abbrev pub region_by : Option (Device × ℕ) → Region
region_by None = Nothing
region_by (Some (device, offset)) = Register device offset

-- what answers an access of this width on a board with so many bytes of RAM and so many cores
unfoldable pub region_of : ℕ → ℕ → ℕ → Width → Region
region_of size cores pa width = if nat_lt pa size then Ram else region_by (register_at cores pa width)

abbrev pub region : World → ℕ → Width → Region
region world pa width = region_of (length world.ram) (served_cores world.devices) pa width

-- whether an address lies in RAM
abbrev pub in_ram : World → ℕ → Bool
in_ram world pa = nat_lt pa (length world.ram)

-- an instruction, with its line where the fetch is cached: only RAM answers
unfoldable pub fetch : World → ℕ → Bool → Option (Answer Fetched)
fetch world pa cached =
    if in_ram world pa
    then Some (record { value = record { word = value_at world.ram pa Word; line = (if cached then Some (line_bytes world.ram pa) else None) }; after = world })
    else None

abbrev pub load_from : World → ℕ → ℕ → Width → Bool → Region → Option (Answer ℕ)
load_from world c pa width cached Ram = Some (record { value = value_at world.ram pa width; after = after_load world c pa cached })
load_from world c pa width cached (Register device offset) = Some (record { value = device_value world.devices device offset; after = record world { devices = device_after_read world.devices device offset } })
load_from world c pa width cached Nothing = None

-- core c loads; the value is not extended
unfoldable pub load : World → ℕ → ℕ → Width → Bool → Option (Answer ℕ)
load world c pa width cached = load_from world c pa width cached (region world pa width)

abbrev pub store_to : World → ℕ → ℕ → Width → ℕ → Bool → Region → Option World
store_to world c pa width v cached Ram = Some (after_store world c pa width v cached)
store_to world c pa width v cached (Register device offset) = Some (record world { devices = device_written world.devices device offset v })
store_to world c pa width v cached Nothing = None

-- core c stores the low bits of a word
unfoldable pub store : World → ℕ → ℕ → Width → ℕ → Bool → Option World
store world c pa width v cached = store_to world c pa width v cached (region world pa width)

-- core c loads a word and reserves it: only RAM answers
unfoldable pub load_linked : World → ℕ → ℕ → Bool → Option (Answer ℕ)
load_linked world c pa cached =
    if in_ram world pa then Some (record { value = value_at world.ram pa Word; after = marked (after_load world c pa cached) c pa })
    else None

abbrev pub after_conditional : World → ℕ → ℕ → ℕ → Bool → Bool → World
after_conditional world c pa v cached true = unmarked (after_store world c pa Word v cached) c
after_conditional world c pa v cached false = unmarked world c

-- core c stores a word where it is linked and its reservation stands, and gives the reservation up: only RAM answers
unfoldable pub store_conditional : World → ℕ → ℕ → ℕ → Bool → Bool → Option (Answer Bool)
store_conditional world c pa v cached linked =
    if in_ram world pa then
    (let succeeds = linked && stands world c pa in
    Some (record { value = succeeds; after = after_conditional world c pa v cached succeeds }))
    else None
