-- What contracts see of the devices, and where an access of them may go.
use Rattle.std.specs.Prelude.{◌≡◌, ℕ, ◌*◌, ◌%◌, ◌^◌, ◌<◌, ◌≤◌, Option, Some, None}
use Rattle.or_parts.specs.declared.memory_map.Device.{Device}
use Rattle.or_parts.specs.declared.memory_map.Device.TheVariants.{Uart, Ompic}
use Rattle.or_parts.specs.Devices.{Devices}

-- the devices, and how many bytes more can be sent without memory
pub record DevicesView : Type 0 where
  pub state : Devices
  pub spare : ℕ

-- a device has a register at an offset, on a board with so many cores
abbrev pub HasRegister : ℕ → Device → ℕ → Type 0
HasRegister cores Uart offset = offset < 8
HasRegister cores Ompic offset = (offset % 4 ≡ 0) × (offset < 8 * cores)

-- what answers at an address is a register; the devices lie in the upper half of the addresses
abbrev pub IsRegisterAt : ℕ → ℕ → Option (Device × ℕ) → Type 0
IsRegisterAt cores pa None = Unit {0}
IsRegisterAt cores pa (Some (device, offset)) = HasRegister cores device offset × (2 ^ 31 ≤ pa)
