-- The devices of the board, as one part: what their registers read and do, and the interrupt lines that they raise.
use Rattle.std.specs.Prelude.{ℕ, ◌+◌, ◌%◌, ◌^◌, Bool, if◌then◌else◌, List, [], ◌∷◌, length, replicate}
use Rattle.or_parts.specs.declared.memory_map.Device.{Device}
use Rattle.or_parts.specs.declared.memory_map.Device.TheVariants.{Uart, Ompic}
use Rattle.or_parts.specs.declared.memory_map.Mapping.{Mapping}
use Rattle.or_parts.specs.declared.memory_map.TheConstants.{MEMORY_MAP}
use Rattle.or_parts.specs.Uart.{UartState, reset_uart, uart_value, uart_after_read, uart_written, uart_line}
use Rattle.or_parts.specs.Ompic.{ompic_value, ompic_written, is_ompic_pending}

pub record Devices : Type 0 where
  pub uart : UartState
  -- a status for each core
  pub ompic : List ℕ

-- the devices of a board with so many cores, with the input left whole
unfoldable pub reset_devices : ℕ → List ℕ → Devices
reset_devices cores input = record { uart = reset_uart input; ompic = replicate cores 0 }

-- what was sent to the console
abbrev pub console_of : Devices → List ℕ
console_of devices = devices.uart.console

-- how many cores the devices serve
abbrev pub served_cores : Devices → ℕ
served_cores devices = length devices.ompic

-- what an offset in a device reads
unfoldable pub device_value : Devices → Device → ℕ → ℕ
device_value devices Uart offset = uart_value devices.uart offset
device_value devices Ompic offset = ompic_value devices.ompic offset

-- what a read leaves
unfoldable pub device_after_read : Devices → Device → ℕ → Devices
device_after_read devices Uart offset = record devices { uart = uart_after_read devices.uart offset }
device_after_read devices Ompic offset = devices

-- what a write of a word leaves; the UART takes its low byte
unfoldable pub device_written : Devices → Device → ℕ → ℕ → Devices
device_written devices Uart offset v = record devices { uart = uart_written devices.uart offset (v % 256) }
device_written devices Ompic offset v = record devices { ompic = ompic_written devices.ompic offset v }

-- whether a device raises its interrupt line at core c
abbrev pub is_raised : Devices → ℕ → Device → Bool
is_raised devices c Uart = uart_line devices.uart
is_raised devices c Ompic = is_ompic_pending devices.ompic c

abbrev pub lines_raised : List Mapping → Devices → ℕ → ℕ
lines_raised [] devices c = 0
lines_raised (row ∷ rows) devices c = (if is_raised devices c row.device then 2 ^ row.line else 0) + lines_raised rows devices c

-- the interrupt lines of core c, each at its bit
unfoldable pub interrupt_lines : Devices → ℕ → ℕ
interrupt_lines devices c = lines_raised MEMORY_MAP devices c
