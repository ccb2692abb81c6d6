-- The tick timer (OpenRISC 1000 Architecture Manual, chapter 14): it counts retired instructions.
use Rattle.std.specs.Prelude.{ℕ, ◌/◌, ◌%◌, Bool, ◌==◌, ◌&&◌, if◌then◌else◌, bit_and, bit_or}
use Rattle.or_parts.specs.Bits.{has, plus}

-- TTMR and TTCR
pub record TickTimer : Type 0 where
  pub mode : ℕ
  pub count : ℕ

-- the low 28 bits of the count are the period's
abbrev pub is_at_period : ℕ → ℕ → Bool
is_at_period mode count = count % 0x10000000 == mode % 0x10000000

-- a count one higher: at the period IP is set if IE is, and mode 1 starts again
abbrev pub counted_to : ℕ → ℕ → TickTimer
counted_to mode count =
    if is_at_period mode count then
    record {
      mode = (if has mode 0x20000000 then bit_or mode 0x10000000 else mode);
      count = (if mode / 0x40000000 == 1 then 0 else count);
    }
    else record { mode = mode; count = count }

-- the timer after an instruction has retired: mode 0 does not count, and mode 2 stops at the period
unfoldable pub ticked : ℕ → ℕ → TickTimer
ticked mode count =
    if mode / 0x40000000 == 0 then record { mode = mode; count = count } else
    if (mode / 0x40000000 == 2) && is_at_period mode count then record { mode = mode; count = count } else
    counted_to mode (plus count 1)

-- TTMR after v is written: IP can be cleared by a write, and not set
abbrev pub mode_written : ℕ → ℕ → ℕ
mode_written old v = bit_or (bit_and v 0xEFFFFFFF) (bit_and (bit_and old v) 0x10000000)

-- an interrupt is pending: IP and IE are set
abbrev pub is_tick_pending : ℕ → Bool
is_tick_pending mode = has mode 0x10000000 && has mode 0x20000000
