-- The programmable interrupt controller (OpenRISC 1000 Architecture Manual, chapter 13).
use Rattle.std.specs.Prelude.{ℕ, ◌-◌, Bool, true, false, bit_and, bit_or}
use Rattle.or_parts.specs.Bits.{has}

-- PICMR, PICSR, and whether the status latches its lines
pub record PicState : Type 0 where
  pub mask : ℕ
  pub status : ℕ
  pub latched : Bool

-- PICSR after the lines are sampled: their levels, or what was latched and them
abbrev pub status_sampled : Bool → ℕ → ℕ → ℕ
status_sampled false status lines = lines
status_sampled true status lines = bit_or status lines

-- PICSR after v is written: in the latched form its one bits are cleared
abbrev pub status_written : Bool → ℕ → ℕ → ℕ
status_written false status v = status
status_written true status v = bit_and status (0xFFFFFFFF - v)

-- an interrupt is pending: a line is unmasked and in the status
abbrev pub is_pic_pending : ℕ → ℕ → Bool
is_pic_pending mask status = has mask status
