-- What contracts see of a UART.
use Rattle.std.specs.Prelude.{ℕ}
use Rattle.or_parts.specs.Uart.{UartState}

-- the state, and how many bytes more can be sent without memory
pub record UartView : Type 0 where
  pub state : UartState
  pub spare : ℕ
