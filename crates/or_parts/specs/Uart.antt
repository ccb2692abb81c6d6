-- The UART, after the 16550 data sheet. Its baud rate, break and error bits are left out: a byte is sent at once.
use Rattle.std.specs.Prelude.{ℕ, ◌+◌, ◌%◌, Bool, true, false, not, ◌==◌, ◌&&◌, ◌||◌, if◌then◌else◌, List, [], ◌∷◌, ◌++◌}
use Rattle.or_parts.specs.Bits.{has}

-- the input that is left, what was sent, the registers, the FIFO bit, and whether the transmitter has an interrupt to tell
pub record UartState : Type 0 where
  pub input : List ℕ
  pub console : List ℕ
  pub ier : ℕ
  pub lcr : ℕ
  pub mcr : ℕ
  pub scr : ℕ
  pub dll : ℕ
  pub dlm : ℕ
  pub fifo : Bool
  pub transmitter : Bool

unfoldable pub reset_uart : List ℕ → UartState
reset_uart input = record {
  input = input;
  console = [];
  ier = 0;
  lcr = 0;
  mcr = 0;
  scr = 0;
  dll = 0;
  dlm = 0;
  fifo = false;
  transmitter = false;
}

abbrev pub has_input : List ℕ → Bool
has_input [] = false
has_input (byte ∷ input) = true

abbrev pub next_input : List ℕ → ℕ
next_input [] = 0
next_input (byte ∷ input) = byte

abbrev pub after_input : List ℕ → List ℕ
after_input [] = []
after_input (byte ∷ input) = input

-- LCR bit 7 puts the divisor's bytes in place of registers 0 and 1
abbrev pub has_divisor : UartState → Bool
has_divisor uart = has uart.lcr 0x80

-- MCR bit 4 turns what is sent back
abbrev pub is_loopback : UartState → Bool
is_loopback uart = has uart.mcr 0x10

-- the interrupt identification: received data first, then the transmitter, else none
abbrev pub identification : UartState → ℕ
identification uart =
    if has uart.ier 0x1 && has_input uart.input then 0x04 else
    if has uart.ier 0x2 && uart.transmitter then 0x02 else
    0x01

-- the interrupt line is high where there is something to identify
unfoldable pub uart_line : UartState → Bool
uart_line uart = not (identification uart == 0x01)

-- a bit moved to another place
abbrev pub moved_bit : ℕ → ℕ → ℕ → ℕ
moved_bit word mask to = if has word mask then to else 0

-- the modem status: in loopback it shows RTS, DTR, OUT1 and OUT2 of MCR
abbrev pub modem_status : UartState → ℕ
modem_status uart =
    if is_loopback uart then moved_bit uart.mcr 0x2 0x10 + moved_bit uart.mcr 0x1 0x20 + moved_bit uart.mcr 0x4 0x40 + moved_bit uart.mcr 0x8 0x80
    else 0xB0

-- what a register reads
unfoldable pub uart_value : UartState → ℕ → ℕ
uart_value uart reg =
    if reg == 0 then (if has_divisor uart then uart.dll else next_input uart.input) else
    if reg == 1 then (if has_divisor uart then uart.dlm else uart.ier) else
    if reg == 2 then identification uart + (if uart.fifo then 0xC0 else 0) else
    if reg == 3 then uart.lcr else
    if reg == 4 then uart.mcr else
    if reg == 5 then (if has_input uart.input then 0x61 else 0x60) else
    if reg == 6 then modem_status uart else
    uart.scr

-- what a read leaves: register 0 takes the byte, and register 2 ends the transmitter's interrupt that it tells
unfoldable pub uart_after_read : UartState → ℕ → UartState
uart_after_read uart reg =
    if reg == 0 && not (has_divisor uart) then record uart { input = after_input uart.input } else
    if reg == 2 && identification uart == 0x02 then record uart { transmitter = false } else
    uart

-- a byte is sent to the console, or is lost in loopback
abbrev pub uart_sent : UartState → ℕ → UartState
uart_sent uart v = record uart {
  console = (if is_loopback uart then uart.console else uart.console ++ v ∷ []);
  transmitter = true;
}

-- IER keeps four bits; bit 1 that rises makes the transmitter tell that it is empty
abbrev pub interrupts_enabled : UartState → ℕ → UartState
interrupts_enabled uart v = record uart { ier = v % 16; transmitter = (uart.transmitter || (has v 0x2 && not (has uart.ier 0x2))) }

-- what a write leaves
unfoldable pub uart_written : UartState → ℕ → ℕ → UartState
uart_written uart reg v =
    if reg == 0 then (if has_divisor uart then record uart { dll = v } else uart_sent uart v) else
    if reg == 1 then (if has_divisor uart then record uart { dlm = v } else interrupts_enabled uart v) else
    if reg == 2 then record uart { fifo = has v 0x1 } else
    if reg == 3 then record uart { lcr = v } else
    if reg == 4 then record uart { mcr = v % 32 } else
    if reg == 7 then record uart { scr = v } else
    uart
