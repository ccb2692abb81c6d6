-- Worked examples: the definitions give these values by computation.
use Rattle.std.specs.Prelude.{◌≡◌, ℕ, true, false, List, [], ◌∷◌, refl, Some, None, Ok, Err}
use Rattle.or_parts.specs.Timer.{ticked, mode_written, TickTimer}
use Rattle.or_parts.specs.Interrupts.{status_sampled, status_written}
use Rattle.or_parts.specs.Uart.{UartState, reset_uart, uart_value, uart_after_read, uart_written, uart_line}
use Rattle.or_parts.specs.Ompic.{ompic_value, ompic_written, is_ompic_pending}
use Rattle.or_words.specs.declared.Width.TheVariants.{Byte, Half, Word}
use Rattle.or_parts.specs.declared.memory_map.Device.TheVariants.{Uart, Ompic}
use Rattle.or_parts.specs.MemoryMap.{register_at}
use Rattle.or_parts.specs.Devices.{Devices, reset_devices, interrupt_lines}
use Rattle.or_parts.specs.Exceptions.{entry_status, saved_pc}
use Rattle.or_parts.specs.declared.Cause.TheVariants.{Illegal, Syscall}
use Rattle.or_parts.specs.Translation.{translation, no_pairs, match_written, translate_written}
use Rattle.or_parts.specs.declared.Right.TheVariants.{Load, Store}
use Rattle.or_parts.specs.declared.TlbFault.TheVariants.{Miss, PageFault}

-- the tick timer in mode 1 with IE and a period of 3
pub three_ticks : TickTimer
three_ticks = let one = ticked 0x60000003 0 in let two = ticked one.mode one.count in ticked two.mode two.count

pub period_is_told : (three_ticks.mode ≡ 0x70000003) × (three_ticks.count ≡ 0)
unfolding three_ticks ticked
period_is_told = (refl, refl)

pub pending_is_cleared : mode_written 0x70000003 0x60000003 ≡ 0x60000003
pending_is_cleared = refl

pub pending_is_not_set : mode_written 0x60000003 0x70000003 ≡ 0x60000003
pending_is_not_set = refl

-- the PIC that latches, and the one that shows levels
pub latched_lines : (status_sampled true (status_sampled true 0 2) 0 ≡ 2) × (status_written true 2 2 ≡ 0) × (status_written true (status_sampled true 0 6) 2 ≡ 4)
latched_lines = (refl, refl, refl)

pub level_lines : status_sampled false (status_sampled false 0 2) 0 ≡ 0
level_lines = refl

-- the UART with the letter A as its input
pub letter : UartState
letter = reset_uart (0x41 ∷ [])

pub read_letter : UartState
read_letter = uart_after_read letter 0

pub letter_is_read : (uart_value letter 5 ≡ 0x61) × (uart_value letter 0 ≡ 0x41) × (uart_value read_letter 5 ≡ 0x60) × (uart_value read_letter 0 ≡ 0)
unfolding letter read_letter reset_uart uart_value uart_after_read
letter_is_read = (refl, refl, refl, refl)

pub data_is_identified : (uart_value (uart_written letter 1 0x01) 2 ≡ 0x04) × (uart_value (uart_written (uart_written letter 1 0x01) 2 0x01) 2 ≡ 0xC4)
unfolding letter reset_uart uart_value uart_written
data_is_identified = (refl, refl)

pub no_input : UartState
no_input = uart_written (reset_uart []) 1 0x02

pub transmitter_is_identified_once : (uart_value no_input 2 ≡ 0x02) × (uart_value (uart_after_read no_input 2) 2 ≡ 0x01) × (uart_line no_input ≡ true)
unfolding no_input reset_uart uart_value uart_after_read uart_written uart_line
transmitter_is_identified_once = (refl, refl, refl)

pub loopback_shows_modem_lines : uart_value (uart_written (reset_uart []) 4 0x1A) 6 ≡ 0x90
unfolding reset_uart uart_value uart_written
loopback_shows_modem_lines = refl

-- core 0 of two cores interrupts core 1, which acknowledges
pub sent : List ℕ
sent = ompic_written (0 ∷ 0 ∷ []) 0 0x40010007

pub interrupt_is_sent : (ompic_value sent 12 ≡ 0x40000007) × (is_ompic_pending sent 1 ≡ true) × (ompic_value (ompic_written sent 8 0x80000000) 12 ≡ 0) × (ompic_written (0 ∷ 0 ∷ []) 0 0x40070000 ≡ 0 ∷ 0 ∷ [])
unfolding sent ompic_written ompic_value
interrupt_is_sent = (refl, refl, refl, refl)

-- the UART answers bytes at 90000000 to 90000007, and the ompic words at 98000000, 8 bytes for each core
pub registers_are_found : (register_at 2 0x90000000 Byte ≡ Some (Uart, 0)) × (register_at 2 0x90000007 Byte ≡ Some (Uart, 7)) × (register_at 2 0x90000008 Byte ≡ None) × (register_at 2 0x90000004 Word ≡ None)
    × (register_at 2 0x98000000 Word ≡ Some (Ompic, 0)) × (register_at 2 0x9800000C Word ≡ Some (Ompic, 12)) × (register_at 1 0x98000008 Word ≡ None) × (register_at 2 0x98000000 Half ≡ None) × (register_at 8 0x8FFFFFFF Byte ≡ None)
unfolding register_at
registers_are_found = (refl, refl, refl, refl, refl, refl, refl, refl, refl)

-- the ompic raises line 1 at core 1 alone, and the UART line 2 at each core
pub raised : Devices
raised = record { uart = record (reset_uart (0x41 ∷ [])) { ier = 1 }; ompic = sent }

pub lines_are_raised : (interrupt_lines (reset_devices 2 []) 0 ≡ 0) × (interrupt_lines raised 0 ≡ 4) × (interrupt_lines raised 1 ≡ 6)
unfolding raised sent interrupt_lines reset_devices reset_uart uart_line ompic_written
lines_are_raised = (refl, refl, refl)

-- an illegal word in the slot of a jump at 00000100, and a system call in such a slot
pub slot_is_told : (saved_pc Illegal 0x104 (Some 0x100) ≡ 0x100) × (entry_status 0x8001 (Some 0x100) ≡ 0xA001) × (saved_pc Syscall 0x104 (Some 0x200) ≡ 0x200)
slot_is_told = (refl, refl, refl)

-- an empty table misses; a page that supervisors may read and write leads to itself
pub page : List (ℕ × ℕ)
page = translate_written false (match_written no_pairs 2 0x4001) 2 0x4300

pub page_is_found : (translation no_pairs 0x4000 Store true ≡ Err Miss) × (translation page 0x4000 Store true ≡ Ok (record { pa = 0x4000; inhibited = false })) × (translation page 0x4000 Load false ≡ Err PageFault)
unfolding page translation
page_is_found = (refl, refl, refl)
