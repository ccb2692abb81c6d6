-- Worked examples: the definitions give these values by computation.
use Rattle.std.specs.Prelude.{◌≡◌, ℕ, ◌/◌, ◌%◌, ◌++◌, Bool, true, false, List, [], ◌∷◌, Some, None, refl, replicate, slice_set, zero, suc}
use Rattle.or_words.specs.declared.Width.TheVariants.{Word}
use Rattle.or_isa.specs.Decode.{decode_of}
use Rattle.or_isa.specs.Fields.{a_of, b_of, d_of, i_of, k_of, n_of, split_i_of, split_k_of}
use Rattle.or_parts.specs.Bits.{has}
use Rattle.or_parts.specs.Timer.{ticked}
use Rattle.or_parts.specs.Translation.{translation}
use Rattle.or_parts.specs.Special.{spr_route, own_written}
use Rattle.or_parts.specs.Uart.{reset_uart, uart_line}
use Rattle.or_parts.specs.MemoryMap.{register_at}
use Rattle.or_parts.specs.Devices.{reset_devices, interrupt_lines}
use Rattle.or_parts.specs.Lines.{held_word, line_filled}
use Rattle.or_model.specs.declared.Stop.TheVariants.{Budget}
use Rattle.or_model.specs.Turn.{begun_within, turn_begun, turn_ended, steps_alone, turn}
use Rattle.or_model.specs.Core.{Core, register, reset_core, next_instruction, branched, exception_entry, exception_return}
use Rattle.or_model.specs.World.{World, new_world, after_load, after_store, marked, unmarked, stands}
use Rattle.or_model.specs.Bus.{fetch, region_of, load, store, load_linked, store_conditional}
use Rattle.or_model.specs.Routes.{fetch_route, data_route}
use Rattle.or_model.specs.DataAccess.{State, loaded_linked, stored_value, stored_conditional}
use Rattle.or_model.specs.SpecialAccess.{special_written}
use Rattle.or_model.specs.Execute.{put_arithmetic, jumped, branched_on, put, put_with_flags, put_with_overflow, put_sum, put_quotient, destination, after_nop, executed, flag}
use Rattle.or_model.specs.Step.{with_step_counted, retired, is_misplaced, executed_on_bus, step_off_bus, step_on_bus, step_by_word, due_interrupt, step_unheld, step, is_private, private_step, empty_world}

-- a core at reset, and one with two operands in r4 and r5
reset : Core
reset = reset_core (record { cores = 1; budget = 1000; ram = 1; latched = false }) 0

with_operands : ℕ → ℕ → Core
with_operands a b = record reset { registers = slice_set (slice_set reset.registers 4 a) 5 b }

-- the core after it has executed a word that asks nothing of the bus
after_word : Core → ℕ → Core
after_word core word = (step_by_word core empty_world word).core

-- r3, CY and OV
results : Core → ℕ × Bool × Bool
results core = (register core 3, has core.sr 0x400, has core.sr 0x800)

-- l.add r3,r4,r5 above the largest signed number; with OVE set it is a range exception, and r3, CY and OV are as before
sum_overflows : results (after_word (with_operands 0x7FFFFFFF 1) 0xE0642800) ≡ (0x80000000, false, true)
unfolding results reset with_operands after_word decode_of a_of b_of d_of i_of k_of n_of split_i_of split_k_of reset_core step_by_word step_off_bus step_on_bus is_misplaced executed put_arithmetic jumped branched_on executed_on_bus put_sum put_quotient put_with_flags put_with_overflow put next_instruction branched destination retired ticked with_step_counted exception_entry exception_return spr_route special_written
sum_overflows = refl

overflowing : Core
overflowing = after_word (record (with_operands 0x7FFFFFFF 1) { sr = 0x9001 }) 0xE0642800

overflow_is_told : (overflowing.pc ≡ 0xB00) × (register overflowing 3 ≡ 0) × (overflowing.esr ≡ 0x9001) × (overflowing.sr ≡ 0x8001) × (overflowing.epcr ≡ 0x100)
unfolding overflowing results reset with_operands after_word decode_of a_of b_of d_of i_of k_of n_of split_i_of split_k_of reset_core step_by_word step_off_bus step_on_bus is_misplaced executed put_arithmetic jumped branched_on executed_on_bus put_sum put_quotient put_with_flags put_with_overflow put next_instruction branched destination retired ticked with_step_counted exception_entry exception_return spr_route special_written
overflow_is_told = (refl, refl, refl, refl, refl)

-- l.addc r3,r4,r5 with CY set
sum_with_carry : results (after_word (record (with_operands 0xFFFFFFFF 0) { sr = 0x8401 }) 0xE0642801) ≡ (0, true, false)
unfolding results reset with_operands after_word decode_of a_of b_of d_of i_of k_of n_of split_i_of split_k_of reset_core step_by_word step_off_bus step_on_bus is_misplaced executed put_arithmetic jumped branched_on executed_on_bus put_sum put_quotient put_with_flags put_with_overflow put next_instruction branched destination retired ticked with_step_counted exception_entry exception_return spr_route special_written
sum_with_carry = refl

-- l.div r3,r4,r5 by zero, and of the least number by -1
quotient_by_zero : (a : ℕ) → results (after_word (with_operands a 0) 0xE0642B09) ≡ (0, false, true)
unfolding results reset with_operands after_word decode_of a_of b_of d_of i_of k_of n_of split_i_of split_k_of reset_core step_by_word step_off_bus step_on_bus is_misplaced executed put_arithmetic jumped branched_on executed_on_bus put_sum put_quotient put_with_flags put_with_overflow put next_instruction branched destination retired ticked with_step_counted exception_entry exception_return spr_route special_written
quotient_by_zero a = refl

quotient_overflows : results (after_word (with_operands 0x80000000 0xFFFFFFFF) 0xE0642B09) ≡ (0x80000000, false, true)
unfolding results reset with_operands after_word decode_of a_of b_of d_of i_of k_of n_of split_i_of split_k_of reset_core step_by_word step_off_bus step_on_bus is_misplaced executed put_arithmetic jumped branched_on executed_on_bus put_sum put_quotient put_with_flags put_with_overflow put next_instruction branched destination retired ticked with_step_counted exception_entry exception_return spr_route special_written
quotient_overflows = refl

-- pc, EPCR0, EEAR0, ESR0 and SR
place : Core → ℕ × ℕ × ℕ × ℕ × ℕ
place core = (core.pc, core.epcr, core.eear, core.esr, core.sr)

-- a system call in the delay slot of l.j 0x200 goes on at the jump's destination
call_in_slot : place (after_word (after_word reset 0x00000040) 0x20000000) ≡ (0xC00, 0x200, 0, 0x8001, 0xA001)
unfolding place results reset with_operands after_word decode_of a_of b_of d_of i_of k_of n_of split_i_of split_k_of reset_core step_by_word step_off_bus step_on_bus is_misplaced executed put_arithmetic jumped branched_on executed_on_bus put_sum put_quotient put_with_flags put_with_overflow put next_instruction branched destination retired ticked with_step_counted exception_entry exception_return spr_route special_written
call_in_slot = refl

-- a store in the delay slot of l.j 0x200 at 00000180 misses its page
store_in_slot : Core
store_in_slot = record reset { pc = 0x184; branch = Some 0x200; sr = 0x8021; registers = slice_set reset.registers 2 0x4000 }

slot_misses : place (after_word store_in_slot 0xD4022000) ≡ (0x900, 0x180, 0x4000, 0x8021, 0xA001)
unfolding store_in_slot place translation results reset with_operands after_word decode_of a_of b_of d_of i_of k_of n_of split_i_of split_k_of reset_core step_by_word step_off_bus step_on_bus is_misplaced executed put_arithmetic jumped branched_on executed_on_bus put_sum put_quotient put_with_flags put_with_overflow put next_instruction branched destination retired ticked with_step_counted exception_entry exception_return spr_route special_written new_world fetch load region_of register_at reset_devices load_linked store_conditional after_load after_store marked unmarked stands data_route loaded_linked stored_conditional stored_value store
slot_misses = refl

-- the tick timer counts the l.mtspr that starts it, and two instructions more; then its interrupt is taken
started : Core
started = after_word (record (with_operands 0x60000003 0) { pc = 0x200; sr = 0x8003 }) 0xC1402000

waited : Core
waited = after_word (after_word started 0x15000000) 0x15000000

interrupted : Core
interrupted = (step waited empty_world).core

tick_interrupts : (interrupted.pc ≡ 0x500) × (interrupted.epcr ≡ 0x20C) × (interrupted.ttcr ≡ 0) × (interrupted.ttmr ≡ 0x70000003)
unfolding started waited interrupted step due_interrupt after_nop results reset with_operands after_word decode_of a_of b_of d_of i_of k_of n_of split_i_of split_k_of reset_core step_by_word step_off_bus step_on_bus is_misplaced executed put_arithmetic jumped branched_on executed_on_bus put_sum put_quotient put_with_flags put_with_overflow put next_instruction branched destination retired ticked with_step_counted exception_entry exception_return spr_route special_written
tick_interrupts = (refl, refl, refl, refl)

-- l.lwa r4,0(r3) and l.swa 0(r3),r4 with nothing, a system call and its return, or a store by another core between them
pair_of_cores : World
pair_of_cores = new_world (replicate 16 0) 2 []

linked : State
linked = step_by_word reset pair_of_cores 0x6C830000

called : State
called = step_by_word linked.core linked.world 0x20000000

returned : State
returned = step_by_word called.core called.world 0x24000000

succeeds : State → Bool
succeeds state = flag (step_by_word state.core state.world 0xCC032000).core

conditional_store : (succeeds linked ≡ true) × (succeeds returned ≡ false) × (succeeds (record { core = linked.core; world = after_store linked.world 1 0 Word 0 false }) ≡ false)
unfolding pair_of_cores linked called returned succeeds results reset with_operands after_word decode_of a_of b_of d_of i_of k_of n_of split_i_of split_k_of reset_core step_by_word step_off_bus step_on_bus is_misplaced executed put_arithmetic jumped branched_on executed_on_bus put_sum put_quotient put_with_flags put_with_overflow put next_instruction branched destination retired ticked with_step_counted exception_entry exception_return spr_route special_written new_world fetch load region_of register_at reset_devices load_linked store_conditional after_load after_store marked unmarked stands data_route loaded_linked stored_conditional stored_value store
conditional_store = (refl, refl, refl)

-- a jump in a delay slot, in a board of zeros: l.j 0 at 00000100 and in its slot, and then at the handler
zeros : World
zeros = new_world (replicate 0x708 0) 1 []

steps_from : ℕ → State → State
steps_from zero state = state
steps_from (suc count) state = steps_from count (step state.core state.world)

few_steps : State
few_steps = record { core = reset_core (record { cores = 1; budget = 4; ram = 1; latched = false }) 0; world = zeros }

jump_in_slot : place (steps_from 2 few_steps).core ≡ (0x700, 0x100, 0, 0x8001, 0xA001)
unfolding zeros few_steps steps_from step due_interrupt step_unheld fetch_route place results reset with_operands after_word decode_of a_of b_of d_of i_of k_of n_of split_i_of split_k_of reset_core step_by_word step_off_bus step_on_bus is_misplaced executed put_arithmetic jumped branched_on executed_on_bus put_sum put_quotient put_with_flags put_with_overflow put next_instruction branched destination retired ticked with_step_counted exception_entry exception_return spr_route special_written new_world fetch load region_of register_at reset_devices load_linked store_conditional after_load after_store marked unmarked stands data_route loaded_linked stored_conditional stored_value store
jump_in_slot = refl

jump_in_handler_slot : (place (steps_from 4 few_steps).core ≡ (0x700, 0x700, 0, 0xA001, 0xA001)) × ((steps_from 4 few_steps).core.stop ≡ Some Budget)
unfolding zeros few_steps steps_from step due_interrupt step_unheld fetch_route place results reset with_operands after_word decode_of a_of b_of d_of i_of k_of n_of split_i_of split_k_of reset_core step_by_word step_off_bus step_on_bus is_misplaced executed put_arithmetic jumped branched_on executed_on_bus put_sum put_quotient put_with_flags put_with_overflow put next_instruction branched destination retired ticked with_step_counted exception_entry exception_return spr_route special_written new_world fetch load region_of register_at reset_devices load_linked store_conditional after_load after_store marked unmarked stands data_route loaded_linked stored_conditional stored_value store
jump_in_handler_slot = (refl, refl)

-- a loop of l.j and l.nop in a held line: 256 private steps in one turn, and no step on the bus
word_bytes : ℕ → List ℕ
word_bytes word = word / 0x1000000 ∷ word / 0x10000 % 256 ∷ word / 0x100 % 256 ∷ word % 256 ∷ []

looping : Core
looping = record reset { sr = 0x8011; lines = slice_set reset.lines 8 (Some (record { address = 0x100; bytes = word_bytes 0x00000000 ++ word_bytes 0x15000000 ++ replicate 24 0 })) }

private_loop : ((turn_begun looping).core.steps ≡ 256) × ((turn_begun looping).core.pc ≡ 0x100) × ((turn_begun looping).follows ≡ false)
unfolding word_bytes looping turn_begun begun_within steps_alone is_private private_step held_word after_nop step due_interrupt step_unheld fetch_route place results reset with_operands after_word decode_of a_of b_of d_of i_of k_of n_of split_i_of split_k_of reset_core step_by_word step_off_bus step_on_bus is_misplaced executed put_arithmetic jumped branched_on executed_on_bus put_sum put_quotient put_with_flags put_with_overflow put next_instruction branched destination retired ticked with_step_counted exception_entry exception_return spr_route special_written new_world fetch load region_of register_at reset_devices load_linked store_conditional after_load after_store marked unmarked stands data_route loaded_linked stored_conditional stored_value store
private_loop = (refl, refl, refl)

-- a core that turns its instruction cache on by l.mtspr and then loops, with 300 steps to make: the fifth turn makes 256 of them
loop_program : List ℕ
loop_program = replicate 0x100 0 ++ word_bytes 0xA8608011 ++ word_bytes 0xC0001811 ++ word_bytes 0x00000000 ++ word_bytes 0x15000000 ++ replicate 16 0

turns_from : ℕ → State → State
turns_from zero state = state
turns_from (suc count) state = turns_from count (turn state.core state.world)

some_steps : State
some_steps = record { core = reset_core (record { cores = 1; budget = 300; ram = 1; latched = false }) 0; world = new_world loop_program 1 [] }

budget_ends : ((turns_from 4 some_steps).core.stop ≡ None) × ((turns_from 5 some_steps).core.stop ≡ Some Budget) × ((turns_from 5 some_steps).core.steps ≡ 300) × ((turns_from 5 some_steps).core.pc ≡ 0x108) × ((turns_from 5 some_steps).core.branch ≡ None) × ((turns_from 5 some_steps).core.sr ≡ 0x8011)
unfolding word_bytes loop_program turns_from some_steps turn turn_begun turn_ended begun_within steps_alone is_private private_step held_word line_filled after_nop own_written interrupt_lines uart_line reset_uart step due_interrupt step_unheld fetch_route fetch place results reset with_operands after_word decode_of a_of b_of d_of i_of k_of n_of split_i_of split_k_of reset_core step_by_word step_off_bus step_on_bus is_misplaced executed put_arithmetic jumped branched_on executed_on_bus put_sum put_quotient put_with_flags put_with_overflow put next_instruction branched destination retired ticked with_step_counted exception_entry exception_return spr_route special_written new_world load region_of register_at reset_devices load_linked store_conditional after_load after_store marked unmarked stands data_route loaded_linked stored_conditional stored_value store
budget_ends = (refl, refl, refl, refl, refl, refl)
