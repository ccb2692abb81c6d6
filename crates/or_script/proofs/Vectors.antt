-- Worked lines of a script.
use Rattle.std.proofs.Common.{◌≡◌, refl, false, Ok, Err, Some, None}
use Rattle.std.specs.Prelude.{codes}
use Rattle.or_text.specs.Numerals.{value_of}
use Rattle.or_words.specs.declared.Config.{Config}
use Rattle.or_script.specs.declared.command.Command.TheVariants.{Nothing, Turn, Break, Stores, Memory}
use Rattle.or_script.specs.declared.command.LineFault.TheVariants.{BadCommand, OutOfRange}
use Rattle.or_script.specs.Command.{command_of}
use Rattle.or_script.specs.Script.{script_of, command_at}

-- two cores and 1 MiB
abbrev board : Config
board = record { cores = 2; budget = 100; ram = 1; latched = false }

turn_one : command_of board (codes "turn 0x1F") ≡ Ok (Turn 31)
unfolding command_of value_of
turn_one = refl

no_line : command_of board (codes "") ≡ Ok Nothing
unfolding command_of value_of
no_line = refl

comment : command_of board (codes "# turn 1") ≡ Ok Nothing
unfolding command_of
comment = refl

blank_first : command_of board (codes " #") ≡ Err BadCommand
unfolding command_of value_of
blank_first = refl

stores_of_a_word : command_of board (codes "stores 0x1020") ≡ Ok (Stores 4128)
unfolding command_of value_of
stores_of_a_word = refl

stores_past_the_end : command_of board (codes "stores 1048576") ≡ Err OutOfRange
unfolding command_of value_of
stores_past_the_end = refl

break_anywhere : command_of board (codes "break 1 3") ≡ Ok (Break (Some 1) 3)
unfolding command_of value_of
break_anywhere = refl

break_of_every_core : command_of board (codes "break * 0x100") ≡ Ok (Break None 256)
unfolding command_of value_of
break_of_every_core = refl

break_of_no_core : command_of board (codes "break 2 0x100") ≡ Err OutOfRange
unfolding command_of value_of
break_of_no_core = refl

memory_at_the_end : command_of board (codes "mem 1048572 1") ≡ Ok (Memory 1048572 1)
unfolding command_of value_of
memory_at_the_end = refl

memory_past_the_end : command_of board (codes "mem 1048572 2") ≡ Err OutOfRange
unfolding command_of value_of
memory_past_the_end = refl

core_too_large : command_of board (codes "regs 99999999999") ≡ Err OutOfRange
unfolding command_of value_of
core_too_large = refl

leading_zero : command_of board (codes "regs 01") ≡ Err BadCommand
unfolding command_of value_of
leading_zero = refl

two_blanks : command_of board (codes "turn  1") ≡ Err BadCommand
unfolding command_of value_of
two_blanks = refl

-- the first faulty line decides
first_fault : script_of board (codes "turn 1\nregs 2\nfrob\n") ≡ Err (OutOfRange, 2)
unfolding script_of command_at command_of value_of
first_fault = refl
