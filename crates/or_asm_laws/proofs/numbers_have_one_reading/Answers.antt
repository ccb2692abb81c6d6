use Rattle.or_asm_laws.proofs.Numerals.{number_says, says_number, register_says}
use Rattle.or_asm_laws.proofs.numbers_have_one_reading.Goals as goal

pub returns : goal.returns
returns c = record { found = number_says; only = says_number; register = register_says }
