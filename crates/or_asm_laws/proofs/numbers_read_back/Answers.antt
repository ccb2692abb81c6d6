use Rattle.or_asm_laws.proofs.Numbers.{number_hex, register_again}
use Rattle.or_asm_laws.proofs.numbers_read_back.Goals as goal

pub returns : goal.returns
returns c = record { hex = number_hex; registers = register_again }
