use Rattle.or_asm.proofs.Firsts.{fault_is_first, first_is_fault, program_is}
use Rattle.or_asm_laws.proofs.Programs.{is_program}
use Rattle.or_asm_laws.proofs.first_fault_decides.Goals as goal

pub returns : goal.returns
returns c = record { refused = fault_is_first; only = first_is_fault; program = program_is; whole = is_program }
