use Rattle.or_asm_text.proofs.Parts.{registers_fit, value_fits, all_filled}
use Rattle.or_asm_text.proofs.operands.operands_fit.Goals as goal

pub returns : goal.returns
returns c = record { registers = registers_fit; value = value_fits; all = all_filled }
