use Rattle.std.proofs.Common.{length}
use Rattle.or_asm_read.proofs.at_fault.+operand_with.Given as goal

abbrev pub decreases-operand_with : goal.decreases-operand_with
decreases-operand_with l = length l.slots.now
