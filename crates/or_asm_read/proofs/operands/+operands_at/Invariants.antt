use Rattle.std.proofs.Common.{length}
use Rattle.or_asm_read.proofs.operands.+operands_at.Given as goal

abbrev pub decreases-operands_at : goal.decreases-operands_at
decreases-operands_at l = length l.slots.now
