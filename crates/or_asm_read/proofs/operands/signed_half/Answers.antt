use Rattle.std.proofs.Common.{rules}
use Rattle.std.specs.Int.{int_wrap}
use Rattle.or_asm_read.proofs.operands.signed_half.Goals as goal

pub returns : goal.returns
unfolding int_wrap
returns c = search rules
