use Rattle.or_asm_text.proofs.Parts.{fits}
use Rattle.or_asm_text.proofs.operands.ranges_fit.Goals as goal

pub returns : goal.returns
returns c = fits
