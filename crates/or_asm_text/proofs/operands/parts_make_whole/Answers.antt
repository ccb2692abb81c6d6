use Rattle.or_asm_text.proofs.Parts.{whole}
use Rattle.or_asm_text.proofs.operands.parts_make_whole.Goals as goal

pub returns : goal.returns
returns c = whole
