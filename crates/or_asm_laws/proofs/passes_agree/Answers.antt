use Rattle.or_asm.proofs.AgreeingPasses.{passes_agree}
use Rattle.or_asm_laws.proofs.passes_agree.Goals as goal

pub returns : goal.returns
returns c = passes_agree
