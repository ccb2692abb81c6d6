use Rattle.or_asm_text.proofs.Named.{each_named}
use Rattle.or_asm_text.proofs.operands.names_differ.Goals as goal

pub returns : goal.returns
returns c = each_named
