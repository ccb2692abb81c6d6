use Rattle.or_asm.proofs.Pairs.{program_puts}
use Rattle.or_asm_laws.proofs.pieces_hold_the_words.Goals as goal

pub returns : goal.returns
returns c = program_puts
