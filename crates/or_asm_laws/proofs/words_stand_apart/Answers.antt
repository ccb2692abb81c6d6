use Rattle.or_asm_laws.proofs.ApartPieces.{pieces_apart, pieces_in_memory}
use Rattle.or_asm_laws.proofs.words_stand_apart.Goals as goal

pub returns : goal.returns
returns c = record { apart = pieces_apart; within = pieces_in_memory }
