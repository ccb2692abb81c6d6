use Rattle.or_asm_laws.proofs.Sources.{reads_back, reads_back_ended, reads_back_printed}
use Rattle.or_asm_laws.proofs.prints_read_back.Goals as goal

pub returns : goal.returns
returns c = record { bare = reads_back; ended = reads_back_ended; printed = reads_back_printed }
