use Rattle.or_elf.proofs.LoadsAlike.{fault_same, placed_same}
use Rattle.or_elf.proofs.laws.only_segments_count.Goals as goal

pub returns : goal.returns
returns c = record { fault = fault_same; placing = placed_same }
