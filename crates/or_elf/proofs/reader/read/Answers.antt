use Rattle.std.proofs.Common.{rules}
use Rattle.or_elf.proofs.Faults.{segments_inside}
use Rattle.or_elf.proofs.reader.read.Goals as goal

pub returns-clause-inside : goal.returns-clause-inside
returns-clause-inside c = segments_inside _ _ _ (search rules)
