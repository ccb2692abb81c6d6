use Rattle.std.proofs.Common.{rules}
use Rattle.or_asm_read.proofs.LabelNumbers.{new_further}
use Rattle.or_asm_read.proofs.labels.index_with.Goals as goal

pub returns : goal.returns
returns c = new_further c.args.index c.insert.new.self c.args.name.now c.args.number (search rules) c.in_ok-insert.ensures.updates
