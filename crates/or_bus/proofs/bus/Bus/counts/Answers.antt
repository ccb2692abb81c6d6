use Rattle.std.proofs.Common.{◌∙◌}
use Rattle.or_bus.proofs.bus.Bus.counts.Goals as goal

pub returns-clause-told : goal.returns-clause-told
returns-clause-told c = λ world is. c.counts_here.ensures ∙ is.counted c.args.core c.requires
