use Rattle.or_bus.proofs.Worlds.{told}
use Rattle.or_bus.proofs.bus.Bus.line.Goals as goal

pub returns : goal.returns
returns c = λ world is. told c.args.self.now world c.args.core c.args.index c.line_at.result is c.requires.core c.requires.index c.line_at.ensures.value
