use Rattle.or_bus.proofs.Regions.{region-same}
use Rattle.or_bus.proofs.bus.Bus.region.Goals as goal

pub returns-clause-told : goal.returns-clause-told
returns-clause-told c = λ world before. region-same c.args.self.now world c.args.pa c.args.width _ before c.region_here.ensures.value
