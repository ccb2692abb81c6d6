use Rattle.or_bus.proofs.Worlds.{track-marked}
use Rattle.or_bus.proofs.bus.Bus.reserve.Goals as goal

pub returns-clause-tracks : goal.returns-clause-tracks
returns-clause-tracks c = λ world before. track-marked _ _ world c.args.core c.args.word c.requires c.set_slot.ensures.sound c.set_slot.ensures.after before
