use Rattle.or_bus.proofs.Worlds.{track-unmarked}
use Rattle.or_bus.proofs.bus.Bus.cancel.Goals as goal

pub returns-clause-tracks : goal.returns-clause-tracks
returns-clause-tracks c = λ world before. track-unmarked _ _ world c.args.core c.requires c.clear_slot.ensures.sound c.clear_slot.ensures.after before
