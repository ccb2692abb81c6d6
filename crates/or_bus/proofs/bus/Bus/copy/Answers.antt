use Rattle.or_bus.proofs.Worlds.{track-reads}
use Rattle.or_bus.proofs.bus.Bus.copy.Goals as goal

pub returns-clause-tracks : goal.returns-clause-tracks
returns-clause-tracks c = λ world before. track-reads _ _ world c.copy_parts.ensures.after before
