use Rattle.or_bus.proofs.Worlds.{track-noted}
use Rattle.or_bus.proofs.bus.Bus.note.Goals as goal

pub returns-clause-tracks : goal.returns-clause-tracks
returns-clause-tracks c = λ world before. track-noted _ _ world _ c.set_last.ensures before
