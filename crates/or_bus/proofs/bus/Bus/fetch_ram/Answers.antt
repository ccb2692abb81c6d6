use Rattle.or_bus.proofs.Worlds.{track-reads}
use Rattle.or_bus.proofs.bus.Bus.fetch_ram.Goals as goal

pub returns-clause-tracks : goal.returns-clause-tracks
returns-clause-tracks c = λ world before. track-reads _ _ world c.read_instruction.ensures.after before
