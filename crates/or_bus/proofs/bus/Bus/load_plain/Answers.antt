use Rattle.or_bus.proofs.Worlds.{track-plain_load}
use Rattle.or_bus.proofs.bus.Bus.load_plain.Goals as goal

pub returns-clause-tracks : goal.returns-clause-tracks
returns-clause-tracks c = λ world before. track-plain_load _ _ world c.args.core c.args.pa c.read_word.ensures.after before
