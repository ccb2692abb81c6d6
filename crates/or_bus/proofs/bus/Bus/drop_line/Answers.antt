use Rattle.or_bus.proofs.Worlds.{track-drop}
use Rattle.or_bus.proofs.bus.Bus.drop_line.Goals as goal

pub returns-clause-tracks : goal.returns-clause-tracks
returns-clause-tracks c = λ world before. track-drop _ _ world c.args.core c.args.pa c.requires c.forget_line.ensures.sound c.forget_line.ensures.after before
