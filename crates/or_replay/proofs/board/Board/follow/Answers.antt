use Rattle.std.specs.Prelude.{[]}
use Rattle.or_model.specs.Step.{empty_world}
use Rattle.or_replay.proofs.board.Board.follow.Goals as goal

pub follow_watched-requires-clause-seen : goal.follow_watched-requires-clause-seen
follow_watched-requires-clause-seen c = (record { cores = []; world = empty_world }, tt)
