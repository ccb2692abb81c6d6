use Rattle.or_replay.proofs.Followable.{followed_exactly}
use Rattle.or_replay.proofs.board.Board.follow_watched.Goals as goal

pub returns-clause-exact : goal.returns-clause-exact
returns-clause-exact g c = λ start is.
    let followed = c.follow_blocks.ensures.followed start is in
    followed_exactly start c.args.turns.now c.args.marks.now c.follow_blocks.result followed.last c.requires.marks followed.followed
