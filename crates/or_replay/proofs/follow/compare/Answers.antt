use Rattle.or_replay.proofs.Followed.{no_block}
use Rattle.or_replay.proofs.follow.compare.Goals as goal

pub returns-then-made-block-ne0 : goal.returns-then-made-block-ne0
returns-then-made-block-ne0 c = no_block c.args.block c.args.made c.args.marks.now tt c.args.here c.if-made-block-ne0.true
