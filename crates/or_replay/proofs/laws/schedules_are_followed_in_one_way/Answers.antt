use Rattle.or_replay.proofs.FirstRefusal.{followed_in_one_way}
use Rattle.or_replay.proofs.laws.schedules_are_followed_in_one_way.Goals as goal

pub returns : goal.returns
returns c = λ block start one other last again some is also. followed_in_one_way block some start c.args.turns.now c.args.marks.now one other last again is also
