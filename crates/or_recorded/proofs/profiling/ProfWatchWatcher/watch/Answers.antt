use Rattle.or_recorded.proofs.Profiled.{counted_on, counted_of}
use Rattle.or_recorded.proofs.profiling.ProfWatchWatcher.watch.Goals as goal

pub returns-in-Ok-true-clause-seen : goal.returns-in-Ok-true-clause-seen
returns-in-Ok-true-clause-seen g c = λ start seen.
    let turned = c.count_turn in
    counted_on c.in-Ok-true.field-0 start c.args.turns.now c.args.place c.in-Ok.profile turned.new.profile
    c.args.board.now.cores turned.new.board.cores c.args.board.now.bus turned.new.board.bus c.requires.inside
    (counted_of c.args.self.now.counted c.in-Ok.profile start c.args.turns.now c.args.place c.args.board.now.cores c.args.board.now.bus c.in-Ok.is seen)
    c.in-Ok-true.ensures.turned (c.in-Ok-true.ensures.level c.in-Ok-true.field-0-test) turned.ensures.cores (c.in-Ok-true.ensures.added c.in-Ok-true.field-0-test)
