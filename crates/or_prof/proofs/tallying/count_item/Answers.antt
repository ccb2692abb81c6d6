use Rattle.std.proofs.lemmas.Result.{on_ok_weaker}
use Rattle.or_prof.proofs.Counting.{counted_by}
use Rattle.or_prof.proofs.tallying.count_item.Goals as goal

pub returns-clause-counts : goal.returns-clause-counts
returns-clause-counts c = on_ok_weaker c.count.result (λ is items are.
    counted_by c.args.hot c.args.finder.now items c.args.pc c.find-function.result c.args.tally.now c.count.new.self c.find-function.ensures.function is c.requires.known are) c.count.ensures.counted
