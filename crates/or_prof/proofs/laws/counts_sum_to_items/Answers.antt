use Rattle.or_prof.proofs.Sums.{lines_sum}
use Rattle.or_prof.proofs.laws.counts_sum_to_items.Goals as goal

pub returns : goal.returns
returns c = λ items ranked are. lines_sum c.args.bytes.now items ranked are
