use Rattle.std.proofs.Common.{arith}
use Rattle.std.proofs.lemmas.Result.{on_err_weaker}
use Rattle.or_prof.specs.Tally.{spot_at}
use Rattle.or_prof.proofs.Fitting.{hot_length}
use Rattle.or_prof.proofs.texts.append_hot.Goals as goal

pub returns-clause-full : goal.returns-clause-full
returns-clause-full c = on_err_weaker c.append_spots.result (λ lacks text is.
    let same = hot_length (spot_at c.args.tally.now.spots) c.rank_spots.new.lines.items c.deref.result.now c.hottest.result.now text c.in_ok-rank_spots.ensures.spots c.in_ok-rank_spots.ensures.order
    c.deref.ensures.value c.hottest.ensures is in
    omega (arith, same, lacks)) c.append_spots.ensures.full
