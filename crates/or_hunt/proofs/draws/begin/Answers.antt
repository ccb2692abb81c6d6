use Rattle.std.proofs.Common.{◌<◌, sym, subst}
use Rattle.std.specs.List.{All}
use Rattle.or_hunt.proofs.Drawing.{exponents-small}
use Rattle.or_hunt.proofs.draws.begin.Goals as goal

pub returns-clause-small : goal.returns-clause-small
returns-clause-small c = subst (All (λ e. e < 11)) (sym c.loop.invariant.exponents) (exponents-small c.args.seed c.loop.counter)
