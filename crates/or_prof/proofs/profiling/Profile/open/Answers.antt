use Rattle.or_prof.proofs.Added.{opened}
use Rattle.or_prof.proofs.profiling.Profile.open.Goals as goal

pub returns-in-Ok-open-clause-profile : goal.returns-in-Ok-open-clause-profile
returns-in-Ok-open-clause-profile c = opened c.args.hot c.in-Ok-open.finder c.args.cores c.size_of.result c.in-Ok.tallies.items c.in-Ok.ensures
