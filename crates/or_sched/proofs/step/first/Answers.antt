use Rattle.or_sched.proofs.StepLemmas.{first_dooms}
use Rattle.or_sched.proofs.step.first.Goals as goal

pub returns-in-None-clause-step : goal.returns-in-None-clause-step
returns-in-None-clause-step c = first_dooms c.args.limits.now c.args.block c.args.byte c.in-None.ensures.open
