use Rattle.or_sched.proofs.StepLemmas.{line_dooms}
use Rattle.or_sched.proofs.step.line.Goals as goal

pub returns-in-None-clause-step : goal.returns-in-None-clause-step
returns-in-None-clause-step c = line_dooms c.args.limits.now c.args.core c.args.block c.args.byte c.requires.sound.0 c.in-None.ensures.open
