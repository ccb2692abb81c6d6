use Rattle.or_sched.proofs.PlaceLemmas.{onward_done}
use Rattle.or_sched.proofs.step.onward.Goals as goal

pub returns-then-total-eq0-clause-leads : goal.returns-then-total-eq0-clause-leads
returns-then-total-eq0-clause-leads c = onward_done c.args.limits.now c.args.total c.requires.limits c.if-total-eq0.true
