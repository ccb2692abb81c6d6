use Rattle.or_sched.proofs.Unique.{unique}
use Rattle.or_sched.proofs.laws.recording_is_unique.Goals as goal

pub returns : goal.returns
returns c = λ head other turns others marks other_marks a b. unique c.args.text.now head other turns others marks other_marks a b
