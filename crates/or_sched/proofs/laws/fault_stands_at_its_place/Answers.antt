use Rattle.or_sched.proofs.Faults.{same_fault}
use Rattle.or_sched.proofs.laws.fault_stands_at_its_place.Goals as goal

pub returns : goal.returns
returns c = λ place fault same. same_fault c.args.text.now c.args.other.now place fault same
