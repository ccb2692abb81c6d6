use Rattle.or_sched.proofs.Faults.{one_fault, no_fault}
use Rattle.or_sched.proofs.laws.fault_is_unique.Goals as goal

pub returns : goal.returns
returns c = record {
  one = λ place other a b. one_fault c.args.text.now place other a b;
  none = λ place begins fault. no_fault c.args.text.now place begins fault;
}
