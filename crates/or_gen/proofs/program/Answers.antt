use Rattle.std.proofs.Common.{ap, length, arith}
use Rattle.or_gen.proofs.Sizes.{workload_short}
use Rattle.or_gen.proofs.program.Goals as goal

pub returns-in-Ok-clause-small : goal.returns-in-Ok-clause-small
returns-in-Ok-clause-small c = omega (arith, ap length c.in-Ok.ensures.text, workload_short c.args.seed c.args.cores c.args.rounds c.requires.few_cores)
