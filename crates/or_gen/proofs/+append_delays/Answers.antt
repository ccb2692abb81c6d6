use Rattle.std.proofs.Common.{rules, arith}
use Rattle.or_gen.proofs.Delays.{one_more}
use Rattle.or_gen.proofs.+append_delays.Goals as goal

pub returns-clause-text : goal.returns-clause-text
returns-clause-text t c =
    one_more c.args.x c.next_number-next.result c.args.cores c.args.out.now.items c.append_delay.new.out.items c.append_delays.new.out.items
    (omega arith) c.next_number-next.ensures (search rules) (search rules)
