use Rattle.or_replay.proofs.Reset.{start_order}
use Rattle.or_replay.proofs.opening.assemble.Goals as goal

pub invariant_of-result : goal.invariant_of-result
invariant_of-result c =
    start_order c.args.config.now c.cores_at_reset-cores.result.items c.in_ok-bus.bus c.cores_at_reset-cores.ensures c.in_ok-bus.ensures.cores c.in_ok-bus.ensures.spare
