use Rattle.or_turn.proofs.Waiting.{took_waiting}
use Rattle.or_turn.proofs.shared.steps.try_bus.Goals as goal

pub returns-then-draw-clause-took : goal.returns-then-draw-clause-took
returns-then-draw-clause-took g c = took_waiting c.args.seat.now.me.0 _ _ _ c.if-draw.ensures.drew.1 c.take.ensures.took
