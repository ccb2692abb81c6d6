use Rattle.std.proofs.Common.{ap, arith}
use Rattle.or_bus.specs.State.{BusState}
use Rattle.or_bus.proofs.Worlds.{sound-dropped}
use Rattle.or_bus.proofs.bus.Bus.forget_line.Goals as goal

-- a line less
pub invariant_of-self : goal.invariant_of-self
invariant_of-self c =
    let inside = c.self.inside in
    let cores = ap (λ (b : BusState). b.cores) c.self.view_is in
    sound-dropped inside.cores _ inside.caches _ _ _ _ c.args.core c.args.pa c.self.invariant (omega arith) c.drop_line.ensures
