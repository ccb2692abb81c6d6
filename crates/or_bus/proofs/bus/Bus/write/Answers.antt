use Rattle.std.proofs.Common.{ap, arith}
use Rattle.or_mem.specs.Memory.{RamState}
use Rattle.or_bus.specs.State.{BusState}
use Rattle.or_bus.proofs.Worlds.{sound-written}
use Rattle.or_bus.proofs.bus.Bus.write.Goals as goal

-- after a store each valid line is again what RAM holds
pub invariant_of-self : goal.invariant_of-self
invariant_of-self c =
    let inside = c.self.inside in
    let cores = ap (λ (b : BusState). b.cores) c.self.view_is in
    sound-written inside.cores inside.ram.bytes _ inside.caches _ inside.reservations _ _ _ c.args.core c.args.pa c.args.v c.args.width c.args.cached c.self.invariant (omega arith) c.requires.aligned
    c.write_through.ensures.lines (ap (λ (m : RamState). m.bytes) c.write_through.ensures.bytes) c.wrote.ensures.value
