use Rattle.std.proofs.Common.{subst, ap, sym, List, ℕ}
use Rattle.or_mem.specs.Memory.{RamState}
use Rattle.or_bus.specs.Coherence.{AreSound}
use Rattle.or_bus.proofs.bus.Bus.read_line.Goals as goal

-- reading changes no byte
pub invariant_of-self : goal.invariant_of-self
invariant_of-self c =
    let inside = c.self.inside in
    let same = ap (λ (m : RamState). m.bytes) c.read_line.ensures.counted in
    subst (λ (ram : List ℕ). AreSound inside.cores ram inside.caches inside.reservations inside.counts inside.devices.state) (sym same) c.self.invariant
