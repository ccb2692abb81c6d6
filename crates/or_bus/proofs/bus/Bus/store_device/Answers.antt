use Rattle.or_bus.proofs.Worlds.{sound-devices}
use Rattle.or_bus.proofs.bus.Bus.store_device.Goals as goal

-- the devices serve as many cores as before
pub invariant_of-self : goal.invariant_of-self
invariant_of-self c = sound-devices _ _ _ _ _ _ _ c.self.invariant c.store.ensures.cores
