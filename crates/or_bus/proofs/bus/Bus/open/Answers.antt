use Rattle.std.proofs.Common.{refl, ap}
use Rattle.or_dev.specs.Devices.{DevicesView}
use Rattle.or_bus.proofs.Worlds.{served-reset, sound-start, represents-start}
use Rattle.or_bus.proofs.bus.Bus.open.Goals as goal

pub invariant_of-result : goal.invariant_of-result
invariant_of-result c = sound-start _ c.args.ram.bytes _ _ _ _ c.requires.fits.few_cores c.in_ok-caches.ensures c.empty.ensures.value refl (served-reset _ _ _ (ap (λ (devices : DevicesView). devices.state) c.in_ok-devices.ensures))

pub returns-clause-start : goal.returns-clause-start
returns-clause-start c = represents-start _ c.args.input.items c.in_ok-caches.ensures c.empty.ensures.value refl refl (ap (λ (devices : DevicesView). devices.state) c.in_ok-devices.ensures)
