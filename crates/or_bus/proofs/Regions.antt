-- What the world answers to an access, by what answers it.
use Rattle.std.proofs.Common.{◌≡◌, ℕ, Bool, Ok, Err, length, subst, ap, sym, ◌∙◌}
use Rattle.or_words.specs.declared.Width.{Width}
use Rattle.or_parts.specs.Memory.{value_at}
use Rattle.or_parts.specs.declared.memory_map.Device.{Device}
use Rattle.or_parts.specs.Devices.{device_value, device_after_read, device_written, served_cores}
use Rattle.or_model.specs.declared.Region.{Region}
use Rattle.or_model.specs.declared.Region.TheVariants.{Ram, Register, Nothing}
use Rattle.or_model.specs.World.{World, after_load, after_store}
use Rattle.or_model.specs.Bus.{region, region_of, load, load_from, store, store_to}
use Rattle.or_bus.specs.declared.BusError.{BusError}
use Rattle.or_bus.specs.State.{BusState}
use Rattle.or_bus.specs.Coherence.{IsSound}
use Rattle.or_bus.specs.Represents.{Represents}
use Rattle.or_bus.specs.Answers.{IsAnswer, IsStored}
use Rattle.or_bus.proofs.Worlds.{track-devices}

-- what answers is the same for a bus and the world that it represents
pub region-same : (bus : BusState) (world : World) (pa : ℕ) (width : Width) (here : Region) → Represents bus world → here ≡ region_of (length bus.ram) bus.cores pa width → region world pa width ≡ here
region-same bus world pa width here is known =
    ap (λ size. region_of size (served_cores world.devices) pa width) (sym (ap length is.ram))
    ∙ ap (λ cores. region_of (length bus.ram) cores pa width) is.valid.devices
    ∙ sym known

pub loaded-ram : (old new : BusState) (world : World) (c pa value : ℕ) (width : Width) (cached : Bool) → region world pa width ≡ Ram → Represents old world → value ≡ value_at old.ram pa width → Represents new (after_load world c pa cached)
    → IsAnswer (load world c pa width cached) (Ok value) new
unfolding load
loaded-ram old new world c pa value width cached here before is after =
    subst (λ r. IsAnswer (load_from world c pa width cached r) (Ok value) new) (sym here) (is ∙ ap (λ ram. value_at ram pa width) before.ram, after)

pub loaded-device : (old new : BusState) (world : World) (c pa offset value : ℕ) (device : Device) (width : Width) (cached : Bool) → region world pa width ≡ Register device offset → Represents old world → IsSound new → value ≡ device_value old.devices device offset → new ≡ record old { devices = device_after_read old.devices device offset }
    → IsAnswer (load world c pa width cached) (Ok value) new
unfolding load
loaded-device old new world c pa offset value device width cached here before sound is after =
    subst (λ r. IsAnswer (load_from world c pa width cached r) (Ok value) new) (sym here) (
      is ∙ ap (λ devices. device_value devices device offset) before.devices,
      track-devices old new world (λ devices. device_after_read devices device offset) old.spare sound after before,
    )

pub loaded-nothing : (old : BusState) (world : World) (c pa : ℕ) (width : Width) (cached : Bool) (e : BusError) → region world pa width ≡ Nothing → IsAnswer (load world c pa width cached) (Err e) old
unfolding load
loaded-nothing old world c pa width cached e here =
    subst (λ r. IsAnswer (load_from world c pa width cached r) (Err e) old) (sym here) tt

pub stored-ram : (new : BusState) (world : World) (c pa v : ℕ) (width : Width) (cached : Bool) (done : Unit {0}) → region world pa width ≡ Ram → Represents new (after_store world c pa width v cached)
    → IsStored (store world c pa width v cached) (Ok done) new
unfolding store
stored-ram new world c pa v width cached done here after =
    subst (λ r. IsStored (store_to world c pa width v cached r) (Ok done) new) (sym here) after

pub stored-device : (old new : BusState) (world : World) (c pa v offset : ℕ) (device : Device) (width : Width) (cached : Bool) (done : Unit {0}) → region world pa width ≡ Register device offset → Represents old world → IsSound new → new ≡ record old { devices = device_written old.devices device offset v; spare = new.spare }
    → IsStored (store world c pa width v cached) (Ok done) new
unfolding store
stored-device old new world c pa v offset device width cached done here before sound after =
    subst (λ r. IsStored (store_to world c pa width v cached r) (Ok done) new) (sym here)
    (track-devices old new world (λ devices. device_written devices device offset v) new.spare sound after before)

pub stored-nothing : (old : BusState) (world : World) (c pa v : ℕ) (width : Width) (cached : Bool) (e : BusError) → region world pa width ≡ Nothing → IsStored (store world c pa width v cached) (Err e) old
unfolding store
stored-nothing old world c pa v width cached e here =
    subst (λ r. IsStored (store_to world c pa width v cached r) (Err e) old) (sym here) tt
