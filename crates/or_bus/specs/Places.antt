-- Where in RAM or in a device an access goes.
use Rattle.std.specs.Prelude.{ℕ, ◌^◌, ◌<◌, ◌≤◌, Bool, true, false}
use Rattle.or_model.specs.declared.Region.{Region}
use Rattle.or_model.specs.declared.Region.TheVariants.{Ram, Register, Nothing}
use Rattle.or_dev.specs.Devices.{HasRegister}

-- whether RAM answers
abbrev pub is_ram : Region → Bool
is_ram Ram = true
is_ram (Register device offset) = false
is_ram Nothing = false

-- the place lies in what answers; the devices lie in the upper half of the addresses
abbrev pub IsInside : ℕ → ℕ → ℕ → Region → Type 0
IsInside size cores pa Ram = pa < size
IsInside size cores pa (Register device offset) = HasRegister cores device offset × (2 ^ 31 ≤ pa)
IsInside size cores pa Nothing = Unit {0}
