-- What a call of the bus answers, and the state that it leaves.
use Rattle.std.specs.Prelude.{◌≡◌, ℕ, ◌%◌, ◌==◌, ◌&&◌, nat_lt, if◌then◌else◌, List, length, Option, Some, None, Result, Ok, Err}
use Rattle.or_words.specs.declared.Width.TheVariants.{Word}
use Rattle.or_parts.specs.Memory.{value_at}
use Rattle.or_model.specs.World.{World}
use Rattle.or_model.specs.Bus.{Answer}
use Rattle.or_bus.specs.declared.BusError.{BusError}
use Rattle.or_bus.specs.State.{BusState}
use Rattle.or_bus.specs.Represents.{Represents}

-- the bus answered as the world does, and is then in the state that the world says; it refused exactly where nothing answers
abbrev pub IsAnswer : {A : Type 0} → Option (Answer A) → Result A BusError → BusState → Type 0
IsAnswer (Some answer) (Ok value) bus = (value ≡ answer.value) × Represents bus answer.after
IsAnswer None (Err e) bus = Unit {0}
IsAnswer (Some answer) (Err e) bus = ⊥
IsAnswer None (Ok value) bus = ⊥

-- the same of a store, which answers nothing
abbrev pub IsStored : Option World → Result (Unit {0}) BusError → BusState → Type 0
IsStored (Some after) (Ok done) bus = Represents bus after
IsStored None (Err e) bus = Unit {0}
IsStored (Some after) (Err e) bus = ⊥
IsStored None (Ok done) bus = ⊥

-- the word that is shown at an address: none where the address is no multiple of four or not in RAM
abbrev pub word_shown : List ℕ → ℕ → Option ℕ
word_shown ram pa = if pa % 4 == 0 && nat_lt pa (length ram) then Some (value_at ram pa Word) else None
