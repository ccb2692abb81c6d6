-- What calls leave in memory, where some are listed to fail. `done` says whether the call succeeded, and room is how many
-- bytes a list can hold before it takes more memory.
use Rattle.std.specs.Prelude.{◌≡◌, ◌≤◌, ◌<◌, ◌+◌, ◌/◌, ◌++◌, min, ℕ, List, [], length, take, Bool, true, false, Some, None, Result, Ok, Err, IsFalse, ⊤}
use Rattle.or_host.specs.declared.host.LoadFail.{LoadFail}
use Rattle.or_host.specs.declared.host.LoadFail.TheVariants.{Failed, TooLong, NoMemory}
use Rattle.or_host.specs.Bytes.{half_of, AddsWhereRoom}
use Rattle.or_host.specs.Told.{Content}

-- A file is loaded whole, is too long, or finds no room, by its length.
abbrev pub LoadsBytes : {U : Type 0} → List ℕ → ℕ → ℕ → Result U LoadFail → List ℕ → Type 0
LoadsBytes file max room (Ok _) into = (length file ≤ max) × (into ≡ file)
LoadsBytes file max room (Err TooLong) into = (max < length file) × (into ≡ take (max + 1) file)
LoadsBytes file max room (Err NoMemory) into = (room < min (length file) (max + 1)) × (into ≡ [])
LoadsBytes file max room (Err Failed) into = ⊥

-- what a load that is to fail takes: the first half of the file, at most `max` bytes
abbrev pub failed_part : List ℕ → ℕ → List ℕ
failed_part file max = take (min max (length file / 2)) file

-- An absent name fails, and so does a listed call, behind half of the file. No other load does.
abbrev pub LoadsListed : {U : Type 0} → Bool → Content → ℕ → ℕ → Result U LoadFail → List ℕ → Type 0
LoadsListed listed None max room result into = (result ≡ Err Failed) × (into ≡ [])
LoadsListed true (Some file) max room result into = (result ≡ Err Failed) × AddsWhereRoom room (failed_part file max) [] into
LoadsListed false (Some file) max room result into = LoadsBytes file max room result into

-- A listed create fails and leaves the file. No other does, but for want of memory for a new file.
abbrev pub CreatesListed : Bool → Bool → Content → Content → Type 0
CreatesListed true done old new = IsFalse done × (new ≡ old)
CreatesListed false true old new = new ≡ Some []
CreatesListed false false old new = (old ≡ None) × (new ≡ None)

-- A listed write fails and adds the first half of its bytes. No other does, but where it finds no room: it then adds nothing.
abbrev pub GrowsListed : Bool → ℕ → List ℕ → Bool → List ℕ → List ℕ → Type 0
GrowsListed true room bytes done old new = IsFalse done × AddsWhereRoom room (half_of bytes) old new
GrowsListed false room bytes true old new = new ≡ old ++ bytes
GrowsListed false room bytes false old new = (room < length old + length bytes) × (new ≡ old)

-- bytes find no place without further memory: the name is new, or its file has no room for them
abbrev pub LacksPlace : ℕ → List ℕ → Content → Type 0
LacksPlace room bytes None = ⊤
LacksPlace room bytes (Some file) = room < length bytes

-- the same of a file, where an absent one fails
abbrev pub AppendsListed : Bool → ℕ → List ℕ → Bool → Content → Content → Type 0
AppendsListed listed room bytes done None None = IsFalse done
AppendsListed listed room bytes done None (Some new) = ⊥
AppendsListed listed room bytes done (Some old) None = ⊥
AppendsListed listed room bytes done (Some old) (Some new) = GrowsListed listed room bytes done old new
