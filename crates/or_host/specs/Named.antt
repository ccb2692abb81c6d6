-- What the calls on named files, of which a host of real files is made, do to what they hold.
use Rattle.std.specs.Prelude.{◌≡◌, ◌<◌, ◌+◌, ℕ, List, length, take, Option, Some, None, Result, Ok, Err, ⊤}
use Rattle.std.specs.Io.KnownBytes.{Appends}
use Rattle.or_host.specs.declared.host.LoadFail.{LoadFail}
use Rattle.or_host.specs.declared.host.LoadFail.TheVariants.{Failed, TooLong, NoMemory}
use Rattle.or_host.specs.declared.whole.TheConstants.{CHUNK}
use Rattle.or_host.specs.Bytes.{IsPrefix}
use Rattle.or_host.specs.Told.{Content, TellsStep, TellsSame, AddsToFile}

-- A file that was opened gives the bytes that it is told to hold. An absent one isn't opened.
abbrev pub Gives : Option Content → Option (List ℕ) → Type 0
Gives None remaining = ⊤
Gives (Some None) remaining = ⊥
Gives (Some (Some bytes)) remaining = remaining ≡ Some bytes

-- An open answers a reader of what the file holds.
abbrev pub Opens : {R E : Type 0} → (R → Option (List ℕ)) → Option Content → Result R E → Type 0
Opens remaining told (Ok reader) = Gives told (remaining reader)
Opens remaining told (Err _) = ⊤

-- One write adds as many of the bytes as it answers, and none where it fails.
abbrev pub AddsSome : {E : Type 0} → Result ℕ E → List ℕ → Option Content → Option Content → Type 0
AddsSome (Ok count) bytes old new = TellsStep (AddsToFile (take count bytes)) old new
AddsSome (Err _) bytes old new = TellsSame old new

-- A load runs out of memory only where the list had no room for the next bytes that are read at a time.
abbrev pub LacksRoom : {U : Type 0} → Result U LoadFail → ℕ → List ℕ → Type 0
LacksRoom (Ok _) room into = ⊤
LacksRoom (Err TooLong) room into = ⊤
LacksRoom (Err Failed) room into = ⊤
LacksRoom (Err NoMemory) room into = room < length into + CHUNK

-- known bytes grew by a prefix of these
pub record AppendsPrefix (bytes : List ℕ) (old new : Option (List ℕ)) : Type 0 where
  pub first : List ℕ
  pub is_prefix : IsPrefix first bytes
  pub added : Appends old new first

-- What a writer is known to hold grows by all bytes, or by a prefix of them where the call fails.
abbrev pub Sends : {U E : Type 0} → Result U E → List ℕ → Option (List ℕ) → Option (List ℕ) → Type 0
Sends (Ok _) bytes old new = Appends old new bytes
Sends (Err _) bytes old new = AppendsPrefix bytes old new
