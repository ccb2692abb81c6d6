-- What a host tells: `None` where it tells nothing, else the value.
use Rattle.std.specs.Prelude.{◌≡◌, ℕ, List, [], ◌++◌, Option, Some, None, ⊤}
use Rattle.or_host.specs.Bytes.{IsPrefix, AddsPrefix}

-- What is told after a call was told before it, and the two are so related.
abbrev pub TellsStep : {T : Type 0} → (T → T → Type 0) → Option T → Option T → Type 0
TellsStep Step old None = ⊤
TellsStep Step None (Some new) = ⊥
TellsStep Step (Some old) (Some new) = Step old new

-- What is told after a call was told before it, and is the same.
abbrev pub TellsSame : {T : Type 0} → Option T → Option T → Type 0
TellsSame old new = TellsStep (λ before after. after ≡ before) old new

-- What a name holds: `None` where there is no such file, else its bytes.
abbrev pub Content : Type 0
Content = Option (List ℕ)

-- a prefix of what a name holds, of which an absent file has no bytes
abbrev pub IsPrefixOfFile : List ℕ → Content → Type 0
IsPrefixOfFile bytes None = bytes ≡ []
IsPrefixOfFile bytes (Some file) = IsPrefix bytes file

-- all these bytes were added to a file, which may begin with them
abbrev pub AddsToFile : List ℕ → Content → Content → Type 0
AddsToFile bytes None new = new ≡ Some bytes
AddsToFile bytes (Some old) new = new ≡ Some (old ++ bytes)

-- a prefix of these bytes was added to a file, which may begin with it
abbrev pub AddsPrefixToFile : List ℕ → Content → Content → Type 0
AddsPrefixToFile bytes None None = ⊤
AddsPrefixToFile bytes None (Some new) = IsPrefix new bytes
AddsPrefixToFile bytes (Some old) None = ⊥
AddsPrefixToFile bytes (Some old) (Some new) = AddsPrefix bytes old new
