-- What each call of a host does.
use Rattle.std.specs.Prelude.{◌≡◌, ◌≢◌, ◌≤◌, ◌+◌, ℕ, List, [], ◌∷◌, length, Option, Some, Result, Ok, Err, IfSome}
use Rattle.or_words.specs.declared.limits.TheConstants.{NAME_LIMIT}
use Rattle.or_host.specs.declared.host.LoadFail.{LoadFail}
use Rattle.or_host.specs.declared.host.LoadFail.TheVariants.{Failed, TooLong, NoMemory}
use Rattle.or_host.specs.Bytes.{Adds, AddsPrefix}
use Rattle.or_host.specs.Told.{Content, TellsStep, TellsSame, IsPrefixOfFile, AddsToFile, AddsPrefixToFile}

-- `-`, which stands for standard output
abbrev pub dash : List ℕ
dash = 45 ∷ []

-- a name that may be loaded, created or appended to
pub record IsName (name : List ℕ) : Type 0 where
  pub short : length name ≤ NAME_LIMIT
  pub no_dash : name ≢ dash

-- Of a file of which this is told, a load takes all bytes where they are at most `max`, `max + 1` of them where it is too long,
-- and else a prefix of at most `max`.
abbrev pub Takes : {U : Type 0} → Result U LoadFail → Option Content → ℕ → List ℕ → Type 0
Takes (Ok _) told max into = (length into ≤ max) × IfSome told (λ file. file ≡ Some into)
Takes (Err TooLong) told max into = (length into ≡ max + 1) × IfSome told (IsPrefixOfFile into)
Takes (Err Failed) told max into = (length into ≤ max) × IfSome told (IsPrefixOfFile into)
Takes (Err NoMemory) told max into = (length into ≤ max) × IfSome told (IsPrefixOfFile into)

-- A created name holds nothing; one whose create failed is as it was.
abbrev pub Empties : {U E : Type 0} → Result U E → Option Content → Option Content → Type 0
Empties (Ok _) old new = IfSome new (λ file. file ≡ Some [])
Empties (Err _) old new = TellsSame old new

-- An append adds all bytes to its file, or fails behind a prefix of them.
abbrev pub Extends : {U E : Type 0} → Result U E → List ℕ → Option Content → Option Content → Type 0
Extends (Ok _) bytes old new = TellsStep (AddsToFile bytes) old new
Extends (Err _) bytes old new = TellsStep (AddsPrefixToFile bytes) old new

-- What is written out or said grows by all bytes, or by a prefix of them where the call fails.
abbrev pub Emits : {U E : Type 0} → Result U E → List ℕ → Option (List ℕ) → Option (List ℕ) → Type 0
Emits (Ok _) bytes old new = TellsStep (Adds bytes) old new
Emits (Err _) bytes old new = TellsStep (AddsPrefix bytes) old new
