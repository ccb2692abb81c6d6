-- Files that a command loads, one after another.
use Rattle.std.specs.Prelude.{◌≡◌, ◌≤◌, ◌+◌, ℕ, List, [], ◌∷◌, ◌++◌, map, length, Some, IfSome, ⊤, Vec}
use Rattle.std.specs.declared.alloc.Global.{Global}
use Rattle.or_host.specs.declared.host.Operation.TheVariants.{Load as Loading}
use Rattle.or_host.specs.Told.{IsPrefixOfFile}
use Rattle.or_host.specs.Counts.{Rose}
use Rattle.or_host.specs.HostState.{HostState}
use Rattle.or_host.specs.Calls.{IsName}
use Rattle.or_command.specs.declared.loading.Input.{Input}
use Rattle.or_command.specs.declared.loading.LoadStop.{LoadStop}
use Rattle.or_command.specs.declared.loading.LoadStop.TheVariants.{Unread, TooLong, NoMemory}
use Rattle.or_command.specs.Leaves.{Untouched, NoFault, FaultOf}

-- a name, and how many bytes its file may hold
pub record Load : Type 0 where
  pub name : List ℕ
  pub limit : ℕ

abbrev pub load_of : Input → Load
load_of input = record { name = input.name.now; limit = input.limit }

abbrev pub loads_of : List Input → List Load
loads_of inputs = map load_of inputs

-- names that a host takes
abbrev pub AreLoads : List Load → Type 0
AreLoads [] = ⊤
AreLoads (load ∷ loads) = IsName load.name × AreLoads loads

-- the bytes of several files
abbrev pub bytes_of : List (Vec ℕ Global) → List (List ℕ)
bytes_of files = map (λ file. file.items) files

-- these are the files' bytes, as far as the host tells them, each within its limit
abbrev pub AreRead : List Load → List (List ℕ) → HostState → Type 0
AreRead [] [] state = ⊤
AreRead [] (file ∷ files) state = ⊥
AreRead (load ∷ loads) [] state = ⊥
AreRead (load ∷ loads) (file ∷ files) state =
    IfSome (state.holds load.name) (λ content. content ≡ Some file) × (length file ≤ load.limit) × AreRead loads files state

-- one file is read
pub record OneRead (load : Load) (file : List ℕ) (old new : HostState) : Type 0 where
  pub told : IfSome (new.holds load.name) (λ content. content ≡ Some file)
  pub fits : length file ≤ load.limit
  pub untouched : Untouched old new
  pub no_fault : NoFault old new
  pub lacks : new.lacks ≡ old.lacks

-- one file is too long: a prefix of `limit + 1` bytes was taken
pub record OneTooLong (load : Load) (old new : HostState) : Type 0 where
  pub taken : List ℕ
  pub long : length taken ≡ load.limit + 1
  pub told : IfSome (new.holds load.name) (IsPrefixOfFile taken)
  pub untouched : Untouched old new
  pub no_fault : NoFault old new

-- why one file is not read
abbrev pub OneStops : Load → LoadStop → HostState → HostState → Type 0
OneStops load (Unread name) old new = (name.now ≡ load.name) × FaultOf Loading load.name old new × Untouched old new
OneStops load (TooLong name limit) old new = (name.now ≡ load.name) × (limit ≡ load.limit) × OneTooLong load old new
OneStops load NoMemory old new = Untouched old new × NoFault old new × Rose old.lacks new.lacks

-- all files are read
pub record AllRead (loads : List Load) (files : List (List ℕ)) (old new : HostState) : Type 0 where
  pub read : AreRead loads files new
  pub untouched : Untouched old new
  pub no_fault : NoFault old new
  pub lacks : new.lacks ≡ old.lacks

-- a file of this name is not read; those before it are
pub record StopsUnread (loads : List Load) (name : List ℕ) (before : List (List ℕ)) (old new : HostState) : Type 0 where
  pub front : List Load
  pub load : Load
  pub rest : List Load
  pub order : loads ≡ front ++ load ∷ rest
  pub named : name ≡ load.name
  pub read : AreRead front before new
  pub cause : FaultOf Loading load.name old new
  pub untouched : Untouched old new

-- a file of this name holds more than its limit; those before it are read
pub record StopsTooLong (loads : List Load) (name : List ℕ) (limit : ℕ) (before : List (List ℕ)) (old new : HostState) : Type 0 where
  pub front : List Load
  pub load : Load
  pub rest : List Load
  pub order : loads ≡ front ++ load ∷ rest
  pub named : name ≡ load.name
  pub limited : limit ≡ load.limit
  pub read : AreRead front before new
  pub taken : List ℕ
  pub long : length taken ≡ load.limit + 1
  pub told : IfSome (new.holds load.name) (IsPrefixOfFile taken)
  pub untouched : Untouched old new
  pub no_fault : NoFault old new

-- the load of a file found no memory, which the host has counted; those before it are read
pub record StopsForMemory (loads : List Load) (before : List (List ℕ)) (old new : HostState) : Type 0 where
  pub front : List Load
  pub load : Load
  pub rest : List Load
  pub order : loads ≡ front ++ load ∷ rest
  pub read : AreRead front before new
  pub lacked : Rose old.lacks new.lacks
  pub untouched : Untouched old new
  pub no_fault : NoFault old new

-- why not all files are read, and what was read before
abbrev pub StopsLoading : List Load → LoadStop → List (List ℕ) → HostState → HostState → Type 0
StopsLoading loads (Unread name) before old new = StopsUnread loads name.now before old new
StopsLoading loads (TooLong name limit) before old new = StopsTooLong loads name.now limit before old new
StopsLoading loads NoMemory before old new = StopsForMemory loads before old new

-- the files read stand behind those that were there
pub record LoadsAll (loads : List Load) (held kept : List (List ℕ)) (old new : HostState) : Type 0 where
  pub files : List (List ℕ)
  pub stands : kept ≡ held ++ files
  pub all : AllRead loads files old new

-- the files read before a stop stand behind those that were there
pub record LoadsSome (loads : List Load) (stop : LoadStop) (held kept : List (List ℕ)) (old new : HostState) : Type 0 where
  pub files : List (List ℕ)
  pub stands : kept ≡ held ++ files
  pub stops : StopsLoading loads stop files old new
