-- Files that a command writes, one after another, and what goes to standard output behind them.
use Rattle.std.specs.Prelude.{◌≡◌, ◌≢◌, ◌⊎◌, ℕ, List, [], ◌∷◌, ◌++◌, map, Option, Some, None, IfSome, ⊤}
use Rattle.or_host.specs.declared.host.Operation.TheVariants.{Write}
use Rattle.or_host.specs.Bytes.{IsPrefix, Adds, AddsPrefix}
use Rattle.or_host.specs.Told.{Content, TellsStep, TellsSame}
use Rattle.or_host.specs.HostState.{HostState}
use Rattle.or_host.specs.Calls.{IsName, dash}
use Rattle.or_command.specs.declared.writing.Output.{Output}
use Rattle.or_command.specs.Leaves.{NoFault, FaultOf}

-- a name, and the text that it is to hold
pub record File : Type 0 where
  pub name : List ℕ
  pub text : List ℕ

abbrev pub file_of : Output → File
file_of output = record { name = output.name.now; text = output.text.now }

abbrev pub files_of : List Output → List File
files_of outputs = map file_of outputs

-- the file holds its text, where that is told
abbrev pub Holds : HostState → File → Type 0
Holds state file = IfSome (state.holds file.name) (λ content. content ≡ Some file.text)

abbrev pub AllHold : HostState → List File → Type 0
AllHold state [] = ⊤
AllHold state (file ∷ files) = Holds state file × AllHold state files

-- none of the files has this name
abbrev pub IsOther : List ℕ → List File → Type 0
IsOther name [] = ⊤
IsOther name (file ∷ files) = (name ≢ file.name) × IsOther name files

-- names that a host takes, each of them once
abbrev pub AreFiles : List File → Type 0
AreFiles [] = ⊤
AreFiles (file ∷ files) = IsName file.name × IsOther file.name files × AreFiles files

-- a file is there, with a prefix of the text
abbrev pub HoldsPrefix : List ℕ → Content → Type 0
HoldsPrefix text None = ⊥
HoldsPrefix text (Some held) = IsPrefix held text

-- a file is as before, as where its create failed, or holds a prefix of the text
abbrev pub PartWritten : List ℕ → Option Content → Option Content → Type 0
PartWritten text old new = TellsSame old new ⊎ IfSome new (HoldsPrefix text)

-- one file is written, and every other is as before
pub record FileWritten (name text : List ℕ) (old new : HostState) : Type 0 where
  pub file : IfSome (new.holds name) (λ content. content ≡ Some text)
  pub others : (other : List ℕ) → other ≢ name → TellsSame (old.holds other) (new.holds other)
  pub written : TellsSame old.written new.written
  pub no_fault : NoFault old new

-- the write of one file failed, and every other is as before
pub record FileStopped (name text : List ℕ) (old new : HostState) : Type 0 where
  pub file : PartWritten text (old.holds name) (new.holds name)
  pub others : (other : List ℕ) → other ≢ name → TellsSame (old.holds other) (new.holds other)
  pub written : TellsSame old.written new.written
  pub cause : FaultOf Write name old new

-- all files are written, and everything else is as before
pub record FilesWritten (files : List File) (old new : HostState) : Type 0 where
  pub whole : AllHold new files
  pub others : (name : List ℕ) → IsOther name files → TellsSame (old.holds name) (new.holds name)
  pub written : TellsSame old.written new.written
  pub no_fault : NoFault old new

-- The write of a file of this name failed: the files before it are whole, it is as before or holds a prefix of its text,
-- and all others are as before, those behind it among them.
pub record FilesStopped (files : List File) (name : List ℕ) (old new : HostState) : Type 0 where
  pub front : List File
  pub failed : File
  pub rest : List File
  pub order : files ≡ front ++ failed ∷ rest
  pub named : name ≡ failed.name
  pub whole : AllHold new front
  pub part : PartWritten failed.text (old.holds failed.name) (new.holds failed.name)
  pub others : (other : List ℕ) → IsOther other front → other ≢ failed.name → TellsSame (old.holds other) (new.holds other)
  pub written : TellsSame old.written new.written
  pub cause : FaultOf Write failed.name old new

-- all files are written, and behind them the console went out
pub record AllWritten (files : List File) (console : List ℕ) (old new : HostState) : Type 0 where
  pub whole : AllHold new files
  pub others : (name : List ℕ) → IsOther name files → TellsSame (old.holds name) (new.holds name)
  pub written : TellsStep (Adds console) old.written new.written
  pub no_fault : NoFault old new

-- all files are written, and behind them a prefix of the console went out
pub record OutStopped (files : List File) (console : List ℕ) (old new : HostState) : Type 0 where
  pub whole : AllHold new files
  pub others : (name : List ℕ) → IsOther name files → TellsSame (old.holds name) (new.holds name)
  pub written : TellsStep (AddsPrefix console) old.written new.written
  pub cause : FaultOf Write dash old new

-- a write of this name failed: that of a file, or, for `-`, that of the console
abbrev pub WriteStopped : List File → List ℕ → List ℕ → HostState → HostState → Type 0
WriteStopped files console name old new = FilesStopped files name old new ⊎ ((name ≡ dash) × OutStopped files console old new)
