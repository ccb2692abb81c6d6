-- How far a text has come to standard output, piece by piece.
use Rattle.std.specs.Prelude.{◌≡◌, ℕ, List, ◌++◌, Result, Ok, Err}
use Rattle.or_host.specs.declared.host.Operation.TheVariants.{Write}
use Rattle.or_host.specs.Bytes.{Adds, AddsPrefix}
use Rattle.or_host.specs.Told.{TellsSame, TellsStep}
use Rattle.or_host.specs.HostState.{HostState}
use Rattle.or_host.specs.Calls.{dash}
use Rattle.or_command.specs.Leaves.{NoFault, FaultOf}
use Rattle.or_command.specs.declared.pieces.PieceStop.{PieceStop}
use Rattle.or_command.specs.declared.pieces.PieceStop.TheVariants.{Unwritten, NoMemory}

-- the text was written
pub record Wrote (text : List ℕ) (old new : HostState) : Type 0 where
  pub names : (name : List ℕ) → TellsSame (old.holds name) (new.holds name)
  pub written : TellsStep (Adds text) old.written new.written
  pub no_fault : NoFault old new

-- a prefix of it was written, and then a write failed, or memory ran out
pub record WroteUntilFault (text : List ℕ) (old new : HostState) : Type 0 where
  pub names : (name : List ℕ) → TellsSame (old.holds name) (new.holds name)
  pub written : TellsStep (AddsPrefix text) old.written new.written
  pub cause : FaultOf Write dash old new

pub record WroteUntilLack (text : List ℕ) (old new : HostState) : Type 0 where
  pub names : (name : List ℕ) → TellsSame (old.holds name) (new.holds name)
  pub written : TellsStep (AddsPrefix text) old.written new.written
  pub no_fault : NoFault old new

abbrev pub StopsWriting : PieceStop → List ℕ → HostState → HostState → Type 0
StopsWriting Unwritten text old new = WroteUntilFault text old new
StopsWriting NoMemory text old new = WroteUntilLack text old new

-- the text was written, or a prefix of it until it stopped
abbrev pub WritesOut : {U : Type 0} → Result U PieceStop → List ℕ → HostState → HostState → Type 0
WritesOut (Ok _) text old new = Wrote text old new
WritesOut (Err stop) text old new = StopsWriting stop text old new

-- part of a text was written, and this rest of it not yet
pub record SoFar (rest whole : List ℕ) (old now : HostState) : Type 0 where
  pub text : List ℕ
  pub parts : whole ≡ text ++ rest
  pub wrote : Wrote text old now
