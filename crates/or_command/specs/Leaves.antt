-- What the parts of a command leave of a host's state.
use Rattle.std.specs.Prelude.{◌≡◌, ◌≤◌, ℕ, List, Some}
use Rattle.or_host.specs.declared.host.Operation.{Operation}
use Rattle.or_host.specs.Told.{TellsSame}
use Rattle.or_host.specs.Counts.{Rose}
use Rattle.or_host.specs.Blamed.{blamed}
use Rattle.or_host.specs.HostState.{HostState}

-- no file is written or created, and nothing is written out
pub record Untouched (old new : HostState) : Type 0 where
  pub names : (name : List ℕ) → TellsSame (old.holds name) (new.holds name)
  pub written : TellsSame old.written new.written

-- no fault came, and the blame is as before
pub record NoFault (old new : HostState) : Type 0 where
  pub faults : new.faults ≡ old.faults
  pub blame : new.blame ≡ old.blame

-- the count of faults rose, and this operation with this name is to blame
pub record FaultOf (operation : Operation) (name : List ℕ) (old new : HostState) : Type 0 where
  pub rose : Rose old.faults new.faults
  pub blame : new.blame ≡ Some (blamed operation name)

-- nothing was said, and say's count did not fall
pub record Silent (old new : HostState) : Type 0 where
  pub said : TellsSame old.said new.said
  pub later : old.say_faults ≤ new.say_faults
