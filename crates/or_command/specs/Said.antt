-- What is said, in pieces and as a line.
use Rattle.std.specs.Prelude.{◌≡◌, ◌⊎◌, ℕ, List, Result, Ok, Err}
use Rattle.or_host.specs.Bytes.{Adds, AddsPrefix}
use Rattle.or_host.specs.Told.{TellsStep, TellsSame}
use Rattle.or_host.specs.Counts.{Rose}
use Rattle.or_host.specs.HostState.{HostState}

-- everything but what was said and say's count is as before
pub record OnlySays (old new : HostState) : Type 0 where
  pub names : (name : List ℕ) → TellsSame (old.holds name) (new.holds name)
  pub written : TellsSame old.written new.written
  pub faults : new.faults ≡ old.faults
  pub lacks : new.lacks ≡ old.lacks
  pub blame : new.blame ≡ old.blame

-- the pieces of a line were said, or, where say's count rose, a prefix of them
abbrev pub Says : {U E : Type 0} → Result U E → List ℕ → HostState → HostState → Type 0
Says (Ok _) pieces old new = TellsStep (Adds pieces) old.said new.said × (new.say_faults ≡ old.say_faults)
Says (Err _) pieces old new = TellsStep (AddsPrefix pieces) old.said new.said × Rose old.say_faults new.say_faults

pub record Said {U E : Type 0} (result : Result U E) (pieces : List ℕ) (old new : HostState) : Type 0 where
  pub says : Says result pieces old new
  pub only : OnlySays old new

-- What was said grew by exactly these lines, or by a prefix of them where say's count rose.
abbrev pub SaidLine : List ℕ → HostState → HostState → Type 0
SaidLine line old new =
    TellsStep (Adds line) old.said new.said ⊎ (TellsStep (AddsPrefix line) old.said new.said × Rose old.say_faults new.say_faults)
