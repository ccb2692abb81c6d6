-- What contracts see of a host of named files and two writers.
use Rattle.std.specs.Prelude.{◌≡◌, ℕ, List, Option, None}
use Rattle.or_host.specs.declared.files.FileHost.{FileHost}
use Rattle.or_host.specs.Told.{Content}
use Rattle.or_host.specs.Pairs.{Pairs}
use Rattle.or_host.specs.HostState.{HostState}

-- It tells of files what they tell, and nothing of what was written out or said. `R` is the type of the files' readers.
abbrev pub files_state : {F O E R : Type 0} → (F → List ℕ → Option Content) → (F → Pairs) → FileHost F O E R → HostState
files_state holds pairs host = record {
  holds = λ name. holds host.files name;
  pairs = λ one other. pairs host.files one other;
  written = None;
  said = None;
  faults = host.faults;
  say_faults = host.say_faults;
  lacks = host.lacks;
  blame = host.blame;
}

-- nothing is written out or said
pub record KeepsWriters {F O E R : Type 0} (old new : FileHost F O E R) : Type 0 where
  pub out : new.out ≡ old.out
  pub err : new.err ≡ old.err
