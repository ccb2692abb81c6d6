-- What a host that never fails holds.
use Rattle.std.specs.Prelude.{◌≡◌, ◌≢◌, ℕ, List, Option, Some, None}
use Rattle.std.specs.Option.{option_map}
use Rattle.std.specs.Str.{bytes_eq}
use Rattle.or_host.specs.declared.sure.SureHost.{SureHost}
use Rattle.or_host.specs.HostState.{HostState}
use Rattle.or_host.specs.Given.{given}

-- the bytes of a file that was given and not written since
abbrev pub sure_files : SureHost → List ℕ → Option (List ℕ)
sure_files host name = given host.files.items name

-- what contracts see of it as a host: it tells what the files that it has hold
abbrev pub sure_state : SureHost → HostState
sure_state host = record {
  holds = λ name. option_map Some (given host.files.items name);
  pairs = λ one other. Some (bytes_eq one other);
  written = None;
  said = None;
  faults = 0;
  say_faults = 0;
  lacks = host.lacks;
  blame = None;
}

-- all files are as before
abbrev pub Keeps : SureHost → SureHost → Type 0
Keeps old new = (name : List ℕ) → sure_files new name ≡ sure_files old name

-- this name is forgotten, and all other files are as before
pub record Forgets (name : List ℕ) (old new : SureHost) : Type 0 where
  pub own : sure_files new name ≡ None
  pub others : (other : List ℕ) → other ≢ name → sure_files new other ≡ sure_files old other
