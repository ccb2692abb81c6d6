-- What a hunt says while it works: how many tries were made, after 1, 2, 4, 8 and so on, and after the last one.
use Rattle.std.specs.Prelude.{ℕ, zero, suc, ◌^◌, min}
use Rattle.or_host.specs.HostState.{HostState}
use Rattle.or_command.specs.Leaves.{Silent}
use Rattle.or_command.specs.Lines.{tries_line}
use Rattle.or_command.specs.Said.{OnlySays, SaidLine}

-- of so many tries those that were made when so many lines were said
abbrev pub tried : ℕ → ℕ → ℕ
tried tries zero = 0
tried tries (suc lines) = min (2 ^ lines) tries

-- the first so many lines were said, each whole or, where say's count rose, in part
abbrev pub SaidTries : ℕ → ℕ → HostState → HostState → Type 0
SaidTries tries zero old new = Silent old new
SaidTries tries (suc lines) old new = (middle : HostState) × SaidTries tries lines old middle × SaidLine (tries_line (tried tries (suc lines))) middle new

-- nothing else happened
pub record IsHeard (tries : ℕ) (old new : HostState) : Type 0 where
  pub lines : ℕ
  pub said : SaidTries tries lines old new
  pub only : OnlySays old new
