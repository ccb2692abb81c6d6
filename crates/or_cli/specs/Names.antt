-- What the top call says of a command whose names may lead to one file.
use Rattle.std.specs.Prelude.{◌≢◌, ◌⊎◌, ℕ}
use Rattle.or_host.specs.HostState.{HostState}
use Rattle.or_command_line.specs.Command.{CommandModel}
use Rattle.or_same_file.specs.Pairs.{AreApart, EndsSame, pairs_of}
use Rattle.or_cli.specs.Top.{CommandEnds, IsComplete}

-- no output is an input or another output, and the command is carried out; its status is another
pub record Proceeds (command : CommandModel) (status : ℕ) (old new : HostState) : Type 0 where
  pub apart : AreApart old (pairs_of command)
  pub ends : CommandEnds command status old new
  pub other : status ≢ 16

-- a command whose names lead to one file ends with status 16, and any other is carried out
abbrev pub TopEnds : CommandModel → ℕ → HostState → HostState → Type 0
TopEnds command status old new = EndsSame command status old new ⊎ Proceeds command status old new

-- that, or the file contents determine the status
abbrev pub TopDecides : CommandModel → ℕ → HostState → HostState → Type 0
TopDecides command status old new = EndsSame command status old new ⊎ IsComplete command status old new
