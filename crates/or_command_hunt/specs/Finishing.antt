-- How a hunt ends before its line is said.
use Rattle.std.specs.Prelude.{◌≡◌, ℕ, List, None}
use Rattle.or_host.specs.HostState.{HostState}
use Rattle.or_command_line.specs.declared.HuntOptions.{HuntOptions}
use Rattle.or_command_line.specs.Names.{Names}
use Rattle.or_command.specs.Leaves.{Silent}
use Rattle.or_command.specs.Ends.{CommandEnd}
use Rattle.or_command.specs.Outcomes.{OutcomeBy}
use Rattle.or_command.specs.Finishing.{EndsAfterLoad, IfNoMemory}
use Rattle.or_replay.specs.Start.{start}
use Rattle.or_hunt.specs.Failing.{IsLeastFailing}
use Rattle.or_command_image.specs.Opened.{head_of}
use Rattle.or_command_hunt.specs.Hunt.{hunt_loads, hunt_image_check, HuntVerdict, HuntWrites, HuntLacks, IsHunted}
use Rattle.or_command_hunt.specs.Tries.{IsHeard}

-- the texts of the least seed of the range that fails
pub record IsFound (names : Names) (options : HuntOptions) (image input recording report text : List ℕ) : Type 0 where
  pub seed : ℕ
  pub least : IsLeastFailing (start options.config image input) options.seed options.tries seed
  pub hunted : IsHunted names (start options.config image input) (head_of options.config image input) options.seed seed recording report text

-- with the files that were loaded
pub record HuntGoesOn (names : Names) (options : HuntOptions) (files : List (List ℕ)) (end : CommandEnd) (old new : HostState) : Type 0 where
  pub heard : HostState
  pub tries : IsHeard options.tries old heard
  pub ends : EndsAfterLoad (HuntVerdict names options) (HuntWrites names options) files end heard new
  pub passed : IfNoMemory end (hunt_image_check names options files ≡ None)
  pub silent : Silent heard new

-- the whole command
pub record HuntEnds (names : Names) (options : HuntOptions) (end : CommandEnd) (old new : HostState) : Type 0 where
  pub heard : HostState
  pub tries : IsHeard options.tries old heard
  pub outcome : OutcomeBy (hunt_loads names) (HuntVerdict names options) (HuntWrites names options) (HuntLacks names options) end heard new
  pub silent : Silent heard new
