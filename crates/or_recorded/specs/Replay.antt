-- What the command `replay` writes: the report of a recorded run, and its console.
use Rattle.std.specs.Prelude.{◌≡◌, ℕ, List, Option, Some, None, length}
use Rattle.or_parts.specs.Devices.{console_of}
use Rattle.or_model.specs.Turn.{Board, replay}
use Rattle.or_replay.specs.Report.{report_text}
use Rattle.or_command_image.specs.Written.{made_for}
use Rattle.or_recorded.specs.declared.refused.OwnFault.{OwnFault}
use Rattle.or_recorded.specs.Command.{Run, start_of}

-- it has no check of its own
abbrev pub replay_fault : Run → Option OwnFault
replay_fault run = None

-- the report, where it has a name, and the console of the board at the end of the run
pub record IsReplayed (name : List ℕ) (run : Run) (report console : List ℕ) : Type 0 where
  pub last : Board
  pub reached : replay (start_of run) run.turns ≡ Some last
  pub reported : report ≡ made_for name (report_text last (length run.turns))
  pub shown : console ≡ console_of last.world.devices
