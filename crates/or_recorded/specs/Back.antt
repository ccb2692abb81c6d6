-- What the command `back` checks and writes: as `debug`, with the lines and the session of the backward debugger.
use Rattle.std.specs.Prelude.{◌≡◌, ℕ, List, Option}
use Rattle.std.specs.Option.{option_map}
use Rattle.or_back.specs.Script.{back_script_of, back_fault_of}
use Rattle.or_back.specs.Session.{back_session_text}
use Rattle.or_recorded.specs.declared.refused.OwnFault.{OwnFault}
use Rattle.or_recorded.specs.declared.refused.OwnFault.TheVariants.{Script}
use Rattle.or_recorded.specs.Command.{Run, start_of}

-- the fault of the script, for the recorded settings, or none
abbrev pub back_fault : Run → Option OwnFault
back_fault run = option_map Script (back_fault_of (back_script_of run.head.config run.files.script))

-- the text of the script's session, which goes over the run forward and back
abbrev pub MakesBackSession : Run → List ℕ → List ℕ → Type 0
MakesBackSession run report console = console ≡ back_session_text run.head.config (start_of run) run.turns run.files.script
