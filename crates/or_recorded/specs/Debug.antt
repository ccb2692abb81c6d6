-- What the command `debug` checks and writes.
use Rattle.std.specs.Prelude.{◌≡◌, ℕ, List, Option}
use Rattle.std.specs.Option.{option_map}
use Rattle.or_script.specs.Script.{script_of, fault_of}
use Rattle.or_debug.specs.Session.{session_text}
use Rattle.or_recorded.specs.declared.refused.OwnFault.{OwnFault}
use Rattle.or_recorded.specs.declared.refused.OwnFault.TheVariants.{Script}
use Rattle.or_recorded.specs.Command.{Run, start_of}

-- the fault of the script, for the recorded settings, or none
abbrev pub debug_fault : Run → Option OwnFault
debug_fault run = option_map Script (fault_of (script_of run.head.config run.files.script))

-- the text of the script's session on the run
abbrev pub MakesSession : Run → List ℕ → List ℕ → Type 0
MakesSession run report console = console ≡ session_text run.head.config (start_of run) run.turns run.files.script
