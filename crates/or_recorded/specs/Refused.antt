-- The status and the line of the check that a command on a recorded run finds to fail: one of the run, or one of its own.
use Rattle.std.specs.Prelude.{◌≡◌, ℕ, List, Option, Some, None}
use Rattle.std.specs.Option.{option_map}
use Rattle.or_elf.specs.declared.symbol_fault.SymFault.{SymFault}
use Rattle.or_elf.specs.declared.symbol_fault.SymFault.TheVariants.{BadSections, BadTable, BadName, NoMemory as NoMemoryForSymbols}
use Rattle.or_elf.specs.Symbols.{symbol_fault, symbol_number_of, symbol_place_of}
use Rattle.or_elf.specs.Sentences.{symbol_sentence}
use Rattle.or_script.specs.declared.fault.ScriptFault.{ScriptFault}
use Rattle.or_script.specs.declared.fault.ScriptFault.TheVariants.{BadCommand, OutOfRange, NoMemory as NoMemoryForScript}
use Rattle.or_script.specs.Sentences.{script_sentence}
use Rattle.or_sched.specs.declared.recording.RecFault.{RecFault}
use Rattle.or_sched.specs.declared.recording.RecFault.TheVariants.{BadHead, BadRun, Short, NoMemory as NoMemoryToRead}
use Rattle.or_replay.specs.declared.follow.TurnFault.{TurnFault}
use Rattle.or_replay.specs.declared.follow.TurnFault.TheVariants.{NoCore, Stopped, Running, Writes, Console}
use Rattle.or_command.specs.declared.refusal.ScheduleDetail.{ScheduleDetail}
use Rattle.or_command.specs.declared.refusal.ScheduleDetail.TheVariants as detail
use Rattle.or_command.specs.Lines.{schedule_line, symbols_line, script_line}
use Rattle.or_command.specs.Sentences.{detail_sentence}
use Rattle.or_command.specs.Ends.{FailedCheck}
use Rattle.or_command_line.specs.Names.{Recorded}
use Rattle.or_command_image.specs.Loaded.{image_told}
use Rattle.or_recorded.specs.declared.checked.RunFault.{RunFault}
use Rattle.or_recorded.specs.declared.checked.RunFault.TheVariants.{Text, NoMemoryForText, Image, Input, Elf, Turns, NoMemory as NoMemoryForRun}
use Rattle.or_recorded.specs.declared.refused.OwnFault.{OwnFault}
use Rattle.or_recorded.specs.declared.refused.OwnFault.TheVariants.{Symbols, Script, NoMemory}
use Rattle.or_recorded.specs.Files.{Names}

abbrev pub schedule_told : List ℕ → ScheduleDetail → FailedCheck
schedule_told name detail = record { status = 4; line = schedule_line name detail; sentence = detail_sentence detail }

abbrev pub schedule_check : List ℕ → ScheduleDetail → Option FailedCheck
schedule_check name detail = Some (schedule_told name detail)

abbrev pub text_check : List ℕ → RecFault → Option FailedCheck
text_check name (BadHead line) = schedule_check name (detail.Head line)
text_check name (BadRun at) = schedule_check name (detail.At at)
text_check name Short = schedule_check name detail.Short
text_check name NoMemoryToRead = None

-- a turn of a core that the board has not is no turn of a recording's text
abbrev pub turn_detail : TurnFault → ScheduleDetail
turn_detail (NoCore turn) = detail.TurnStopped turn
turn_detail (Stopped turn) = detail.TurnStopped turn
turn_detail (Running core) = detail.CoreRunning core
turn_detail (Writes turn kept found) = detail.TurnWrites turn kept found
turn_detail (Console turn kept found) = detail.TurnConsole turn kept found

-- the status and the line of a fault of the run, unless memory ran out
abbrev pub fault_check : Recorded → RunFault → Option FailedCheck
fault_check names (Text fault) = text_check names.schedule fault
fault_check names NoMemoryForText = None
fault_check names (Image digests) = schedule_check names.schedule (detail.Image digests)
fault_check names (Input digests) = schedule_check names.schedule (detail.Input digests)
fault_check names (Elf fault) = Some (image_told names.image fault)
fault_check names (Turns fault) = schedule_check names.schedule (turn_detail fault)
fault_check names NoMemoryForRun = None

abbrev pub fault_told : List ℕ → SymFault → FailedCheck
fault_told name fault = record { status = 12; line = symbols_line name (symbol_number_of fault) (symbol_place_of fault); sentence = symbol_sentence fault }

-- a fault of the image's symbols
abbrev pub symbols_check : List ℕ → SymFault → Option FailedCheck
symbols_check name (BadSections field) = Some (fault_told name (BadSections field))
symbols_check name (BadTable index) = Some (fault_told name (BadTable index))
symbols_check name (BadName index) = Some (fault_told name (BadName index))
symbols_check name NoMemoryForSymbols = None

abbrev pub script_told : List ℕ → ℕ → ℕ → ScriptFault → FailedCheck
script_told name number line fault = record { status = 10; line = script_line name number line; sentence = script_sentence fault }

-- a fault of a script
abbrev pub script_check : List ℕ → ScriptFault → Option FailedCheck
script_check name (BadCommand line) = Some (script_told name 1 line (BadCommand line))
script_check name (OutOfRange line) = Some (script_told name 2 line (OutOfRange line))
script_check name NoMemoryForScript = None

abbrev pub named_script_check : Option (List ℕ) → ScriptFault → Option FailedCheck
named_script_check None fault = None
named_script_check (Some name) fault = script_check name fault

-- the status and the line of a check of the command's own, unless memory ran out
abbrev pub own_check : Names → OwnFault → Option FailedCheck
own_check names (Symbols fault) = symbols_check names.run.image fault
own_check names (Script fault) = named_script_check names.script fault
own_check names NoMemory = None

-- this is the check that fails, or memory ran out
abbrev pub Fails : OwnFault → Option OwnFault → Type 0
Fails NoMemory found = Unit {0}
Fails (Symbols fault) found = found ≡ Some (Symbols fault)
Fails (Script fault) found = found ≡ Some (Script fault)

-- a fault of a script as it is found, or a want of memory
abbrev pub own_of_script : ScriptFault → OwnFault
own_of_script (BadCommand line) = Script (BadCommand line)
own_of_script (OutOfRange line) = Script (OutOfRange line)
own_of_script NoMemoryForScript = NoMemory

-- the fault of an image's symbols, or none
abbrev pub symbols_fault : List ℕ → Option OwnFault
symbols_fault image = option_map Symbols (symbol_fault image)
