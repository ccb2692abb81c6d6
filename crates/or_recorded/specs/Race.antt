-- What the command `race` checks and writes.
use Rattle.std.specs.Prelude.{ℕ, Bool, List, Option, Some, None, if◌then◌else◌}
use Rattle.or_elf.specs.Symbols.{SymbolTable, symbols_of}
use Rattle.or_race.specs.Text.{RaceText}
use Rattle.or_recorded.specs.declared.refused.OwnFault.{OwnFault}
use Rattle.or_recorded.specs.Refused.{symbols_fault}
use Rattle.or_recorded.specs.Command.{Run, start_of}
use Rattle.or_recorded.specs.Events.{events_of}

-- the symbols of an image by which a report tells places, where that is asked for
abbrev pub symbols_for : Bool → List ℕ → Option SymbolTable
symbols_for places image = if places then Some (symbols_of image) else None

-- the fault of these symbols, or none
abbrev pub fault_for : Bool → List ℕ → Option OwnFault
fault_for places image = if places then symbols_fault image else None

-- the check of its own that a race report on a run fails, or none
abbrev pub race_fault : Bool → Run → Option OwnFault
race_fault places run = fault_for places run.files.image

-- the race report on a recorded run, with or without locks, and with or without the places of the accesses
abbrev pub MakesRaces : Bool → Bool → Run → List ℕ → List ℕ → Type 0
MakesRaces locks places run report console = RaceText locks (symbols_for places run.files.image) (events_of (start_of run) run.turns) console
