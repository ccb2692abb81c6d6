-- What the command `prof` checks and writes.
use Rattle.std.specs.Prelude.{ℕ, Bool, List, Option}
use Rattle.or_elf.specs.Symbols.{symbols_of}
use Rattle.or_prof.specs.Text.{IsProfText}
use Rattle.or_recorded.specs.declared.refused.OwnFault.{OwnFault}
use Rattle.or_recorded.specs.Refused.{symbols_fault}
use Rattle.or_recorded.specs.Command.{Run, start_of}
use Rattle.or_recorded.specs.Traces.{traces}

-- the fault of the image's symbols, or none
abbrev pub prof_fault : Run → Option OwnFault
prof_fault run = symbols_fault run.files.image

-- the profile of the traces of the run's turns, with or without the pcs outside of functions
abbrev pub MakesProfile : Bool → Run → List ℕ → List ℕ → Type 0
MakesProfile hot run report console = IsProfText hot run.head.config.cores (symbols_of run.files.image) (traces (start_of run) run.turns) console
