-- Why a board is not opened.
use Rattle.std.specs.Prelude.{◌≡◌, ℕ, List, Some, None}
use Rattle.or_elf.specs.Fault.{elf_fault}
use Rattle.or_replay.specs.declared.opening.OpenFault.{OpenFault}
use Rattle.or_replay.specs.declared.opening.OpenFault.TheVariants.{Elf, NoMemory}

-- the image has this fault, or none and memory ran out
abbrev pub FailsToOpen : List ℕ → ℕ → OpenFault → Type 0
FailsToOpen image ram (Elf fault) = elf_fault image ram ≡ Some fault
FailsToOpen image ram NoMemory = elf_fault image ram ≡ None
