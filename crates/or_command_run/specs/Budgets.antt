-- What a run says of the cores that used up their budget: where each of them stands.
use Rattle.std.specs.Prelude.{ℕ, ◌==◌, ◌++◌, Bool, true, false, if◌then◌else◌, List, [], Option, Some, None, codes, decimal}
use Rattle.std.specs.List.{flat_map}
use Rattle.or_text.specs.Hexadecimal.{word_text}
use Rattle.or_elf.specs.declared.symbol_fault.SymFault.{SymFault}
use Rattle.or_elf.specs.Symbols.{SymbolTable, symbols_of, symbol_fault, place_text}
use Rattle.or_host.specs.HostState.{HostState}
use Rattle.or_model.specs.declared.Stop.{Stop}
use Rattle.or_model.specs.declared.Stop.TheVariants.{Exit, Budget}
use Rattle.or_model.specs.Core.{Core}
use Rattle.or_command.specs.Said.{SaidLine, OnlySays}

abbrev pub unless_faulty : SymbolTable → Option SymFault → Option SymbolTable
unless_faulty symbols None = Some symbols
unless_faulty symbols (Some fault) = None

-- the functions that an image names, unless its symbols have a fault
abbrev pub named_functions : List ℕ → Option SymbolTable
named_functions image = unless_faulty (symbols_of image) (symbol_fault image)

-- an address by the function that has it, where the functions are known
abbrev pub known_place_text : Option SymbolTable → ℕ → List ℕ
known_place_text None pc = []
known_place_text (Some symbols) pc = place_text symbols pc

abbrev pub stopped_by_budget : Option Stop → Bool
stopped_by_budget None = false
stopped_by_budget (Some Budget) = true
stopped_by_budget (Some (Exit value)) = false

abbrev pub pc_text : Option SymbolTable → ℕ → List ℕ
pc_text symbols pc = word_text pc ++ known_place_text symbols pc

-- where a core stands that used up its budget
unfoldable pub used_text : Option SymbolTable → ℕ → ℕ → ℕ → List ℕ
used_text symbols number budget pc =
    codes "or1k: core " ++ decimal number ++ codes " used its budget of " ++ decimal budget ++ codes " steps at " ++ pc_text symbols pc ++ codes "\n"

-- the line of a core; of one that has not used up its budget there is none
abbrev pub budget_line : Option SymbolTable → ℕ → Core → List ℕ
budget_line symbols budget core = if stopped_by_budget core.stop then used_text symbols core.number budget core.pc else []

-- the lines of these cores, which have run this image
unfoldable pub budget_lines : List ℕ → ℕ → List Core → List ℕ
budget_lines image budget cores = flat_map (budget_line (named_functions image) budget) cores

-- behind a command that has done all, these lines are said; nothing else happens
abbrev pub lines_behind : ℕ → List ℕ → List ℕ
lines_behind status lines = if status == 0 then lines else []

pub record AreSaidBehind (status : ℕ) (lines : List ℕ) (old new : HostState) : Type 0 where
  pub said : SaidLine (lines_behind status lines) old new
  pub only : OnlySays old new
