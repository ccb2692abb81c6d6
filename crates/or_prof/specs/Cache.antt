-- The functions of pcs that were found before.
use Rattle.std.specs.Prelude.{◌≡◌, ℕ, List, Some, length, slice_get}
use Rattle.or_elf.specs.Symbols.{SymbolTable, function_of}
use Rattle.or_prof.specs.declared.finding.Found.{Found}

-- each entry has its pc's function
pub record IsCache (symbols : SymbolTable) (found : List Found) : Type 0 where
  pub long : length found ≡ 262144
  pub right : (k : ℕ) (entry : Found) → slice_get found k ≡ Some entry → entry.function ≡ function_of symbols entry.pc
