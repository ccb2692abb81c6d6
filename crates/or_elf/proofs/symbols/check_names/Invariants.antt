use Rattle.std.proofs.Common.{◌≡◌, length}
use Rattle.or_elf.specs.Symbols.{names_fault}
use Rattle.or_elf.proofs.symbols.check_names.Given as goal

abbrev pub invariant-loop-function : goal.invariant-loop-function
invariant-loop-function l = names_fault l.names l.rest ≡ names_fault l.names l.functions

abbrev pub decreases-loop-function : goal.decreases-loop-function
decreases-loop-function l = length l.rest
