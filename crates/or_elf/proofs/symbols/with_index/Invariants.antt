use Rattle.std.proofs.Common.{◌≡◌, ◌==◌, length}
use Rattle.std.specs.List.{find}
use Rattle.or_elf.specs.declared.symbols.Symbol.{Symbol}
use Rattle.or_elf.proofs.symbols.with_index.Given as goal

abbrev pub invariant-loop-function : goal.invariant-loop-function
invariant-loop-function l = find (λ (function : Symbol). function.index == l.index) l.rest ≡ find (λ (function : Symbol). function.index == l.index) l.functions

abbrev pub decreases-loop-function : goal.decreases-loop-function
decreases-loop-function l = length l.rest
