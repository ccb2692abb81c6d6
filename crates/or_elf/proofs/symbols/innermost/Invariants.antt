use Rattle.std.proofs.Common.{◌≡◌, length}
use Rattle.or_elf.specs.Symbols.{later_start, innermost}
use Rattle.or_elf.proofs.symbols.innermost.Given as goal

abbrev pub invariant-loop-symbol : goal.invariant-loop-symbol
invariant-loop-symbol l = later_start l.best (innermost l.rest l.address l.count) ≡ innermost l.symbols l.address l.count

abbrev pub decreases-loop-symbol : goal.decreases-loop-symbol
decreases-loop-symbol l = length l.rest
