use Rattle.std.proofs.Common.{◌≡◌, take}
use Rattle.or_elf.specs.Symbols.{with_names}
use Rattle.or_elf.proofs.symbols.named.Given as goal

-- those among the symbols so far
abbrev pub invariant-loop-symbol : goal.invariant-loop-symbol
invariant-loop-symbol l = l.named.items ≡ with_names l.names (take l.symbol-index l.symbols)
