use Rattle.std.proofs.Common.{◌≡◌, ◌++◌, ◌-◌}
use Rattle.or_elf.specs.Symbols.{symbols_among}
use Rattle.or_elf.proofs.symbols.symbols_from.Given as goal

abbrev pub invariant-loop-index : goal.invariant-loop-index
invariant-loop-index l = l.symbols.items ++ symbols_among l.kind l.bytes l.first l.index (l.count - l.index) ≡ symbols_among l.kind l.bytes l.first 0 l.count
