use Rattle.std.proofs.Common.{◌≡◌, ◌-◌}
use Rattle.or_elf.specs.Names.{named_among}
use Rattle.or_elf.proofs.names.named_symbol.Given as goal

abbrev pub invariant-loop-index : goal.invariant-loop-index
invariant-loop-index l = named_among l.name l.names l.bytes l.first l.index (l.count - l.index) ≡ named_among l.name l.names l.bytes l.first 0 l.count
