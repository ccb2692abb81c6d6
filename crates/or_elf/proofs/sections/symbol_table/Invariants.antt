use Rattle.std.proofs.Common.{◌≡◌, ◌-◌}
use Rattle.or_elf.specs.Symbols.{symbol_table, table_among}
use Rattle.or_elf.proofs.sections.symbol_table.Given as goal

abbrev pub invariant-loop-index : goal.invariant-loop-index
invariant-loop-index l = table_among l.bytes l.index (l.count - l.index) ≡ symbol_table l.bytes
