use Rattle.std.proofs.Common.{◌≡◌, ◌-◌}
use Rattle.or_elf.specs.Header.{header_count}
use Rattle.or_elf.specs.Names.{segment_around}
use Rattle.or_elf.proofs.names.segment_around.Given as goal

abbrev pub invariant-loop-index : goal.invariant-loop-index
invariant-loop-index l = segment_around l.bytes l.address l.index (l.count - l.index) ≡ segment_around l.bytes l.address 0 (header_count l.bytes)
