use Rattle.std.proofs.Common.{◌≡◌, ◌++◌, ◌-◌, ◌≤◌, length}
use Rattle.or_elf.specs.Header.{segments, segments_among}
use Rattle.or_elf.proofs.reader.collect.Given as goal

abbrev pub invariant-loop-index : goal.invariant-loop-index
invariant-loop-index l = record {
  read : l.segments.items ++ segments_among l.bytes l.index (l.count - l.index) ≡ segments l.bytes;
  room : length l.segments.items ≤ l.index;
}
