use Rattle.std.proofs.Common.{take}
use Rattle.or_sched.specs.Reading.{IsReading, Fed}
use Rattle.or_sched.proofs.reader.Reader.read_piece.Given as goal

abbrev pub invariant-loop-byte : goal.invariant-loop-byte
invariant-loop-byte l = record {
  reading : IsReading l.self.state;
  fed : Fed l.initial.self l.self (take l.byte-index l.piece) l.initial.out.items l.out.items l.initial.marks.items l.marks.items;
}
