-- What is read of a file.
use Rattle.std.specs.Prelude.{List}
use Rattle.or_elf.specs.declared.segment.Segment.{Segment}

pub record Segments : Type 0 where
  pub segments : List Segment
