-- RAM after a file is placed in it.
use Rattle.std.specs.Prelude.{ℕ, ◌+◌, ◌-◌, List, ◌++◌, take, drop, replicate}
use Rattle.std.specs.List.{fold}
use Rattle.or_elf.specs.declared.segment.Segment.{Segment}
use Rattle.or_elf.specs.Header.{segments}

-- the file's bytes at the segment's address, then zeros up to its size in memory, over what stood there
abbrev pub place_segment : List ℕ → List ℕ → Segment → List ℕ
place_segment bytes ram segment =
    take segment.paddr ram ++ take segment.filesz (drop segment.offset bytes)
    ++ replicate (segment.memsz - segment.filesz) 0 ++ drop (segment.paddr + segment.memsz) ram

-- RAM of so many bytes, all zero at first, after all segments are placed in order
unfoldable pub placed : List ℕ → ℕ → List ℕ
placed bytes ram = fold (place_segment bytes) (replicate ram 0) (segments bytes)
