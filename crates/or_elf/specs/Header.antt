-- The fields of an ELF32 file, big-endian, at stated offsets of the whole list of its bytes (ELF gABI, "ELF Header"
-- and "Program Header").
use Rattle.std.specs.Prelude.{ℕ, ◌+◌, ◌*◌, ◌==◌, Bool, List, map, drop}
use Rattle.std.specs.List.{filter, range_with_len}
use Rattle.byteorder.specs.Endian.{big_number}
use Rattle.or_elf.specs.declared.segment.Segment.{Segment}

-- the number in the two bytes from an offset on
unfoldable pub half_at : List ℕ → ℕ → ℕ
half_at bytes at = big_number 2 (drop at bytes)

-- the number in the four bytes from an offset on
unfoldable pub word_at : List ℕ → ℕ → ℕ
word_at bytes at = big_number 4 (drop at bytes)

-- e_phoff: where the program headers start
abbrev pub table_start : List ℕ → ℕ
table_start bytes = word_at bytes 28

-- e_phnum: how many program headers there are
abbrev pub header_count : List ℕ → ℕ
header_count bytes = half_at bytes 44

-- where the program header with this index starts
abbrev pub header_start : List ℕ → ℕ → ℕ
header_start bytes index = table_start bytes + 32 * index

-- p_type is 1, PT_LOAD
abbrev pub is_load : List ℕ → ℕ → Bool
is_load bytes index = word_at bytes (header_start bytes index) == 1

-- what the program header with this index says
abbrev pub segment_at : List ℕ → ℕ → Segment
segment_at bytes index = let start = header_start bytes index in record {
  index = index;
  offset = word_at bytes (start + 4);
  paddr = word_at bytes (start + 12);
  filesz = word_at bytes (start + 16);
  memsz = word_at bytes (start + 20);
}

-- the segments of so many headers, from this index on
unfoldable pub segments_among : List ℕ → ℕ → ℕ → List Segment
segments_among bytes index count = map (segment_at bytes) (filter (is_load bytes) (range_with_len index count))

-- the segments of a file, in the order of its headers
unfoldable pub segments : List ℕ → List Segment
segments bytes = segments_among bytes 0 (header_count bytes)
