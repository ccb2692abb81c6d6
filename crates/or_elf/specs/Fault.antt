-- Why a file is refused: the first test that fails, with its number and its place.
use Rattle.std.specs.Prelude.{ℕ, ◌+◌, ◌*◌, ◌<◌, ◌≤◌, ◌==◌, not, ◌&&◌, nat_lt, nat_le, List, [], ◌∷◌, length, slice_index, if◌then◌else◌, Option, Some, None}
use Rattle.or_words.specs.declared.limits.TheConstants.{MOST_SEGMENTS}
use Rattle.or_elf.specs.declared.fault.ElfFault.{ElfFault}
use Rattle.or_elf.specs.declared.fault.ElfFault.TheVariants.{Short, BadIdent, BadHeader, NoSegments, SegmentOutOfFile, SegmentOutOfRam, FileSizeOverMemSize}
use Rattle.or_elf.specs.declared.segment.Segment.{Segment}
use Rattle.or_elf.specs.Header.{half_at, word_at, table_start, header_count, segments}

-- the number of a fault
abbrev pub number_of : ElfFault → ℕ
number_of (Short at) = 1
number_of (BadIdent at) = 2
number_of (BadHeader field value) = 3
number_of NoSegments = 4
number_of (SegmentOutOfFile index end size) = 5
number_of (SegmentOutOfRam index end ram) = 6
number_of (FileSizeOverMemSize index filesz memsz) = 7

-- the place, the field's offset or the header's index
abbrev pub place_of : ElfFault → ℕ
place_of (Short at) = at
place_of (BadIdent at) = at
place_of (BadHeader field value) = field
place_of NoSegments = 0
place_of (SegmentOutOfFile index end size) = index
place_of (SegmentOutOfRam index end ram) = index
place_of (FileSizeOverMemSize index filesz memsz) = index

-- the first fault, or else what the next test finds
abbrev pub or_else : {F : Type 0} → Option F → Option F → Option F
or_else (Some fault) next = Some fault
or_else None next = next

-- fault 1: the ELF header has 52 bytes
abbrev pub length_fault : List ℕ → Option ElfFault
length_fault bytes = if nat_lt (length bytes) 52 then Some (Short (length bytes)) else None

-- the first byte, from this offset on, that differs from the wanted ones
abbrev pub first_difference : ℕ → List ℕ → List ℕ → Option ElfFault
first_difference at [] bytes = None
first_difference at (wanted ∷ others) bytes =
    if slice_index bytes at == wanted then first_difference (at + 1) others bytes else Some (BadIdent at)

-- fault 2: e_ident says ELF, 32 bits, big-endian, version 1
abbrev pub ident_fault : List ℕ → Option ElfFault
ident_fault bytes = first_difference 0 (0x7F ∷ 0x45 ∷ 0x4C ∷ 0x46 ∷ 1 ∷ 2 ∷ 1 ∷ []) bytes

-- the field at this offset has another value than the wanted one
abbrev pub field_fault : ℕ → ℕ → ℕ → Option ElfFault
field_fault field value wanted = if value == wanted then None else Some (BadHeader field value)

-- fault 3: e_type (executable), e_machine (OpenRISC), e_version, e_ehsize, e_phentsize, e_phnum
abbrev pub header_fault : List ℕ → Option ElfFault
header_fault bytes =
    or_else (field_fault 16 (half_at bytes 16) 2)
    (or_else (field_fault 18 (half_at bytes 18) 92)
    (or_else (field_fault 20 (word_at bytes 20) 1)
    (or_else (field_fault 40 (half_at bytes 40) 52)
    (or_else (field_fault 42 (half_at bytes 42) 32)
    (if nat_le (header_count bytes) MOST_SEGMENTS then None else Some (BadHeader 44 (header_count bytes)))))))

-- fault 1 again: the program headers, if there are any, end within the file
abbrev pub program_table_fault : List ℕ → Option ElfFault
program_table_fault bytes =
    if header_count bytes == 0 then None
    else (if nat_le (table_start bytes + 32 * header_count bytes) (length bytes) then None else Some (Short (length bytes)))

-- faults 5, 6 and 7: the first fault of a segment, in a file of so many bytes for so much RAM
abbrev pub segment_fault : ℕ → ℕ → Segment → Option ElfFault
segment_fault size ram segment =
    if not (segment.filesz == 0) && nat_lt size (segment.offset + segment.filesz) then Some (SegmentOutOfFile segment.index (segment.offset + segment.filesz) size)
    else (if nat_lt ram (segment.paddr + segment.memsz) then Some (SegmentOutOfRam segment.index (segment.paddr + segment.memsz) ram)
    else (if nat_lt segment.memsz segment.filesz then Some (FileSizeOverMemSize segment.index segment.filesz segment.memsz) else None))

abbrev pub first_segment_fault : ℕ → ℕ → List Segment → Option ElfFault
first_segment_fault size ram [] = None
first_segment_fault size ram (segment ∷ others) = or_else (segment_fault size ram segment) (first_segment_fault size ram others)

-- fault 4: there is a segment; then the faults of each, in order
abbrev pub segments_fault : ℕ → ℕ → List Segment → Option ElfFault
segments_fault size ram [] = Some NoSegments
segments_fault size ram (segment ∷ others) = first_segment_fault size ram (segment ∷ others)

-- the first fault of a file for a board with so many bytes of RAM
unfoldable pub elf_fault : List ℕ → ℕ → Option ElfFault
elf_fault bytes ram =
    or_else (length_fault bytes)
    (or_else (ident_fault bytes)
    (or_else (header_fault bytes)
    (or_else (program_table_fault bytes)
    (segments_fault (length bytes) ram (segments bytes)))))

-- the segment's bytes lie in a file of so many bytes, and its memory in so much RAM
pub record IsInside (size ram : ℕ) (segment : Segment) : Type 0 where
  pub in_file : 0 < segment.filesz → segment.offset + segment.filesz ≤ size
  pub in_ram : segment.paddr + segment.memsz ≤ ram
  pub in_memory : segment.filesz ≤ segment.memsz
