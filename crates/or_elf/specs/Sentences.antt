-- What is said to people of a fault of an image or of its symbols.
use Rattle.std.specs.Prelude.{ℕ, ◌==◌, ◌++◌, nat_le, if◌then◌else◌, List, codes, decimal}
use Rattle.or_words.specs.declared.limits.TheConstants.{MOST_RAM_BYTES}
use Rattle.or_text.specs.Sentences.{address_text}
use Rattle.or_elf.specs.declared.fault.ElfFault.{ElfFault}
use Rattle.or_elf.specs.declared.fault.ElfFault.TheVariants.{Short, BadIdent, BadHeader, NoSegments, SegmentOutOfFile, SegmentOutOfRam, FileSizeOverMemSize}
use Rattle.or_elf.specs.declared.symbol_fault.SymFault.{SymFault}
use Rattle.or_elf.specs.declared.symbol_fault.SymFault.TheVariants.{BadSections, BadTable, BadName, NoMemory}

-- of the first byte of e_ident that differs
abbrev pub ident_words : ℕ → List ℕ
ident_words at =
    if at == 4 then codes "the ELF file is not one of 32 bits" else
    if at == 5 then codes "the ELF file is not big-endian" else
    if at == 6 then codes "the version of the ELF file is not 1" else
    codes "the file is no ELF file"

-- the name of the header's field at an offset, and what its value has to be
abbrev pub field_name : ℕ → List ℕ
field_name field =
    if field == 16 then codes "e_type" else
    if field == 18 then codes "e_machine" else
    if field == 20 then codes "e_version" else
    if field == 40 then codes "e_ehsize" else
    if field == 42 then codes "e_phentsize" else
    codes "e_phnum"

abbrev pub field_wanted : ℕ → List ℕ
field_wanted field =
    if field == 16 then codes ", not 2: link an executable" else
    if field == 18 then codes ", not 92: the file is for another machine than OpenRISC" else
    if field == 20 then codes ", not 1" else
    if field == 40 then codes ", not 52" else
    if field == 42 then codes ", not 32" else
    codes ", over 64"

-- a board has at most 256 MiB of RAM, so that --ram helps a segment that ends there or below
abbrev pub ram_remedy : ℕ → List ℕ
ram_remedy end = if nat_le end MOST_RAM_BYTES then codes ": use --ram" else codes ": link it below 10000000"

abbrev pub elf_sentence : ElfFault → List ℕ
elf_sentence (Short at) = codes "the file ends at byte " ++ decimal at ++ codes ", within its headers"
elf_sentence (BadIdent at) = ident_words at
elf_sentence (BadHeader field value) = field_name field ++ codes " is " ++ decimal value ++ field_wanted field
elf_sentence NoSegments = codes "no program header is of type 1: nothing is to be loaded"
elf_sentence (SegmentOutOfFile index end size) =
    codes "segment " ++ decimal index ++ codes " ends at byte " ++ decimal end ++ codes ", the file at byte " ++ decimal size ++ codes ": is it cut off?"
elf_sentence (SegmentOutOfRam index end ram) =
    codes "segment " ++ decimal index ++ codes " ends at " ++ address_text end ++ codes ", RAM ends at " ++ address_text ram ++ ram_remedy end
elf_sentence (FileSizeOverMemSize index filesz memsz) =
    codes "segment " ++ decimal index ++ codes " has " ++ decimal filesz ++ codes " bytes in the file and " ++ decimal memsz ++ codes " in memory"

abbrev pub symbol_sentence : SymFault → List ℕ
symbol_sentence (BadSections field) =
    if field == 46 then codes "e_shentsize is not 40" else codes "the section headers do not lie within the file"
symbol_sentence (BadTable index) = codes "the symbol table in section " ++ decimal index ++ codes ", or the section of its names, is not whole"
symbol_sentence (BadName index) = codes "the name of symbol " ++ decimal index ++ codes " has no end"
symbol_sentence NoMemory = codes "the system gave no more memory"
