-- What the command `dis` loads, checks and writes: the words of an image's segments, as instructions.
use Rattle.std.specs.Prelude.{◌≡◌, ◌⊎◌, ℕ, ◌+◌, ◌-◌, ◌%◌, List, [], ◌∷◌, ◌++◌, take, drop, codes, Option, Some, None}
use Rattle.std.specs.List.{flat_map}
use Rattle.or_words.specs.declared.limits.TheConstants.{IMAGE_LIMIT, MOST_RAM_BYTES}
use Rattle.byteorder.specs.Endian.{big_number}
use Rattle.or_text.specs.Hexadecimal.{word_text}
use Rattle.or_isa.specs.declared.Insn.{Insn}
use Rattle.or_isa.specs.Decode.{decode_of}
use Rattle.or_asm_text.specs.Texts.{text_of}
use Rattle.or_elf.specs.declared.segment.Segment.{Segment}
use Rattle.or_elf.specs.declared.fault.ElfFault.{ElfFault}
use Rattle.or_elf.specs.Header.{segments}
use Rattle.or_elf.specs.Fault.{elf_fault, number_of, place_of}
use Rattle.or_elf.specs.Sentences.{elf_sentence}
use Rattle.or_host.specs.HostState.{HostState}
use Rattle.or_host.specs.Told.{TellsSame, TellsStep}
use Rattle.or_host.specs.Counts.{Rose}
use Rattle.or_host.specs.Bytes.{AddsPrefix}
use Rattle.or_command.specs.Leaves.{NoFault}
use Rattle.or_command.specs.Loads.{Load, AreRead}
use Rattle.or_command.specs.Writes.{File}
use Rattle.or_command.specs.Lines.{image_line}
use Rattle.or_command.specs.Ends.{FailedCheck}
use Rattle.or_command_source.specs.Assembly.{only_file}

-- the text of a word that stands at an address: its instruction, or the word itself where it is none
abbrev pub insn_text : ℕ → ℕ → Option Insn → List ℕ
insn_text place word None = codes ".word 0x" ++ word_text word
insn_text place word (Some insn) = text_of place insn

-- the address, the word and its text
unfoldable pub word_line : ℕ → ℕ → List ℕ
word_line place word = word_text place ++ codes " " ++ word_text word ++ codes " " ++ insn_text place word (decode_of word) ++ codes "\n"

-- a line for each word, the first at this address; a rest of fewer than four bytes has none
abbrev pub word_lines : ℕ → List ℕ → List ℕ
word_lines place (a ∷ b ∷ c ∷ d ∷ rest) = word_line place (big_number 4 (a ∷ b ∷ c ∷ d ∷ [])) ++ word_lines (place + 4) rest
word_lines place _ = []

-- how many bytes stand before the first multiple of four
abbrev pub bytes_before : ℕ → ℕ
bytes_before place = (4 - place % 4) % 4

-- a segment's words of the file, from its first address that is a multiple of four
unfoldable pub segment_lines : List ℕ → Segment → List ℕ
segment_lines bytes segment =
    let skipped = bytes_before segment.paddr in
    word_lines (segment.paddr + skipped) (drop skipped (take segment.filesz (drop segment.offset bytes)))

-- the text of an image: its segments in the order of their headers
unfoldable pub listing : List ℕ → List ℕ
listing bytes = flat_map (segment_lines bytes) (segments bytes)

abbrev pub dis_loads : List ℕ → List Load
dis_loads image = record { name = image; limit = IMAGE_LIMIT } ∷ []

abbrev pub fault_told : List ℕ → ElfFault → FailedCheck
fault_told name fault = record { status = 3; line = image_line name (number_of fault) (place_of fault); sentence = elf_sentence fault }

abbrev pub fault_check : List ℕ → Option ElfFault → Option FailedCheck
fault_check name None = None
fault_check name (Some fault) = Some (fault_told name fault)

-- the image has no fault for 256 MiB of RAM
abbrev pub dis_check : List ℕ → List (List ℕ) → Option FailedCheck
dis_check image files = fault_check image (elf_fault (only_file files) MOST_RAM_BYTES)

-- no file is written, and the listing goes to standard output
pub record DisWrites (files : List (List ℕ)) (outs : List File) (console : List ℕ) : Type 0 where
  pub none : outs ≡ []
  pub listed : console ≡ listing (only_file files)

-- this is the listing of an image that was loaded and has no fault
pub record IsListed (image text : List ℕ) (new : HostState) : Type 0 where
  pub files : List (List ℕ)
  pub read : AreRead (dis_loads image) files new
  pub sound : dis_check image files ≡ None
  pub listed : text ≡ listing (only_file files)

-- why memory ran out: a load found none, which the host has counted, or the listing was begun
abbrev pub HasListed : List ℕ → List ℕ → HostState → HostState → Type 0
HasListed image text old new = ((text ≡ []) × Rose old.lacks new.lacks) ⊎ IsListed image text new

-- Where memory runs out, a prefix of the listing may have been written.
pub record DisLacks (image : List ℕ) (old new : HostState) : Type 0 where
  pub names : (name : List ℕ) → TellsSame (old.holds name) (new.holds name)
  pub no_fault : NoFault old new
  pub text : List ℕ
  pub of_image : HasListed image text old new
  pub written : TellsStep (AddsPrefix text) old.written new.written
