-- What the command `asm` loads, checks and writes.
use Rattle.std.specs.Prelude.{◌≡◌, ℕ, Bool, true, false, List, [], ◌∷◌, Option, Some, None, Result, Ok, Err, ⊤}
use Rattle.or_words.specs.declared.limits.TheConstants.{SOURCE_LIMIT}
use Rattle.or_asm_read.specs.Faults.{number_of_fault}
use Rattle.or_asm.specs.Source.{SourceFault, source_of}
use Rattle.or_asm.specs.First.{all_labels}
use Rattle.or_asm.specs.Symbols.{symbols_of}
use Rattle.or_asm.specs.Sentences.{source_sentence}
use Rattle.or_elf.specs.Text.{Piece, elf_text}
use Rattle.or_elf.specs.LabelText.{labelled_text}
use Rattle.or_host.specs.HostState.{HostState}
use Rattle.or_command.specs.Loads.{Load}
use Rattle.or_command.specs.Writes.{File}
use Rattle.or_command.specs.Lines.{source_line}
use Rattle.or_command.specs.Ends.{FailedCheck}
use Rattle.or_command.specs.Outcomes.{LacksMemory}

abbrev pub asm_loads : List ℕ → List Load
asm_loads source = record { name = source; limit = SOURCE_LIMIT } ∷ []

-- What it leaves where memory ran out: the load found none, or the source was read. The assembler asks for memory before it
-- has seen all lines, so no check need have passed.
abbrev pub AsmLacks : List ℕ → HostState → HostState → Type 0
AsmLacks source = LacksMemory (asm_loads source) (λ files. ⊤)

-- the one file that was loaded
abbrev pub only_file : List (List ℕ) → List ℕ
only_file [] = []
only_file (file ∷ others) = file

-- what is told of the least fault of a source's first faulty line
abbrev pub source_told : List ℕ → SourceFault → FailedCheck
source_told name refusal =
    record { status = 9; line = source_line name (number_of_fault refusal.fault) refusal.line; sentence = source_sentence refusal }

-- the check of a source
abbrev pub source_check : List ℕ → Result (List Piece) SourceFault → Option FailedCheck
source_check name (Ok program) = None
source_check name (Err refusal) = Some (source_told name refusal)

abbrev pub asm_check : List ℕ → List (List ℕ) → Option FailedCheck
asm_check source files = source_check source (source_of (only_file files))

-- the file of a source's program, with a symbol for each label or without symbols
abbrev pub file_text : Bool → List ℕ → List Piece → List ℕ
file_text false source program = elf_text program
file_text true source program = labelled_text program (symbols_of (all_labels source) program)

-- the file of the program that a source says
pub record IsFileOf (symbols : Bool) (source file : List ℕ) : Type 0 where
  pub program : List Piece
  pub said : source_of source ≡ Ok program
  pub text : file ≡ file_text symbols source program

-- the image is written, and nothing goes to standard output
pub record AsmWrites (image : List ℕ) (symbols : Bool) (files : List (List ℕ)) (outs : List File) (console : List ℕ) : Type 0 where
  pub file : List ℕ
  pub is_file : IsFileOf symbols (only_file files) file
  pub outputs : outs ≡ record { name = image; text = file } ∷ []
  pub silent : console ≡ []
