-- The files that a command on an image, a console's input and a recording loads.
use Rattle.std.specs.Prelude.{ℕ, List, [], ◌∷◌, ◌++◌, Option, Some, None, if◌then◌else◌, slice_index_or}
use Rattle.or_words.specs.declared.limits.TheConstants.{IMAGE_LIMIT, INPUT_LIMIT, RECORDING_LIMIT}
use Rattle.or_command_line.specs.Words.{is_no_file}
use Rattle.or_command.specs.Loads.{Load}
use Rattle.or_command.specs.Lines.{image_line}
use Rattle.or_command.specs.Ends.{FailedCheck}
use Rattle.or_elf.specs.declared.fault.ElfFault.{ElfFault}
use Rattle.or_elf.specs.Fault.{number_of, place_of}
use Rattle.or_elf.specs.Sentences.{elf_sentence}

-- `-` stands for no input, and is not loaded
abbrev pub input_loads : List ℕ → List Load
input_loads name = if is_no_file name then [] else record { name = name; limit = INPUT_LIMIT } ∷ []

abbrev pub image_loads : List ℕ → List ℕ → List Load
image_loads image input = record { name = image; limit = IMAGE_LIMIT } ∷ input_loads input

-- with a recording of the run behind them
abbrev pub recorded_loads : List ℕ → List ℕ → List ℕ → List Load
recorded_loads image input recording = image_loads image input ++ record { name = recording; limit = RECORDING_LIMIT } ∷ []

-- the image's bytes among those that were loaded, and the input's, which are none where none was loaded
abbrev pub image_in : List (List ℕ) → List ℕ
image_in [] = []
image_in (image ∷ others) = image

abbrev pub input_in : List (List ℕ) → List ℕ
input_in [] = []
input_in (image ∷ []) = []
input_in (image ∷ input ∷ others) = input

-- what is told of a fault of an image
abbrev pub image_told : List ℕ → ElfFault → FailedCheck
image_told name fault = record { status = 3; line = image_line name (number_of fault) (place_of fault); sentence = elf_sentence fault }

-- the check of an image
abbrev pub image_check : List ℕ → Option ElfFault → Option FailedCheck
image_check name None = None
image_check name (Some fault) = Some (image_told name fault)

-- the file at a place among those that were loaded
abbrev pub file_at : List (List ℕ) → ℕ → List ℕ
file_at files place = slice_index_or files place []
