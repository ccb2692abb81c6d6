-- The first four lines of a recording.
use Rattle.std.specs.Prelude.{◌≡◌, ◌<◌, ℕ, List, [], ◌++◌, codes, decimal, Bool, if◌then◌else◌, length, All}
use Rattle.or_words.specs.declared.Config.{Config}
use Rattle.or_sched.specs.declared.recording.Head.{Head}
use Rattle.or_text.specs.Hexadecimal.{digest_text}

-- the form of the PIC, where it latches
abbrev pub form_text : Bool → List ℕ
form_text latched = if latched then codes " pic latched" else []

-- the line of the settings
abbrev pub config_line : Config → List ℕ
config_line config =
    codes "cores " ++ decimal config.cores ++ codes " budget " ++ decimal config.budget ++ codes " ram " ++ decimal config.ram
    ++ form_text config.latched ++ codes "\n"

-- a name with its blank, and a digest
abbrev pub digest_line : List ℕ → List ℕ → List ℕ
digest_line name bytes = name ++ digest_text bytes ++ codes "\n"

abbrev pub head_text1 : Head → List ℕ
head_text1 head = codes "orsched 1\n" ++ config_line head.config ++ digest_line (codes "image ") head.image ++ digest_line (codes "input ") head.input

abbrev pub head_text2 : Head → List ℕ
head_text2 head = codes "orsched 2\n" ++ config_line head.config ++ digest_line (codes "image ") head.image ++ digest_line (codes "input ") head.input

-- a SHA-256 digest has 32 bytes
pub record IsDigest (digest : List ℕ) : Type 0 where
  pub long : length digest ≡ 32
  pub bytes : All (λ byte. byte < 256) digest
