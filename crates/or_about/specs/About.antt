-- What the words ask the program about itself, and what it answers.
use Rattle.std.specs.Prelude.{◌≡◌, ℕ, List, [], ◌∷◌, ◌++◌, if◌then◌else◌, codes, Option, Some, None}
use Rattle.std.specs.List.{find, flat_map}
use Rattle.std.specs.Option.{option_map}
use Rattle.std.specs.Str.{bytes_eq}
use Rattle.or_host.specs.HostState.{HostState}
use Rattle.or_command.specs.Loads.{Load}
use Rattle.or_command.specs.Writes.{File}
use Rattle.or_command.specs.Ends.{FailedCheck}
use Rattle.or_command.specs.Outcomes.{LeavesAll}
use Rattle.or_command.specs.Answered.{Answers}
use Rattle.or_about.specs.declared.Help.{Help}
use Rattle.or_about.specs.declared.Texts.{Texts}
use Rattle.or_about.specs.declared.About.{About}
use Rattle.or_about.specs.declared.About.TheVariants.{All, One, Version}

-- a command with its words, and what it does
abbrev pub usage_of : Help → List ℕ
usage_of help = codes "or1k " ++ help.name.now ++ codes " " ++ help.words.now ++ codes "\n" ++ help.text.now

-- the help of all commands
unfoldable pub all_help : Texts → List ℕ
all_help texts = texts.head.now ++ flat_map (λ (help : Help). usage_of help ++ codes "\n") texts.commands.now ++ texts.tail.now

-- the help of one, with an example
unfoldable pub one_help : Help → List ℕ
one_help help = usage_of help ++ codes "Example:\n    " ++ help.example.now ++ codes "\n"

abbrev pub help_named : List Help → List ℕ → Option Help
help_named helps name = find (λ (help : Help). bytes_eq help.name.now name) helps

-- the answer to a question
abbrev pub text_of : Texts → About → List ℕ
text_of texts All = all_help texts
text_of texts (One help) = one_help help
text_of texts Version = texts.version.now

-- the question that one word is, or a command's name and `--help`
abbrev pub asked_by_one : List ℕ → Option About
asked_by_one word = if bytes_eq word (codes "--help") then Some All else if bytes_eq word (codes "--version") then Some Version else None

abbrev pub asked_by_two : Texts → List ℕ → List ℕ → Option About
asked_by_two texts name word = if bytes_eq word (codes "--help") then option_map One (help_named texts.commands.now name) else None

-- the question that the words are, or none
abbrev pub asked_by : Texts → List (List ℕ) → Option About
asked_by texts [] = None
asked_by texts (word ∷ []) = asked_by_one word
asked_by texts (name ∷ word ∷ []) = asked_by_two texts name word
asked_by texts (first ∷ second ∷ third ∷ others) = None

abbrev pub about_loads : List Load
about_loads = []

abbrev pub about_check : List (List ℕ) → Option FailedCheck
about_check files = None

-- no file is written, and the text goes to standard output
pub record AboutWrites (text : List ℕ) (files : List (List ℕ)) (outs : List File) (console : List ℕ) : Type 0 where
  pub none : outs ≡ []
  pub told : console ≡ text

-- the text is written out, and the status says whether: 0, 6 where a write fails behind a prefix of it, or 7 without memory
abbrev pub AboutAnswers : List ℕ → ℕ → HostState → HostState → Type 0
AboutAnswers text status old new = Answers about_loads about_check (AboutWrites text) LeavesAll status old new
