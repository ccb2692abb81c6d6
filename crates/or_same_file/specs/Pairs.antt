-- Names of a command that lead to one file.
use Rattle.std.specs.Prelude.{◌≡◌, ◌⊎◌, ℕ, List, [], ◌∷◌, ◌++◌, map, Bool, true, false, ◌||◌, if◌then◌else◌, Option, Some, IfSome, ⊤}
use Rattle.std.specs.Str.{bytes_eq}
use Rattle.or_text.specs.Sentences.{sentence_line}
use Rattle.or_host.specs.Calls.{dash}
use Rattle.or_host.specs.HostState.{HostState}
use Rattle.or_command.specs.Lines.{same_file_line}
use Rattle.or_command.specs.Sentences.{same_file_sentence}
use Rattle.or_command.specs.Said.{SaidLine, OnlySays}
use Rattle.or_command_line.specs.Names.{Names}
use Rattle.or_command_line.specs.Command.{CommandModel}
use Rattle.or_command_line.specs.Command.CommandModel.{run, hunt, replay, asm}
use Rattle.or_same_file.specs.declared.Pair.{Pair as PairOfWords}

-- a name of a file that a command reads or writes
pub record Name : Type 0 where
  pub name : List ℕ
  pub is_written : Bool

abbrev pub reads : List ℕ → Name
reads name = record { name = name; is_written = false }

abbrev pub writes : List ℕ → Name
writes name = record { name = name; is_written = true }

abbrev pub names_of_run : Names → List Name
names_of_run names = reads names.image ∷ reads names.input ∷ writes names.schedule ∷ writes names.report ∷ []

-- the names of a command that writes a file, in the order of its words, where it gives more than one
abbrev pub names_of : CommandModel → List Name
names_of (run names options) = names_of_run names
names_of (hunt names options) = names_of_run names
names_of (replay files report) = reads files.image ∷ reads files.input ∷ reads files.schedule ∷ writes report ∷ []
names_of (asm source image symbols) = reads source ∷ writes image ∷ []
names_of _ = []

-- two names, in the order of the words
pub record Pair : Type 0 where
  pub one : List ℕ
  pub other : List ℕ

abbrev pub pair_of : PairOfWords → Pair
pair_of pair = record { one = pair.one.now; other = pair.other.now }

-- The pairs of each written name with its others, in order. `read` are the names before the next one that are read; its pairs with
-- those that are written have come already.
abbrev pub pairs_behind : List Name → List Name → List Pair
pairs_behind read [] = []
pairs_behind read (name ∷ names) =
    if name.is_written then
    map (λ other. record { one = other.name; other = name.name }) read ++ map (λ other. record { one = name.name; other = other.name }) names
    ++ pairs_behind read names
    else pairs_behind (read ++ name ∷ []) names

abbrev pub pairs_of : CommandModel → List Pair
pairs_of command = pairs_behind [] (names_of command)

-- whether the names of a pair lead to one file, where the host tells it; `-` leads to none
abbrev pub told : HostState → Pair → Option Bool
told state pair = if bytes_eq pair.one dash || bytes_eq pair.other dash then Some false else state.pairs pair.one pair.other

abbrev pub IsSame : HostState → Pair → Type 0
IsSame state pair = IfSome (told state pair) (λ same. same ≡ true)

abbrev pub IsApart : HostState → Pair → Type 0
IsApart state pair = IfSome (told state pair) (λ same. same ≡ false)

-- no two names lead to one file
abbrev pub AreApart : HostState → List Pair → Type 0
AreApart state [] = ⊤
AreApart state (pair ∷ pairs) = IsApart state pair × AreApart state pairs

-- this is the first pair whose names lead to one file
abbrev pub IsFirst : HostState → Pair → List Pair → Type 0
IsFirst state found [] = ⊥
IsFirst state found (pair ∷ pairs) = ((found ≡ pair) × IsSame state pair) ⊎ (IsApart state pair × IsFirst state found pairs)

-- what is said of such a pair
abbrev pub same_file_lines : Pair → List ℕ
same_file_lines pair = same_file_line pair.one pair.other ++ sentence_line same_file_sentence

-- a command ends before its first load, since two of its names lead to one file: that is said, and nothing else happens
pub record EndsSame (command : CommandModel) (status : ℕ) (old new : HostState) : Type 0 where
  pub pair : Pair
  pub first : IsFirst old pair (pairs_of command)
  pub status_is : status ≡ 16
  pub said : SaidLine (same_file_lines pair) old new
  pub only : OnlySays old new
