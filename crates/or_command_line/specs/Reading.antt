-- Words that are read one after another until one is wrong, and what is said of it.
use Rattle.std.specs.Prelude.{ℕ, List, [], ◌∷◌, ◌++◌, Bool, false, not, ◌==◌, ◌&&◌, ◌||◌, nat_le, if◌then◌else◌, Option, Some, None, Result, Ok, Err, codes}
use Rattle.std.specs.List.{list_any}
use Rattle.std.specs.Str.{bytes_eq}
use Rattle.or_text.specs.declared.sentence.Sentence.{Sentence}
use Rattle.or_text.specs.Sentences.{range_text, sentence_text}
use Rattle.or_text.specs.Numerals.{decimal_of}
use Rattle.or_command_line.specs.declared.reading.Reading.{Reading}
use Rattle.or_command_line.specs.declared.reading.Value.{Value}
use Rattle.or_command_line.specs.declared.reading.Value.TheVariants.{Number, Latched}
use Rattle.or_command_line.specs.Words.{texts, is_name, is_optional, differ}

-- the option that was read last, or none, and the words behind what was read; or what is said of the word that is wrong
abbrev pub SoFar : Type 0
SoFar = Result (List ℕ × List (List ℕ)) (List ℕ)

abbrev pub shown : Result Reading Sentence → SoFar
shown (Ok reading) = Ok (reading.last.now, texts reading.rest.now)
shown (Err why) = Err (sentence_text why)

abbrev pub is_between : ℕ → ℕ → Option ℕ → Bool
is_between low high None = false
is_between low high (Some n) = nat_le low n && nat_le n high

-- whether a word is such a value
abbrev pub fits : Value → List ℕ → Bool
fits (Number low high) word = is_between low high (decimal_of word)
fits Latched word = bytes_eq word (codes "latched")

abbrev pub begins_with_dash : List ℕ → Bool
begins_with_dash [] = false
begins_with_dash (first ∷ others) = first == 45

abbrev pub has_equals : List ℕ → Bool
has_equals word = list_any (λ byte. byte == 61) word

abbrev pub stands_twice : List ℕ → List (List ℕ) → Bool
stands_twice word [] = false
stands_twice word (first ∷ others) =
    if bytes_eq first word then list_any (λ other. bytes_eq other word) others else stands_twice word others

-- the options that set up a board
abbrev pub is_board_option : List ℕ → Bool
is_board_option word =
    bytes_eq word (codes "--cores") || (bytes_eq word (codes "--budget") || (bytes_eq word (codes "--ram") || bytes_eq word (codes "--pic")))

-- the options of a command
abbrev pub is_option : List ℕ → List ℕ → Bool
is_option verb word =
    if bytes_eq verb (codes "run") then is_board_option word || (bytes_eq word (codes "--stay") || bytes_eq word (codes "--status")) else
    if bytes_eq verb (codes "hunt") then is_board_option word || (bytes_eq word (codes "--seed") || bytes_eq word (codes "--tries")) else
    if bytes_eq verb (codes "asm") then bytes_eq word (codes "--symbols") else
    if bytes_eq verb (codes "back") then bytes_eq word (codes "--every") else
    if bytes_eq verb (codes "bench") then bytes_eq word (codes "--stay") else
    if bytes_eq verb (codes "race") then bytes_eq word (codes "--locks") || bytes_eq word (codes "--where") else
    if bytes_eq verb (codes "prof") then bytes_eq word (codes "--hot") else
    if bytes_eq verb (codes "trace") then bytes_eq word (codes "--core") || (bytes_eq word (codes "--from") || bytes_eq word (codes "--to")) else
    false

abbrev pub missing : List ℕ → List ℕ → List ℕ
missing verb name = verb ++ codes ": " ++ name ++ codes " is missing"

-- of a word that is no name of a file
abbrev pub no_name : List ℕ → List ℕ → List ℕ → List ℕ
no_name verb name [] = verb ++ codes ": " ++ name ++ codes " is an empty word"
no_name verb name (first ∷ others) =
    if first == 45 then verb ++ codes ": " ++ name ++ codes " is " ++ (first ∷ others) ++ codes ": a name does not begin with -, and options come last"
    else verb ++ codes ": " ++ name ++ codes " has over 4095 bytes"

-- of an option without its value, and of a value that does not fit
abbrev pub no_value : List ℕ → List ℕ → Value → List ℕ
no_value verb name (Number low high) = verb ++ codes ": " ++ name ++ codes ": a number from " ++ range_text low high ++ codes " must follow"
no_value verb name Latched = verb ++ codes ": " ++ name ++ codes ": latched must follow"

abbrev pub wrong_value : List ℕ → List ℕ → List ℕ → Value → List ℕ
wrong_value verb name word (Number low high) = verb ++ codes ": " ++ name ++ codes " " ++ word ++ codes ": a number from " ++ range_text low high
wrong_value verb name word Latched = verb ++ codes ": " ++ name ++ codes " " ++ word ++ codes ": latched must follow"

-- of a name that is given twice, and what it then names
abbrev pub same_name : List ℕ → List ℕ → List ℕ → List ℕ
same_name verb name both = verb ++ codes ": " ++ name ++ codes " names both " ++ both

-- of a command of the other calls
abbrev pub no_fault : List ℕ → List ℕ
no_fault verb = verb ++ codes ": this call has no such command"

-- of a word that is left behind all that was read
abbrev pub leftover : List ℕ → List (List ℕ) → List ℕ → List ℕ → List ℕ
leftover verb words last word =
    if is_option verb word then
    (if stands_twice word words then verb ++ codes ": " ++ word ++ codes " stands twice"
    else verb ++ codes ": " ++ word ++ codes " must stand before " ++ last) else
    if not (begins_with_dash word) then verb ++ codes ": " ++ word ++ codes " is a word too many" else
    if has_equals word then verb ++ codes ": " ++ word ++ codes ": the value is the next word" else
    verb ++ codes ": there is no option " ++ word

-- the name of a file
abbrev pub then_file : List ℕ → List ℕ → SoFar → SoFar
then_file verb name (Err why) = Err why
then_file verb name (Ok (last, [])) = Err (missing verb name)
then_file verb name (Ok (last, word ∷ rest)) = if is_name word then Ok (last, rest) else Err (no_name verb name word)

-- the name of a file, or `-` for none
abbrev pub then_optional : List ℕ → List ℕ → SoFar → SoFar
then_optional verb name (Err why) = Err why
then_optional verb name (Ok (last, [])) = Err (missing verb name)
then_optional verb name (Ok (last, word ∷ rest)) = if is_optional word then Ok (last, rest) else Err (no_name verb name word)

-- a value that has a place of its own
abbrev pub then_number : List ℕ → List ℕ → Value → SoFar → SoFar
then_number verb name value (Err why) = Err why
then_number verb name value (Ok (last, [])) = Err (missing verb name)
then_number verb name value (Ok (last, word ∷ rest)) = if fits value word then Ok (last, rest) else Err (wrong_value verb name word value)

abbrev pub value_of : List ℕ → List ℕ → Value → List (List ℕ) → SoFar
value_of verb name value [] = Err (no_value verb name value)
value_of verb name value (word ∷ rest) = if fits value word then Ok (name, rest) else Err (wrong_value verb name word value)

-- an option, which may be left out: with a value, and without
abbrev pub then_option : List ℕ → List ℕ → Value → SoFar → SoFar
then_option verb name value (Err why) = Err why
then_option verb name value (Ok (last, [])) = Ok (last, [])
then_option verb name value (Ok (last, word ∷ rest)) = if bytes_eq word name then value_of verb name value rest else Ok (last, word ∷ rest)

abbrev pub then_flag : List ℕ → SoFar → SoFar
then_flag name (Err why) = Err why
then_flag name (Ok (last, [])) = Ok (last, [])
then_flag name (Ok (last, word ∷ rest)) = if bytes_eq word name then Ok (name, rest) else Ok (last, word ∷ rest)

-- two names that must differ
abbrev pub then_apart : List ℕ → List ℕ → List ℕ → List ℕ → SoFar → SoFar
then_apart verb one other both (Err why) = Err why
then_apart verb one other both (Ok reading) =
    if differ one other then Ok reading else Err (same_name verb one both)

-- what is said in the end: no word may be left
abbrev pub then_end : List ℕ → List (List ℕ) → SoFar → List ℕ
then_end verb words (Err why) = why
then_end verb words (Ok (last, [])) = no_fault verb
then_end verb words (Ok (last, word ∷ rest)) = leftover verb words last word
