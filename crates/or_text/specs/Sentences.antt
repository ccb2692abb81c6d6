-- Sentences with values in them.
use Rattle.std.specs.Prelude.{ℕ, ◌/◌, ◌%◌, ◌^◌, ◌++◌, nat_lt, if◌then◌else◌, List, [], codes, decimal}
use Rattle.or_text.specs.declared.sentence.Part.{Part}
use Rattle.or_text.specs.declared.sentence.Part.TheVariants.{Text, Number, Range, Address}
use Rattle.or_text.specs.declared.sentence.Clause.{Clause}
use Rattle.or_text.specs.declared.sentence.Sentence.{Sentence}
use Rattle.or_text.specs.Hexadecimal.{word_text}

-- an address as eight digits, behind what exceeds 32 bits
abbrev pub address_text : ℕ → List ℕ
address_text n = (if nat_lt n (2 ^ 32) then [] else decimal (n / 2 ^ 32)) ++ word_text (n % 2 ^ 32)

abbrev pub range_text : ℕ → ℕ → List ℕ
range_text low high = decimal low ++ codes " to " ++ decimal high

abbrev pub part_text : Part → List ℕ
part_text (Text text) = text.now
part_text (Number n) = decimal n
part_text (Range low high) = range_text low high
part_text (Address n) = address_text n

abbrev pub clause_text : Clause → List ℕ
clause_text clause = part_text clause.value ++ clause.words.now

unfoldable pub sentence_text : Sentence → List ℕ
sentence_text sentence =
    sentence.words.now ++ clause_text sentence.first ++ clause_text sentence.second ++ clause_text sentence.third ++ clause_text sentence.fourth

-- a sentence as the second line of a message: behind two blanks
abbrev pub sentence_line : List ℕ → List ℕ
sentence_line text = codes "  " ++ text ++ codes "\n"
