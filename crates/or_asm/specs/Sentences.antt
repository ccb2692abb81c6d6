-- What is said to people of a source that has no program.
use Rattle.std.specs.Prelude.{ℕ, ◌==◌, ◌++◌, nat_le, nat_lt, if◌then◌else◌, Bool, ◌&&◌, not, List, [], ◌∷◌, take, Option, Some, None, codes, decimal}
use Rattle.std.specs.List.{before_first}
use Rattle.or_asm_read.specs.declared.fault.Fault.{Fault}
use Rattle.or_asm_read.specs.declared.fault.Fault.TheVariants.{BadLine, UnknownName, OutOfRange, UnknownLabel, RepeatedLabel, Overlap}
use Rattle.or_asm_read.specs.Cuts.{is_allowed}
use Rattle.or_asm.specs.declared.fault.AsmFault.{AsmFault}
use Rattle.or_asm.specs.Source.{SourceFault, refusal_of}

abbrev pub is_printable : ℕ → Bool
is_printable b = nat_le 32 b && nat_lt b 127

-- a word as it is shown: at most 32 bytes, up to the first that is not printable
unfoldable pub shown : List ℕ → List ℕ
shown word = before_first (λ b. not (is_printable b)) (take 32 word)

abbrev pub is_dot : ℕ → Bool
is_dot b = b == 46

-- of a name, which is a directive's where a dot stands in front
abbrev pub name_words : List ℕ → List ℕ
name_words [] = codes "no instruction " ++ shown []
name_words (b ∷ bs) = if is_dot b then codes "no directive " ++ shown (b ∷ bs) else codes "no instruction " ++ shown (b ∷ bs)

-- of an operand that is missing or fits no form, and of a byte that is not allowed
abbrev pub bad_line_words : List ℕ → List ℕ
bad_line_words [] = codes "an operand is missing"
bad_line_words (b ∷ bs) = if is_allowed b then codes "bad operand " ++ shown (b ∷ bs) else codes "byte " ++ decimal b ++ codes " is not allowed"

-- of a word without room, and of an operand
abbrev pub range_words : List ℕ → List ℕ
range_words [] = codes "no room for the word: a program ends at 10000000 and has 64 pieces at most"
range_words (b ∷ bs) = shown (b ∷ bs) ++ codes " is out of range"

abbrev pub fault_words : Fault → List ℕ → List ℕ
fault_words BadLine word = bad_line_words word
fault_words UnknownName word = name_words word
fault_words OutOfRange word = range_words word
fault_words UnknownLabel word = codes "no label " ++ shown word
fault_words RepeatedLabel word = codes "an earlier line has the label " ++ shown word
fault_words Overlap word = codes "an earlier line has filled the place of " ++ shown word

abbrev pub source_sentence : SourceFault → List ℕ
source_sentence refusal = codes "line " ++ decimal refusal.line ++ codes ": " ++ fault_words refusal.fault refusal.word

abbrev pub sentence_of : Option SourceFault → List ℕ
sentence_of (Some refusal) = source_sentence refusal
sentence_of None = codes "the system gave no more memory"

abbrev pub answer_sentence : AsmFault → List ℕ
answer_sentence answer = sentence_of (refusal_of answer)
