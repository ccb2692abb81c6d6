-- Written words are read back.
use Rattle.std.proofs.Common.{◌≡◌, ◌∙◌, ap, sym, refl, ℕ, zero, suc, ◌+◌, ◌*◌, ◌^◌, ◌<◌, List, [], ◌∷◌, ◌++◌, length, drop, get_or, arith}
use Rattle.std.proofs.lemmas.List.{drop-drop}
use Rattle.byteorder.specs.Endian.{big_bytes}
use Rattle.byteorder.specs.Numbers.{big_number-reads_back}
use Rattle.or_elf.specs.Header.{word_at}
use Rattle.or_elf.specs.Text.{words_text}

-- an offset in what stands behind another
pub word_at-add : (bytes : List ℕ) (start at : ℕ) → word_at bytes (start + at) ≡ word_at (drop start bytes) at
unfolding word_at
word_at-add bytes start at = ap (λ rest. get_or rest 0 0 * 256 ^ 3 + (get_or rest 1 0 * 256 ^ 2 + (get_or rest 2 0 * 256 ^ 1 + (get_or rest 3 0 * 256 ^ 0 + 0)))) (sym (drop-drop at start bytes))

pub length-words_text : (words : List ℕ) → length (words_text words) ≡ 4 * length words
unfolding words_text
length-words_text [] = refl
length-words_text (word ∷ words) =
    let others : length (words_text words) ≡ 4 * length words = length-words_text words in
    omega (arith, others)

pub words_text-cons : (word : ℕ) (words : List ℕ) → words_text (word ∷ words) ≡ big_bytes 4 word ++ words_text words
unfolding words_text
words_text-cons word words = refl

first_word : (word : ℕ) (rest : List ℕ) → word < 2 ^ 32 → word_at (big_bytes 4 word ++ rest) 0 ≡ word
unfolding word_at
first_word word rest small = big_number-reads_back 4 word rest small

later_word : (word at : ℕ) (rest : List ℕ) → word_at (big_bytes 4 word ++ rest) (4 + at) ≡ word_at rest at
later_word word at rest = word_at-add (big_bytes 4 word ++ rest) 4 at

-- the word with this index
pub word_at-words : (words rest : List ℕ) (index : ℕ) → index < length words → get_or words index 0 < 2 ^ 32
    → word_at (words_text words ++ rest) (4 * index) ≡ get_or words index 0
unfolding words_text
word_at-words [] rest index below small = absurd (omega arith)
word_at-words (word ∷ words) rest zero below small = first_word word (words_text words ++ rest) small
word_at-words (word ∷ words) rest (suc index) below small =
    let e : 4 * suc index ≡ 4 + 4 * index = omega arith in
    let inside : index < length words = omega arith in
    ap (word_at (words_text (word ∷ words) ++ rest)) e
    ∙ later_word word (4 * index) (words_text words ++ rest)
    ∙ word_at-words words rest index inside small
