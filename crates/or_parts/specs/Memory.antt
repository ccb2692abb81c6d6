-- Big-endian values in a list of bytes.
use Rattle.std.specs.Prelude.{ℕ, ◌+◌, ◌-◌, ◌*◌, ◌/◌, ◌%◌, List, slice_index, slice_set}
use Rattle.or_words.specs.declared.Width.{Width}
use Rattle.or_words.specs.declared.Width.TheVariants.{Byte, Half, Word}

-- how many bytes an access has
abbrev pub bytes_of : Width → ℕ
bytes_of Byte = 1
bytes_of Half = 2
bytes_of Word = 4

-- the value at an address
abbrev pub value_at : List ℕ → ℕ → Width → ℕ
value_at bytes at Byte = slice_index bytes at
value_at bytes at Half = slice_index bytes at * 256 + slice_index bytes (at + 1)
value_at bytes at Word = ((slice_index bytes at * 256 + slice_index bytes (at + 1)) * 256 + slice_index bytes (at + 2)) * 256 + slice_index bytes (at + 3)

-- the bytes after the low bits of a word are stored at an address
abbrev pub stored : List ℕ → ℕ → Width → ℕ → List ℕ
stored bytes at Byte v = slice_set bytes at (v % 256)
stored bytes at Half v = slice_set (slice_set bytes at (v / 256 % 256)) (at + 1) (v % 256)
stored bytes at Word v = slice_set (slice_set (slice_set (slice_set bytes at (v / 16777216)) (at + 1) (v / 65536 % 256)) (at + 2) (v / 256 % 256)) (at + 3) (v % 256)

-- the address of the word that a byte lies in
abbrev pub word_address : ℕ → ℕ
word_address pa = pa - pa % 4
