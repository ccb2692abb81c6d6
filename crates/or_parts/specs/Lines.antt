-- Lines of a direct-mapped cache with 128 lines of 32 bytes: a finite map from index to line.
use Rattle.std.specs.Prelude.{ℕ, ◌+◌, ◌-◌, ◌/◌, ◌%◌, Bool, false, ◌==◌, if◌then◌else◌, List, Option, Some, None, slice_index_or, slice_set, slice_range, replicate}
use Rattle.or_words.specs.declared.Width.TheVariants.{Word}
use Rattle.or_parts.specs.declared.Line.{Line}
use Rattle.or_parts.specs.Memory.{value_at}

-- the index of an address
abbrev pub index_of : ℕ → ℕ
index_of pa = pa / 32 % 128

-- where the line of an address begins
abbrev pub line_of : ℕ → ℕ
line_of pa = pa - pa % 32

-- the line of RAM that holds an address
abbrev pub line_bytes : List ℕ → ℕ → List ℕ
line_bytes ram pa = slice_range ram (line_of pa) (line_of pa + 32)

-- no line is held
abbrev pub no_lines : List (Option Line)
no_lines = replicate 128 None

-- what is held at an index
abbrev pub line_at_index : List (Option Line) → ℕ → Option Line
line_at_index lines index = slice_index_or lines index None

-- whether it is the line of an address
abbrev pub is_line_at : Option Line → ℕ → Bool
is_line_at None pa = false
is_line_at (Some line) pa = line.address == line_of pa

abbrev pub word_of_line : Option Line → ℕ → Option ℕ
word_of_line None pa = None
word_of_line (Some line) pa = if line.address == line_of pa then Some (value_at line.bytes (pa % 32) Word) else None

-- the word at an address, where its line is held
unfoldable pub held_word : List (Option Line) → ℕ → Option ℕ
held_word lines pa = word_of_line (line_at_index lines (index_of pa)) pa

-- the lines once the line of an address is filled with these bytes
unfoldable pub line_filled : List (Option Line) → ℕ → List ℕ → List (Option Line)
line_filled lines pa bytes = slice_set lines (index_of pa) (Some (record { address = line_of pa; bytes = bytes }))

-- the lines without that of an address
unfoldable pub line_dropped : List (Option Line) → ℕ → List (Option Line)
line_dropped lines pa = if is_line_at (line_at_index lines (index_of pa)) pa then slice_set lines (index_of pa) None else lines
