-- The lines of the cores' data caches: for each core a finite map from index to line.
use Rattle.std.specs.Prelude.{ℕ, ◌%◌, ◌==◌, if◌then◌else◌, List, [], Option, Some, None, slice_index_or, slice_set}
use Rattle.or_words.specs.declared.Width.{Width}
use Rattle.or_parts.specs.declared.Line.{Line}
use Rattle.or_parts.specs.Memory.{stored}
use Rattle.or_parts.specs.Lines.{index_of, line_of, line_at_index}

-- the lines of one core
abbrev pub cache_of : List (List (Option Line)) → ℕ → List (Option Line)
cache_of caches core = slice_index_or caches core []

-- a line after the low bits of a word were stored at an address in it
abbrev pub line_stored : Line → ℕ → Width → ℕ → Line
line_stored line pa width v = record line { bytes = stored line.bytes (pa % 32) width v }

abbrev pub line_updated_from : Option Line → List (Option Line) → ℕ → Width → ℕ → List (Option Line)
line_updated_from None lines pa width v = lines
line_updated_from (Some line) lines pa width v =
    if line.address == line_of pa then slice_set lines (index_of pa) (Some (line_stored line pa width v)) else lines

-- the lines after a store at an address, which changes its line where that is held
unfoldable pub line_updated : List (Option Line) → ℕ → Width → ℕ → List (Option Line)
line_updated lines pa width v = line_updated_from (line_at_index lines (index_of pa)) lines pa width v

-- a line as its address and bytes
abbrev pub address_and_bytes : Option Line → Option (ℕ × List ℕ)
address_and_bytes None = None
address_and_bytes (Some line) = Some (line.address, line.bytes)
