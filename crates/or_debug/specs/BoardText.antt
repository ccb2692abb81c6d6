-- What the debugger shows of a board.
use Rattle.std.specs.Prelude.{ℕ, zero, suc, ◌+◌, ◌%◌, ◌==◌, if◌then◌else◌, ◌&&◌, List, [], ◌∷◌, ◌++◌, codes, decimal, Option, Some, None, slice_get}
use Rattle.std.specs.List.{flat_map}
use Rattle.or_text.specs.Hexadecimal.{word_text}
use Rattle.or_parts.specs.Bits.{plus}
use Rattle.or_parts.specs.Lines.{index_of, line_of}
use Rattle.or_model.specs.Core.{Core}
use Rattle.or_model.specs.World.{World, Access}
use Rattle.or_model.specs.Caches.{held, is_cached_load}
use Rattle.or_model.specs.Turn.{Board}
use Rattle.or_bus.specs.Answers.{word_shown}
use Rattle.or_replay.specs.Report.{core_block, shown_counts}
use Rattle.or_debug.specs.declared.turns.MadeTurn.{MadeTurn}

-- a core's block of a report
abbrev pub block_of : World → ℕ → Option Core → List ℕ
block_of world c None = []
block_of world c (Some core) = core_block core (shown_counts world c)

unfoldable pub registers_text : Board → ℕ → List ℕ
registers_text board c = block_of board.world c (slice_get board.cores c)

-- a word of RAM behind its address
abbrev pub word_line : ℕ → Option ℕ → List ℕ
word_line address None = []
word_line address (Some word) = word_text address ++ codes " " ++ word_text word ++ codes "\n"

-- so many words of RAM from an address on
abbrev pub memory_text : List ℕ → ℕ → ℕ → List ℕ
memory_text ram address zero = []
memory_text ram address (suc words) = word_line address (word_shown ram address) ++ memory_text ram (plus address 4) words

-- the line of core c's last cached load with an index
abbrev pub last_loaded : List Access → ℕ → ℕ → Option ℕ
last_loaded [] c index = None
last_loaded (access ∷ earlier) c index = if is_cached_load access c && index_of access.line == index then Some (line_of access.line) else last_loaded earlier c index

abbrev pub where_held : List Access → ℕ → Option ℕ → Option ℕ
where_held accesses c None = None
where_held accesses c (Some line) = if held accesses c line then Some line else None

-- the line of an index that core c's data cache holds: that of the last such load, where it is still held
unfoldable pub held_at : List Access → ℕ → ℕ → Option ℕ
held_at accesses c index = where_held accesses c (last_loaded accesses c index)

-- an index, and the address of its line
abbrev pub index_line : ℕ → Option ℕ → List ℕ
index_line index None = []
index_line index (Some line) = decimal index ++ codes " " ++ word_text line ++ codes "\n"

-- the valid lines of the first so many indexes
unfoldable pub index_lines : List Access → ℕ → ℕ → List ℕ
index_lines accesses c zero = []
index_lines accesses c (suc n) = index_lines accesses c n ++ index_line n (held_at accesses c n)

-- a core of the board has 128 indexes
abbrev pub lines_of : World → ℕ → Option Core → List ℕ
lines_of world c None = []
lines_of world c (Some core) = index_lines world.accesses c 128

unfoldable pub lines_text : Board → ℕ → List ℕ
lines_text board c = lines_of board.world c (slice_get board.cores c)

-- a core's letter: `a` for core 0
abbrev pub letter : ℕ → ℕ
letter core = (97 + core) % 256

-- a turn that was made
abbrev pub made_line : MadeTurn → List ℕ
made_line made = decimal made.turn ++ codes " " ++ letter made.core ∷ codes " " ++ word_text made.pc ++ codes "\n"

abbrev pub made_text : List MadeTurn → List ℕ
made_text made = flat_map made_line made
