-- The marks of a schedule: how far the board's history has come after each block of turns.
use Rattle.std.specs.Prelude.{ℕ, zero, suc, ◌*◌, ◌/◌, ◌%◌, ◌==◌, if◌then◌else◌, List, [], ◌∷◌, ◌++◌, Option, Some, None, length, take, min}
use Rattle.or_words.specs.declared.limits.TheConstants.{BLOCK}
use Rattle.or_sched.specs.declared.recording.Mark.{Mark}
use Rattle.or_mem.specs.Memory.{last_count}
use Rattle.or_model.specs.World.{World}
use Rattle.or_model.specs.Turn.{Board, replay}
use Rattle.or_parts.specs.Devices.{console_of}

-- the lengths of the write list and of the console
abbrev pub mark_of : World → Mark
mark_of world = record { writes = min (length world.writes) last_count; console = length (console_of world.devices) }

abbrev pub mark_after : Option Board → Mark
mark_after None = record { writes = 0; console = 0 }
mark_after (Some board) = mark_of board.world

-- the marks of the first so many blocks
abbrev pub block_marks : ℕ → Board → List ℕ → ℕ → List Mark
block_marks block start turns zero = []
block_marks block start turns (suc n) = block_marks block start turns n ++ mark_after (replay start (take (block * suc n) turns)) ∷ []

-- the marks behind each whole block of turns
unfoldable pub marks : Board → List ℕ → List Mark
marks start turns = block_marks BLOCK start turns (length turns / BLOCK)

-- the marks once a block may have ended
abbrev pub with_mark : ℕ → World → List Mark → List Mark
with_mark made world kept = if made % BLOCK == 0 then kept ++ mark_of world ∷ [] else kept
