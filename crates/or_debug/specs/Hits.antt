-- What the turns of a schedule hit.
use Rattle.std.specs.Prelude.{ℕ, zero, suc, ◌+◌, ◌==◌, if◌then◌else◌, Bool, true, false, List, [], ◌∷◌, ◌++◌, codes, decimal, Option, Some, None}
use Rattle.std.specs.List.{flat_map}
use Rattle.or_text.specs.Hexadecimal.{word_text}
use Rattle.or_model.specs.Turn.{Board}
use Rattle.or_bus.specs.Answers.{word_shown}
use Rattle.or_debug.specs.declared.turns.MadeTurn.{MadeTurn}
use Rattle.or_replay.specs.declared.stepping.Breakpoint.{Breakpoint}
use Rattle.or_replay.specs.Stepping.{is_hit}
use Rattle.or_debug.specs.Turns.{after, turn_made}
use Rattle.or_debug.specs.Points.{Points}

-- a turn that left its core's pc there
abbrev pub break_line : MadeTurn → Breakpoint → List ℕ
break_line made point = if is_hit made.core made.pc point then codes "break turn " ++ decimal made.turn ++ codes " core " ++ decimal made.core ++ codes "\n" else []

-- a word of RAM before and after a turn, at the end of a line
abbrev pub words_text : ℕ → ℕ → ℕ → List ℕ
words_text address old new = codes " " ++ word_text address ++ codes " " ++ word_text old ++ codes " " ++ word_text new ++ codes "\n"

-- a turn that changed a word of RAM
abbrev pub changed_line : ℕ → ℕ → ℕ → ℕ → List ℕ
changed_line turn address old new = codes "watch turn " ++ decimal turn ++ words_text address old new

abbrev pub change_line : ℕ → ℕ → Option ℕ → Option ℕ → List ℕ
change_line turn address None new = []
change_line turn address (Some old) None = []
change_line turn address (Some old) (Some new) = if old == new then [] else changed_line turn address old new

abbrev pub ram_in : Option Board → List ℕ
ram_in None = []
ram_in (Some board) = board.world.ram

-- the line of a watchpoint, by RAM before and after a turn
abbrev pub watch_line : ℕ → List ℕ → List ℕ → ℕ → List ℕ
watch_line turn before later address = change_line turn address (word_shown before address) (word_shown later address)

-- a turn that stored to a word of RAM, of the same value too
abbrev pub is_at : Option ℕ → ℕ → Bool
is_at None address = false
is_at (Some word) address = word == address

abbrev pub stored_line : MadeTurn → ℕ → ℕ → ℕ → List ℕ
stored_line made address old new = codes "store turn " ++ decimal made.turn ++ codes " core " ++ decimal made.core ++ words_text address old new

abbrev pub store_words : MadeTurn → ℕ → Option ℕ → Option ℕ → List ℕ
store_words made address None new = []
store_words made address (Some old) None = []
store_words made address (Some old) (Some new) = if is_at made.stored address then stored_line made address old new else []

-- the line of a store point, by RAM before and after a turn
abbrev pub store_line : MadeTurn → List ℕ → List ℕ → ℕ → List ℕ
store_line made before later address = store_words made address (word_shown before address) (word_shown later address)

-- the lines of what a turn hits, by RAM before and after it: breakpoints, then watchpoints, then store points
abbrev pub hits_of : MadeTurn → List ℕ → List ℕ → Points → List ℕ
hits_of made before later points =
    flat_map (break_line made) points.breaks ++ (flat_map (watch_line made.turn before later) points.watches ++ flat_map (store_line made before later) points.stores)

-- the lines of what the turn behind the first so many hits
unfoldable pub hit_lines : Board → List ℕ → Points → ℕ → List ℕ
hit_lines start turns points n = hits_of (turn_made start turns n) (ram_in (after start turns n)) (ram_in (after start turns (n + 1))) points

abbrev pub is_empty : List ℕ → Bool
is_empty [] = true
is_empty (b ∷ bs) = false

-- the first of so many turns, from a place on, that has lines of hits
abbrev pub first_hit : (ℕ → List ℕ) → ℕ → ℕ → Option ℕ
first_hit lines n zero = None
first_hit lines n (suc left) = if is_empty (lines n) then first_hit lines (n + 1) left else Some n
