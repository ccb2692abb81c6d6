-- The turns of a schedule, one by one.
use Rattle.std.specs.Prelude.{ℕ, zero, suc, ◌+◌, ◌-◌, List, [], ◌∷◌, ◌++◌, Option, Some, None, Result, Ok, Err, length, take, drop, slice_index, slice_get, option_and_then}
use Rattle.or_model.specs.Core.{Core}
use Rattle.or_model.specs.Turn.{Board, replay}
use Rattle.or_bus.specs.declared.access.Access.{Access}
use Rattle.or_bus.specs.declared.access.AccessKind.{AccessKind}
use Rattle.or_bus.specs.declared.access.AccessKind.TheVariants.{Load, Store, Linked, Conditional}
use Rattle.or_replay.specs.Watching.{board_access}
use Rattle.or_replay.specs.declared.board.Refused.{Refused}
use Rattle.or_debug.specs.declared.turns.MadeTurn.{MadeTurn}

-- the board after the first so many turns
abbrev pub after : Board → List ℕ → ℕ → Option Board
after start turns n = replay start (take n turns)

abbrev pub pc_of : Option Core → ℕ
pc_of None = 0
pc_of (Some core) = core.pc

-- the pc of a core
abbrev pub pc_in : Option Board → ℕ → ℕ
pc_in None c = 0
pc_in (Some board) c = pc_of (slice_get board.cores c)

-- the access to RAM of the turn behind the first so many
abbrev pub access_made : Board → List ℕ → ℕ → Option Access
access_made start turns n = option_and_then (λ board. board_access board (slice_index turns n)) (after start turns n)

-- the word that an access stores to; an l.swa that stored is a store
abbrev pub stored_by : AccessKind → ℕ → Option ℕ
stored_by Load word = None
stored_by Store word = Some word
stored_by Linked word = None
stored_by Conditional word = Some word

abbrev pub word_stored : Option Access → Option ℕ
word_stored None = None
word_stored (Some access) = stored_by access.kind access.word

-- none where the turn was refused
abbrev pub stored_in : Result (Option Access) Refused → Option ℕ
stored_in (Ok access) = word_stored access
stored_in (Err refused) = None

-- the turn behind the first so many: its number from 1, its core, the pc that it left, and the word that it stored to
abbrev pub turn_made : Board → List ℕ → ℕ → MadeTurn
turn_made start turns n = record {
  turn = n + 1;
  core = slice_index turns n;
  pc = pc_in (after start turns (n + 1)) (slice_index turns n);
  stored = word_stored (access_made start turns n);
}

-- the first so many turns
abbrev pub turns_made : Board → List ℕ → ℕ → List MadeTurn
turns_made start turns zero = []
turns_made start turns (suc n) = turns_made start turns n ++ turn_made start turns n ∷ []

-- the last so many of a list, or all
abbrev pub last_of : {X : Type 0} → ℕ → List X → List X
last_of n xs = drop (length xs - n) xs
