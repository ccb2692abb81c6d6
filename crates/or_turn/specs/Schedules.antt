-- The boards that schedules lead to, and how often a core stands in a schedule.
use Rattle.std.specs.Prelude.{◌≡◌, ℕ, ◌+◌, ◌==◌, if◌then◌else◌, false, List, [], ◌∷◌, Option, Some, None, slice_index_or}
use Rattle.or_model.specs.Core.{Core, reset_core}
use Rattle.or_model.specs.Step.{empty_world}
use Rattle.or_model.specs.Turn.{Board, replay}
use Rattle.or_replay.specs.Start.{start}
use Rattle.or_turn.specs.declared.view.Settings.{Settings}

-- the board before its first turn
abbrev pub first_board : Settings → Board
first_board st = start st.config st.image st.input

-- what stands where a row has no core
abbrev pub no_core : Core
no_core = reset_core (record { cores = 1; budget = 1; ram = 1; latched = false }) 0

abbrev pub core_at : List Core → ℕ → Core
core_at cores c = slice_index_or cores c no_core

abbrev pub reached : Option Board → Board
reached None = record { cores = []; world = empty_world }
reached (Some board) = board

-- the board that a schedule leads to
unfoldable pub board_of : Settings → List ℕ → Board
board_of st turns = reached (replay (first_board st) turns)

-- the replay of a schedule is defined
unfoldable pub IsDefined : Settings → List ℕ → Type 0
IsDefined st turns = replay (first_board st) turns ≡ Some (board_of st turns)

-- how often a core stands in a schedule
unfoldable pub count : ℕ → List ℕ → ℕ
count c [] = 0
count c (turn ∷ turns) = (if turn == c then 1 else 0) + count c turns
