-- What the laws say.
use Rattle.std.specs.Prelude.{◌≡◌, ◌≢◌, ℕ, List, ◌++◌, Some, slice_get}
use Rattle.or_model.specs.Turn.{Board, board_turned, replay}
use Rattle.or_turn.specs.Schedules.{count}

-- a turn of one core leaves all others as they are
abbrev pub OthersStay : Type 0
OthersStay = (old new : Board) (c other : ℕ) → board_turned old c ≡ Some new → other ≢ c → slice_get new.cores other ≡ slice_get old.cores other

-- where one schedule begins another, and both have equally many entries of a core, they lead to the same core
abbrev pub EqualEntriesLeaveCore : Type 0
EqualEntriesLeaveCore = (board first last : Board) (turns later : List ℕ) (c : ℕ) → replay board turns ≡ Some first → replay board (turns ++ later) ≡ Some last
    → count c turns ≡ count c (turns ++ later) → slice_get first.cores c ≡ slice_get last.cores c
