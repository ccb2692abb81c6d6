-- The traces of a schedule's turns, as they are added to a profile.
use Rattle.std.specs.Prelude.{ℕ, List, [], ◌∷◌, Option, Some, None}
use Rattle.or_model.specs.Turn.{Board, board_turned}
use Rattle.or_replay.specs.Watching.{board_trace}
use Rattle.or_prof.specs.Profile.{Addition}

-- the trace of a turn of core c, for this core
abbrev pub addition_of : Board → ℕ → Addition
addition_of board c = record { core = c; trace = board_trace board c }

abbrev pub where_made : Option Board → (Board → List Addition) → List Addition
where_made None next = []
where_made (Some board) next = next board

-- the traces of a schedule's turns from a board, in their order
abbrev pub traces : Board → List ℕ → List Addition
traces board [] = []
traces board (c ∷ later) = where_made (board_turned board c) (λ next. addition_of board c ∷ traces next later)
