-- The schedule that is drawn of a seed: stretches of turns, each of one core.
use Rattle.std.specs.Prelude.{ℕ, zero, suc, ◌+◌, List, [], ◌∷◌, ◌++◌, Option, Some, None, is_none, if◌then◌else◌, length, slice_index}
use Rattle.or_model.specs.Core.{Core}
use Rattle.or_model.specs.Turn.{Board, board_turned, replay}
use Rattle.or_replay.specs.Board.{steps_left, all_stopped}
use Rattle.or_hunt.specs.Draws.{next_state, exponents, first_state, chosen, most_turns}

-- turns on a board, or none where there is no board
abbrev pub turns_on : Option Board → (Board → List ℕ) → List ℕ
turns_on None later = []
turns_on (Some board) later = later board

-- so many turns of core c, or as many as it makes until it stops
abbrev pub stretch : ℕ → ℕ → Board → List ℕ
stretch zero c board = []
stretch (suc most) c board = turns_on (board_turned board c) (λ next. c ∷ stretch most c next)

-- the numbers of those of these cores that have not stopped, in order, where the first is core c
abbrev pub running_from : ℕ → List Core → List ℕ
running_from c [] = []
running_from c (core ∷ cores) = if is_none core.stop then c ∷ running_from (c + 1) cores else running_from (c + 1) cores

-- the stretch that a draw decides
abbrev pub drawn_stretch : List ℕ → ℕ → Board → List ℕ
drawn_stretch greatest x board = let c = chosen (running_from 0 board.cores) x in stretch (most_turns (slice_index greatest c) x) c board

-- up to so many stretches, until all cores have stopped; each begins with a draw
abbrev pub stretches : ℕ → List ℕ → ℕ → Board → List ℕ
stretches zero greatest x board = []
stretches (suc left) greatest x board =
    if all_stopped board.cores then []
    else (drawn_stretch greatest (next_state x) board
    ++ turns_on (replay board (drawn_stretch greatest (next_state x) board)) (λ next. stretches left greatest (next_state x) next))

-- DRAWN: the schedule of a seed from a start, on which all cores stop. Each stretch has a turn and each turn a step, so there
-- are never more stretches than the cores may make steps.
unfoldable pub drawn : Board → ℕ → List ℕ
drawn start seed = stretches (steps_left start.cores) (exponents seed (length start.cores)) (first_state seed (length start.cores)) start
