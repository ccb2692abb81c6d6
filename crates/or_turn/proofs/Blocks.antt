-- The marks of a schedule that is one turn longer.
use Rattle.std.proofs.Common.{◌≡◌, ℕ, ◌+◌, List, [], ◌∷◌, ◌++◌, length}
use Rattle.or_replay.specs.Marks.{marks, with_mark}
use Rattle.or_replay.proofs.Replaying.{marks_longer}
use Rattle.or_turn.specs.declared.view.Settings.{Settings}
use Rattle.or_turn.specs.Schedules.{first_board, board_of, IsDefined}
use Rattle.or_turn.proofs.Replays.{replays}

pub marks_more : (st : Settings) (xs : List ℕ) (c : ℕ) → IsDefined st (xs ++ c ∷ [])
    → marks (first_board st) (xs ++ c ∷ []) ≡ with_mark (length xs + 1) (board_of st (xs ++ c ∷ [])).world (marks (first_board st) xs)
marks_more st xs c d = marks_longer (first_board st) (board_of st (xs ++ c ∷ [])) xs c (replays st (xs ++ c ∷ []) d)
