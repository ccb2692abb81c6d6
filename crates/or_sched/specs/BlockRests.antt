-- Blocks of run lines with their marks.
use Rattle.std.specs.Prelude.{◌≡◌, ℕ, zero, suc, ◌-◌, ◌≤◌, List, [], ◌∷◌, ◌++◌, Option, Some, None, min, map, nat_le, if◌then◌else◌}
use Rattle.std.proofs.Common.{inr}
use Rattle.or_sched.specs.declared.recording.Mark.{Mark}
use Rattle.or_sched.specs.declared.places.Limits.{Limits}
use Rattle.or_sched.specs.Runs.{lines_text}
use Rattle.or_sched.specs.Blocks.{Item, run_item, mark_line}
use Rattle.or_sched.specs.RunRests.{Follow, left_after}

-- marks, each with the runs of the block behind it
abbrev pub Later : Type 0
Later = List (Mark × List (ℕ × ℕ))

abbrev pub later_items : Later → List Item
later_items [] = []
later_items ((mark, all) ∷ later) = inr mark ∷ (map run_item all ++ later_items later)

abbrev pub items : List (ℕ × ℕ) → Later → List Item
items all later = map run_item all ++ later_items later

-- what must stand behind a block where `total` turns are left before it
abbrev pub behind_of : Limits → ℕ → Option ℕ
behind_of limits total = if nat_le limits.block total then Some (total - limits.block) else None

-- Behind a block that lacks `left` turns: nothing, or a mark and more blocks where it lacks none and a mark is to come,
-- with as many turns at most behind it.
abbrev pub Behind : Limits → Option ℕ → ℕ → List ℕ → Later → Type 0
Behind limits None left text later = (text ≡ []) × (later ≡ [])
Behind limits (Some total) (suc left) text later = (text ≡ []) × (later ≡ [])
Behind limits (Some total) zero text [] = ⊥
Behind limits (Some total) zero text ((mark, []) ∷ later) =
    (text ≡ mark_line mark) × (mark.writes ≤ limits.turns - total) × (mark.console ≤ limits.turns - total) × (later ≡ [])
Behind limits (Some total) zero text ((mark, run ∷ others) ∷ later) =
    (after : List ℕ) × (text ≡ mark_line mark ++ (lines_text 16 (run ∷ others) ++ after))
    × (mark.writes ≤ limits.turns - total) × (mark.console ≤ limits.turns - total)
    × Follow limits.cores limits.cores (min total limits.block) (run ∷ others)
    × Behind limits (behind_of limits total) (left_after (min total limits.block) (run ∷ others)) after later
