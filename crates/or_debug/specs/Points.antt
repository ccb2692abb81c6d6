-- The points at which a session stops.
use Rattle.std.specs.Prelude.{ℕ, List, [], ◌∷◌, ◌++◌, Option}
use Rattle.or_replay.specs.declared.stepping.Breakpoint.{Breakpoint}

-- the points that were set, each kind in the order of its lines; a watchpoint and a store point are the address of a word
pub record Points : Type 0 where
  pub breaks : List Breakpoint
  pub watches : List ℕ
  pub stores : List ℕ

abbrev pub no_points : Points
no_points = record { breaks = []; watches = []; stores = [] }

abbrev pub with_break : Points → Option ℕ → ℕ → Points
with_break points core pc = record points { breaks = points.breaks ++ (record { core = core; pc = pc }) ∷ [] }

abbrev pub with_watch : Points → ℕ → Points
with_watch points address = record points { watches = points.watches ++ address ∷ [] }

abbrev pub with_store : Points → ℕ → Points
with_store points address = record points { stores = points.stores ++ address ∷ [] }
