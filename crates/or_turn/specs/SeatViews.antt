-- What a unit has beside its view.
use Rattle.std.specs.Prelude.{◌≡◌, ℕ, ◌+◌, ◌≤◌, Bool, List, [], ◌∷◌, ◌++◌, map, replicate, Option, Some, None, slice_index}
use Rattle.or_model.specs.Core.{Core}
use Rattle.or_model.specs.Turn.{turn_begun}
use Rattle.or_turn.specs.declared.view.Settings.{Settings}
use Rattle.or_turn.specs.declared.view.Stage.TheVariants.{Idle}
use Rattle.or_turn.specs.declared.view.View.{View}
use Rattle.or_turn.specs.Schedules.{board_of, IsDefined, core_at, count}

-- core c of a view
unfoldable pub core_of : View → ℕ → Core
core_of v c = core_at (board_of v.settings v.seen).cores c

abbrev pub only_of : View → ℕ
only_of v = slice_index v.cores 0

-- core c in the middle of a turn
abbrev pub begun_core : View → ℕ → Core
begun_core v c = (turn_begun (core_of v c)).core

-- the cores of a unit that has begun, or has not
abbrev pub cores_shown : View → Option Bool → List Core
cores_shown v None = map (core_of v) v.cores
cores_shown v (Some follows) = map (begun_core v) v.cores

-- a unit that has begun has one core, which has not stopped, and the answer of the first half of its turn
abbrev pub HasBegun : View → Bool → Type 0
HasBegun v follows = (v.cores ≡ only_of v ∷ []) × ((core_of v (only_of v)).stop ≡ None) × (follows ≡ (turn_begun (core_of v (only_of v))).follows)

-- the view of a unit at the opening
abbrev pub opened_view : Settings → ℕ → View
opened_view st n = record { settings = st; cores = n ∷ []; seen = []; opening = None; stage = Idle }

-- what a stay of the core c does to a view: it sees turns of others, and then its own, at least one and at most `most`
pub record Turned (v w : View) (c most : ℕ) : Type 0 where
  pub between : List ℕ
  pub turns : ℕ
  pub some_turn : 1 ≤ turns
  pub few_turns : turns ≤ most
  pub seen : w.seen ≡ (v.seen ++ between) ++ replicate turns c
  pub own : count c w.seen ≡ count c v.seen + turns
  pub same : w ≡ record v { seen = w.seen }
  pub defined : IsDefined v.settings w.seen

-- the view of the seat that is to enrol core n
abbrev pub seat_view : Settings → ℕ → View
seat_view st n = record { settings = st; cores = []; seen = []; opening = Some n; stage = Idle }
