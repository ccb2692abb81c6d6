-- What a worker needs of its unit, and what it leaves; what a run to the end is.
use Rattle.std.specs.Prelude.{◌≡◌, ℕ, ◌<◌, ◌≤◌, true, [], ◌∷◌, Some, None}
use Rattle.atomic_table.specs.Seated.{TableId}
use Rattle.or_model.specs.Turn.{Board, replay}
use Rattle.or_replay.specs.Board.{IsBoard, all_stopped}
use Rattle.or_replay.specs.Marks.{marks}
use Rattle.or_turn.specs.declared.view.Settings.{Settings}
use Rattle.or_turn.specs.declared.shared.Closed.{Closed}
use Rattle.or_turn.specs.declared.unit.TurnUnit.{TurnUnit}
use Rattle.or_turn.specs.Schedules.{IsDefined, count}
use Rattle.or_turn.specs.SeatViews.{core_of}
use Rattle.or_turn.specs.Units.{view, begun}

-- the unit of core n, between two turns
pub record Works (z : TableId) (st : Settings) (n : ℕ) (u : TurnUnit) : Type 0 where
  pub of : u.seat.table_id ≡ z
  pub settings : (view u).settings ≡ st
  pub cores_are : (view u).cores ≡ n ∷ []
  pub rests : begun u ≡ None
  pub defined : IsDefined st (view u).seen

-- the same before its first turn
pub record Starts (z : TableId) (st : Settings) (n : ℕ) (u : TurnUnit) : Type 0 where
  pub works : Works z st n u
  pub none : count n (view u).seen ≡ 0
  pub below : n < st.config.cores

-- the same, and the core has stopped
pub record Worked (z : TableId) (st : Settings) (n : ℕ) (u : TurnUnit) : Type 0 where
  pub works : Works z st n u
  pub stopped : (core_of (view u) n).stop ≡ None → ⊥

-- a unit that has the cores from n on, each of which has stopped
pub record HasFrom (z : TableId) (st : Settings) (n : ℕ) (u : TurnUnit) : Type 0 where
  pub of : u.seat.table_id ≡ z
  pub settings : (view u).settings ≡ st
  pub rests : begun u ≡ None
  pub has : (c : ℕ) → n ≤ c → c < st.config.cores → 0 < count c (view u).cores
  pub stopped : (c : ℕ) → 0 < count c (view u).cores → (core_of (view u) c).stop ≡ None → ⊥
  pub defined : IsDefined st (view u).seen

-- a run to the end: one schedule, whose replay from the first board gives these cores, this bus and these marks, and stops every core
pub record IsThreadedRun (first : Board) (closed : Closed) : Type 0 where
  pub last : Board
  pub replayed : replay first closed.schedule.items ≡ Some last
  pub is : IsBoard closed.cores.items closed.bus last
  pub stopped : all_stopped last.cores ≡ true
  pub marks_are : closed.marks.items ≡ marks first closed.schedule.items
