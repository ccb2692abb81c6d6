-- What a closed run says.
use Rattle.std.specs.Prelude.{◌≡◌, ℕ, ◌<◌}
use Rattle.or_bus.specs.Represents.{Represents}
use Rattle.or_replay.specs.Board.{AreOfBus}
use Rattle.or_replay.specs.Marks.{marks}
use Rattle.or_turn.specs.declared.view.View.{View}
use Rattle.or_turn.specs.declared.shared.Closed.{Closed}
use Rattle.or_turn.specs.Schedules.{first_board, board_of, core_at, IsDefined, count}
use Rattle.or_turn.specs.Rule.{Begins}
use Rattle.or_turn.specs.SeatViews.{core_of}

-- there is one schedule, which begins with what the last view has seen, and the cores, in order of number, the bus and the marks are those of its replay
pub record IsClosedBy (v : View) (end : Closed) : Type 0 where
  pub defined : IsDefined v.settings end.schedule.items
  pub cores : end.cores.items ≡ (board_of v.settings end.schedule.items).cores
  -- they are those of the last unit
  pub own : (c : ℕ) → c < v.settings.config.cores → core_at end.cores.items c ≡ core_of v c
  pub bus : Represents end.bus (board_of v.settings end.schedule.items).world
  pub order : AreOfBus end.cores.items end.bus
  pub begins : Begins v.seen end.schedule.items
  pub told : (c : ℕ) → c < v.settings.config.cores → count c v.seen ≡ count c end.schedule.items
  pub marks : end.marks.items ≡ marks (first_board v.settings) end.schedule.items
