use Rattle.std.proofs.Common.{◌-◌, ◌≤◌}
use Rattle.or_turn.specs.Schedules.{count}
use Rattle.or_turn.specs.SeatViews.{only_of}
use Rattle.or_turn.specs.Units.{view, settings_in, id_of}
use Rattle.or_board.specs.Works.{Works}
use Rattle.or_board.proofs.workers.work_unit.Given as goal

abbrev pub invariant-loop-unit : goal.invariant-loop-unit
invariant-loop-unit g l = record {
  works : Works (id_of l.shared) (settings_in l.shared) (only_of (view l.fn.unit)) l.unit;
  stays : l.stays ≤ count (only_of (view l.fn.unit)) (view l.unit).seen;
}

abbrev pub decreases-loop-unit : goal.decreases-loop-unit
decreases-loop-unit g l = (settings_in l.shared).config.budget - count (only_of (view l.fn.unit)) (view l.unit).seen
