use Rattle.std.proofs.Common.{◌≡◌, ℕ, ◌<◌, ◌≤◌, [], vec_len, vec_capacity, slice_index_or, drop}
use Rattle.or_turn.specs.Schedules.{first_board}
use Rattle.or_turn.specs.SeatViews.{seat_view}
use Rattle.or_turn.specs.Units.{Fresh}
use Rattle.or_turn.proofs.shared.opening.seat_all.Given as goal

abbrev pub invariant-loop-number : goal.invariant-loop-number
invariant-loop-number l = record {
  table : l.seat.table_id ≡ l.top.table_id;
  seat : l.seat.me ≡ (seat_view l.fn.first.me.0.settings l.number, []);
  len : vec_len l.units ≡ l.number;
  room : l.cores ≤ vec_capacity l.units;
  row : l.row.items ≡ drop l.number (first_board l.fn.first.me.0.settings).cores;
  each : (n : ℕ) (d : _) → n < l.number → Fresh l.top.table_id l.fn.first.me.0.settings n (slice_index_or l.units.items n d);
}
