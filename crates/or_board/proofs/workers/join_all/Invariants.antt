use Rattle.std.proofs.Common.{ℕ, ◌<◌, ◌≤◌, slice_index_or, vec_len}
use Rattle.or_turn.specs.Units.{settings_in, id_of}
use Rattle.or_board.specs.Works.{Worked, HasFrom}
use Rattle.or_board.proofs.workers.join_all.Given as goal

abbrev pub invariant-loop-unit : goal.invariant-loop-unit
invariant-loop-unit l = record {
  few : vec_len l.units ≤ vec_len l.fn.units;
  worked : (n : ℕ) (d : _) → n < vec_len l.units → Worked (id_of l.shared) (settings_in l.shared) n (slice_index_or l.units.items n d);
  last : HasFrom (id_of l.shared) (settings_in l.shared) (vec_len l.units) l.last;
}

abbrev pub decreases-loop-unit : goal.decreases-loop-unit
decreases-loop-unit l = vec_len l.units
