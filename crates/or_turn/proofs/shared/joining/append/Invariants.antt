use Rattle.std.proofs.Common.{◌≡◌, ◌+◌, ◌≤◌, ◌++◌}
use Rattle.arrayvec.specs.ArrayVec.{array_vec_len}
use Rattle.or_turn.proofs.shared.joining.append.Given as goal

abbrev pub invariant-loop-core : goal.invariant-loop-core
invariant-loop-core l = record {
  room : array_vec_len l.into + array_vec_len l.from ≤ 8;
  same : l.into.items ++ l.from.items ≡ l.fn.into.items ++ l.fn.from.items;
}

abbrev pub decreases-loop-core : goal.decreases-loop-core
decreases-loop-core l = array_vec_len l.from
