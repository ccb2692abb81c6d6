use Rattle.std.proofs.Common.{◌≡◌}
use Rattle.arrayvec.specs.ArrayVec.{array_vec_len}
use Rattle.or_model.specs.Turn.{reset_cores}
use Rattle.or_replay.proofs.opening.cores_at_reset.Given as goal

abbrev pub invariant-loop-number : goal.invariant-loop-number
invariant-loop-number l = record {
  so_many : array_vec_len l.cores ≡ l.number;
  so_far : l.cores.items ≡ reset_cores l.config l.number;
}
