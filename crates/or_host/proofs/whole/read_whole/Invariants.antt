use Rattle.std.proofs.Common.{vec_capacity, vec_len, ◌+◌, ◌-◌, ◌≤◌}
use Rattle.std.specs.Io.KnownBytes.{Consumes}
use Rattle.or_host.proofs.whole.read_whole.Given as goal

-- what the list holds was read
abbrev pub invariant-loop-buffer : goal.invariant-loop-buffer
invariant-loop-buffer g l = record {
  within : vec_len l.into ≤ l.max + 1;
  taken : Consumes (g.F.Read.remaining l.fn.file) (g.F.Read.remaining l.file) l.into.items;
  capacity : vec_capacity l.fn.into ≤ vec_capacity l.into;
}

abbrev pub decreases-loop-buffer : goal.decreases-loop-buffer
decreases-loop-buffer g l = l.max + 1 - vec_len l.into
