use Rattle.std.proofs.Common.{◌≡◌, ◌≢◌, ℕ, ◌+◌, ◌*◌, ◌/◌, ◌<◌, None, length}
use Rattle.std.specs.Prelude.{slice_index_or}
use Rattle.or_icache.specs.Decoded.{IsDecoded}
use Rattle.or_icache.proofs.decode_line.Given as goal

-- the words so far have their instructions, and those of other lines are as they were
abbrev pub invariant-loop-k : goal.invariant-loop-k
invariant-loop-k l = record {
  places : length l.insns ≡ 1024;
  here : (k : ℕ) → k < l.k → IsDecoded l.bytes (k * 4) (slice_index_or l.insns (l.index * 8 + k) None);
  elsewhere : (place : ℕ) → place / 8 ≢ l.index → slice_index_or l.insns place None ≡ slice_index_or l.fn.insns place None;
}
