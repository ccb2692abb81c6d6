use Rattle.std.proofs.Common.{◌≡◌, ℕ, List, ◌++◌, length}
use Rattle.std.specs.Io.KnownBytes.{Appends}
use Rattle.or_host.proofs.whole.write_whole.Given as goal

-- what is gone from the bytes was written
abbrev pub invariant-loop-rest : goal.invariant-loop-rest
invariant-loop-rest g l = (first : List ℕ) × (l.bytes ≡ first ++ l.rest) × Appends (g.W.Write.contents l.fn.to) (g.W.Write.contents l.to) first

abbrev pub decreases-loop-rest : goal.decreases-loop-rest
decreases-loop-rest g l = length l.rest
