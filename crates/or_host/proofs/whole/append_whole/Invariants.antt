use Rattle.std.proofs.Common.{◌≡◌, ◌≢◌, ℕ, List, ◌++◌, length}
use Rattle.or_host.specs.Told.{TellsStep, TellsSame, AddsToFile}
use Rattle.or_host.specs.Pairs.{KeepsPairs}
use Rattle.or_host.proofs.whole.append_whole.Given as goal

-- what is gone from the bytes was added to the file, and to no other
abbrev pub invariant-loop-left : goal.invariant-loop-left
invariant-loop-left g l = (first : List ℕ) × (l.bytes ≡ first ++ l.left)
    × TellsStep (AddsToFile first) (g.F.NamedFiles.holds l.fn.files l.name) (g.F.NamedFiles.holds l.files l.name)
    × ((other : List ℕ) → other ≢ l.name → TellsSame (g.F.NamedFiles.holds l.fn.files other) (g.F.NamedFiles.holds l.files other))
    × KeepsPairs (g.F.NamedFiles.pairs l.fn.files) (g.F.NamedFiles.pairs l.files)

abbrev pub decreases-loop-left : goal.decreases-loop-left
decreases-loop-left g l = length l.left
