use Rattle.std.proofs.Common.{◌≡◌, map, take}
use Rattle.or_asm.specs.Symbols.{entry_of}
use Rattle.or_asm.proofs.symbols.entries.Given as goal

abbrev pub invariant-loop-label : goal.invariant-loop-label
invariant-loop-label l = l.entries.items ≡ map (λ label. entry_of l.places.items l.pieces (label.0.now, label.1)) (take l.label-index l.labels)
