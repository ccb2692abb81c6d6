use Rattle.std.proofs.Common.{◌≡◌, map, take}
use Rattle.or_asm.proofs.symbols.sorted_places.Given as goal

abbrev pub invariant-loop-label : goal.invariant-loop-label
invariant-loop-label l = l.places.items ≡ map (λ label. label.1) (take l.label-index l.labels)
