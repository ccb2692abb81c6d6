use Rattle.std.proofs.Common.{◌≡◌, ◌∙◌, ap, map, take, rules}
use Rattle.std.proofs.lemmas.List.{take_all}
use Rattle.or_asm.specs.Symbols.{entry_of}
use Rattle.or_asm.proofs.SortedEntries.{sorted_entries}
use Rattle.or_asm.proofs.symbols.entries.Goals as goal

pub returns : goal.returns
returns c =
    let labels = c.args.labels.now in
    let sorted = c.in_ok-places.places.items in
    let all : take c.loop-label.label-index labels ≡ labels = take_all c.loop-label.label-index labels (search rules) in
    c.loop-label.invariant ∙ ap (map (λ label. entry_of sorted c.args.pieces.now (label.0.now, label.1))) all
    ∙ sorted_entries labels sorted c.args.pieces.now c.in_ok-places.ensures.same
