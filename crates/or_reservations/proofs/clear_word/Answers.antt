use Rattle.std.proofs.Common.{◌<◌, length, arith, None}
use Rattle.std.proofs.lemmas.List.Edits.{map_over_more}
use Rattle.std.proofs.lemmas.List.{get_or_default}
use Rattle.or_reservations.specs.Slots.{after_write}
use Rattle.or_reservations.proofs.clear_word.Goals as goal

pub loop-place-preserved : goal.loop-place-preserved
loop-place-preserved c =
    let inside : c.loop-place.place < length c.loop-place.slots = omega arith in
    rw c.after_write.ensures (map_over_more (after_write c.args.word) c.args.slots.now c.loop-place.slots c.loop-place.place _ (omega arith) c.loop-place.invariant (get_or_default c.loop-place.slots c.loop-place.place None _ inside))
