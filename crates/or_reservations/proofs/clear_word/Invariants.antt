use Rattle.std.proofs.Common.{◌≡◌, ◌++◌, map, take, drop}
use Rattle.or_reservations.specs.Slots.{after_write}
use Rattle.or_reservations.proofs.clear_word.Given as goal

-- the slots so far are as the write leaves them, and the others as they were
abbrev pub invariant-loop-place : goal.invariant-loop-place
invariant-loop-place l = l.slots ≡ map (after_write l.word) (take l.place l.fn.slots) ++ drop l.place l.fn.slots
