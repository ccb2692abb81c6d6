use Rattle.std.proofs.Common.{◌≡◌, drop}
use Rattle.std.specs.List.{list_any}
use Rattle.or_asm.specs.Program.{covers}
use Rattle.or_asm.proofs.pieces.is_covered.Given as goal

abbrev pub invariant-loop-piece : goal.invariant-loop-piece
invariant-loop-piece l = list_any (covers l.place) (drop l.piece-index l.pieces) ≡ list_any (covers l.place) l.pieces
