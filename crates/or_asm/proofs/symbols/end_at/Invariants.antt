use Rattle.std.proofs.Common.{◌≡◌, drop}
use Rattle.std.specs.List.{find}
use Rattle.or_asm.specs.Program.{covers}
use Rattle.or_asm.proofs.symbols.end_at.Given as goal

abbrev pub invariant-loop-piece : goal.invariant-loop-piece
invariant-loop-piece l = find (covers l.place) (drop l.piece-index l.pieces) ≡ find (covers l.place) l.pieces
