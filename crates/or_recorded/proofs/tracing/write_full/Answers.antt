use Rattle.std.proofs.Common.{sym, subst, ◌++◌, List, ℕ}
use Rattle.or_command.specs.Pieces.{Wrote, SoFar}
use Rattle.or_recorded.proofs.Traced.{made_is_written}
use Rattle.or_recorded.proofs.tracing.write_full.Goals as goal

pub returns-in-Ok-clause-writes : goal.returns-in-Ok-clause-writes
returns-in-Ok-clause-writes g c = λ rest whole before so_far.
    let b = g.H.Host.state c.args.host.now in
    let d = g.H.Host.state c.write_piece.new.host in
    let wrote = subst (λ (t : List ℕ). Wrote t b d) c.as_slice.ensures.value c.in-Ok.ensures.writes in
    subst (λ (t : List ℕ). SoFar (t ++ rest) whole before d) (sym c.clear.ensures.items) (made_is_written c.args.made.now.items rest whole before b d so_far wrote)
