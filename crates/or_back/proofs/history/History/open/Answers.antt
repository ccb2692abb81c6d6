use Rattle.std.proofs.Common.{refl, sym, subst, arith}
use Rattle.or_replay.specs.Board.{BoardState, IsBoard}
use Rattle.or_debug.specs.Standing.{IsAfter}
use Rattle.or_back.specs.declared.history.Checkpoint.{Checkpoint}
use Rattle.or_back.proofs.Keeping.{all_none}
use Rattle.or_back.proofs.history.History.open.Goals as goal

pub returns-clause-tells : goal.returns-clause-tells
returns-clause-tells c = λ start is can. record {
  turns_are = refl;
  follows = can;
  first = subst (λ (b : BoardState). IsBoard b.cores b.bus start) (sym c.in_ok-first.ensures.copy) (c.copy.ensures.same start is);
  here = record { now = start; reached = refl; is = c.copy.ensures.same start is; within = omega arith };
  kept = all_none (λ (k : Checkpoint). IsAfter start c.args.turns.items k.turn k.board.cores k.board.bus) _ c.new.ensures.items;
}
