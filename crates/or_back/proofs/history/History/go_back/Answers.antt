use Rattle.std.proofs.Common.{refl, sym, subst, ap, ◌∙◌, slice_get, arith}
use Rattle.std.proofs.lemmas.Option.{slice_get_within}
use Rattle.or_replay.specs.Board.{BoardState, IsBoard}
use Rattle.or_back.proofs.history.History.go_back.Goals as goal

pub returns-in_err-board-clause-tells : goal.returns-in_err-board-clause-tells
returns-in_err-board-clause-tells c = λ start turns t. record { turns_are = t.turns_are; follows = t.follows; first = c.copy.ensures.same start t.first; here = t.here; kept = t.kept }

pub returns-in_default-clause-tells : goal.returns-in_default-clause-tells
returns-in_default-clause-tells c = λ start turns t. record {
  turns_are = t.turns_are;
  follows = t.follows;
  first = c.copy.ensures.same start t.first;
  here = record {
    now = start;
    reached = refl;
    is = subst (λ (b : BoardState). IsBoard b.cores b.bus start) (sym c.in_ok-board.ensures.copy) (c.copy.ensures.same start t.first);
    within = omega arith;
  };
  kept = t.kept;
}

pub copy_of-requires : goal.copy_of-requires
copy_of-requires c = let found = c.in-Some.ensures in slice_get_within c.args.self.now.kept.items c.in-Some.i found.one (ap (λ xs. slice_get xs c.in-Some.i) (sym c.deref.ensures.value) ∙ found.at)

pub invariant_of-self-2-clause-multiples : goal.invariant_of-self-2-clause-multiples
invariant_of-self-2-clause-multiples c = c.copy_of.ensures.multiples c.args.self.now.every c.args.self.now.multiples

pub invariant_of-self-in-Break-branch-2 : goal.invariant_of-self-in-Break-branch-2
invariant_of-self-in-Break-branch-2 c = record {
  within = c.args.self.now.within;
  steps = c.args.self.now.steps;
  few = omega (arith, c.copy_of.ensures.many, c.args.self.now.few);
  multiples = c.copy_of.ensures.multiples c.args.self.now.every c.args.self.now.multiples;
}
