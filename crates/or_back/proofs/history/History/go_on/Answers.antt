use Rattle.std.proofs.Common.{ℕ, List, sym, subst, ◌∙◌}
use Rattle.or_debug.specs.Standing.{CanFollow, IsAfter}
use Rattle.or_back.specs.Tells.{AllStand}
use Rattle.or_back.proofs.history.History.go_on.Goals as goal

pub returns-clause-tells : goal.returns-clause-tells
returns-clause-tells c = λ start turns t.
    let same = c.deref.ensures.value ∙ t.turns_are in
    let old = c.args.self.now in
    let can = subst (CanFollow start) (sym same) t.follows in
    let here = subst (λ (l : List ℕ). IsAfter start l old.at old.board.cores old.board.bus) (sym same) t.here in
    let kept = subst (λ (l : List ℕ). AllStand start l old.kept.items) (sym same) t.kept in
    record {
      turns_are = t.turns_are;
      follows = t.follows;
      first = t.first;
      here = subst (λ (l : List ℕ). IsAfter start l c.args.to c.forward.new.board.cores c.forward.new.board.bus) same (c.forward.ensures.here start can here);
      kept = subst (λ (l : List ℕ). AllStand start l c.forward.new.kept.items) same (c.forward.ensures.kept start can here kept);
    }

pub invariant_of-self-clause-multiples : goal.invariant_of-self-clause-multiples
invariant_of-self-clause-multiples c = c.forward.ensures.multiples c.args.self.now.multiples
