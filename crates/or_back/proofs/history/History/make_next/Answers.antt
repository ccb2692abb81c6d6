use Rattle.std.proofs.Common.{ℕ, ◌+◌, List, sym, subst, ap, ◌∙◌}
use Rattle.or_debug.specs.Turns.{turn_made}
use Rattle.or_debug.specs.Standing.{CanFollow, IsAfter}
use Rattle.or_back.specs.Tells.{AllStand}
use Rattle.or_back.proofs.history.History.make_next.Goals as goal

pub returns-clause-tells : goal.returns-clause-tells
returns-clause-tells c = λ start turns t.
    let same = c.deref.ensures.value ∙ t.turns_are in
    let old = c.args.self.now in
    let can = subst (CanFollow start) (sym same) t.follows in
    let here = subst (λ (l : List ℕ). IsAfter start l old.at old.board.cores old.board.bus) (sym same) t.here in
    let kept = subst (λ (l : List ℕ). AllStand start l old.kept.items) (sym same) t.kept in
    record {
      turns_are = t.turns_are;
      follows = t.follows;
      first = t.first;
      here = subst (λ (l : List ℕ). IsAfter start l (old.at + 1) c.step-made.new.board.cores c.step-made.new.board.bus) same (c.step-made.ensures.made start can here).board;
      kept = subst (λ (l : List ℕ). AllStand start l c.step-made.new.kept.items) same (c.step-made.ensures.kept start can here kept);
    }

pub returns-clause-made : goal.returns-clause-made
returns-clause-made c = λ start turns t.
    let same = c.deref.ensures.value ∙ t.turns_are in
    let old = c.args.self.now in
    let can = subst (CanFollow start) (sym same) t.follows in
    let here = subst (λ (l : List ℕ). IsAfter start l old.at old.board.cores old.board.bus) (sym same) t.here in
    (c.step-made.ensures.made start can here).made_is ∙ ap (λ (l : List ℕ). turn_made start l old.at) same

pub invariant_of-self-clause-multiples : goal.invariant_of-self-clause-multiples
invariant_of-self-clause-multiples c = c.step-made.ensures.multiples c.args.self.now.multiples
