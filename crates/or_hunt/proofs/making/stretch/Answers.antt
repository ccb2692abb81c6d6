use Rattle.std.proofs.Common.{◌≡◌, ◌-◌, ◌<◌, ◌∙◌, refl, subst, true, false, inl, inr, arith, rules}
use Rattle.or_replay.specs.Board.{steps_left}
use Rattle.or_hunt.specs.Making.{IsAdvanced}
use Rattle.or_hunt.proofs.Makes.{stretching_first, stretching_on, stretching_ends, stretching_stops}
use Rattle.or_hunt.proofs.making.stretch.Goals as goal

pub loop-left-init : goal.loop-left-init
loop-left-init c = record {
  so_far = λ start now is. stretching_first start c.args.made.now c.args.board.now.cores c.args.board.now.bus c.args.core now c.args.most is;
  begun = inl (refl, c.requires.runs, refl);
  many = refl;
}

pub loop-left-preserved : goal.loop-left-preserved
loop-left-preserved c =
    let e : c.in_ok-advance.field-0 ≡ true = search rules in
    let fewer : steps_left c.advance.new.board.cores < steps_left c.loop-left.board.cores = c.in_ok-advance.ensures.moved e in
    record {
      so_far = λ start now is. stretching_on start c.args.made.now c.loop-left.made c.advance.new.made c.loop-left.board.cores c.advance.new.board.cores
          c.loop-left.board.bus c.advance.new.board.bus c.args.core now c.args.most c.loop-left.left (c.loop-left.left - 1) (omega (arith, c.loop-left-test.true))
          (c.loop-left.invariant.so_far start now is)
          (λ here made. subst (IsAdvanced start c.loop-left.made c.advance.new.made c.advance.new.board.cores c.advance.new.board.bus c.args.core here) e
          (c.in_ok-advance.ensures.advanced start here made));
      begun = elim c.loop-left.invariant.begun [ inl w ↦ inr (omega (arith, fewer, w.2)) | inr w ↦ inr (omega (arith, fewer, w)) ];
      many = c.in_ok-advance.ensures.many ∙ c.loop-left.invariant.many;
    }

pub returns-then-not-branch-clause-stretched : goal.returns-then-not-branch-clause-stretched
returns-then-not-branch-clause-stretched c = λ start now is.
    let e : c.in_ok-advance.field-0 ≡ false = search rules in
    stretching_stops start c.args.made.now c.loop-left.made c.advance.new.made c.loop-left.board.cores c.advance.new.board.cores
    c.loop-left.board.bus c.advance.new.board.bus c.args.core now c.args.most c.loop-left.left (c.loop-left.invariant.so_far start now is)
    (λ here made. subst (IsAdvanced start c.loop-left.made c.advance.new.made c.advance.new.board.cores c.advance.new.board.bus c.args.core here) e
    (c.in_ok-advance.ensures.advanced start here made))

pub returns-clause-stretched : goal.returns-clause-stretched
returns-clause-stretched c = λ start now is.
    stretching_ends start c.args.made.now c.loop-left.made c.loop-left.board.cores c.loop-left.board.bus c.args.core now c.args.most c.loop-left.left
    (omega (arith, c.loop-left-test.false)) (c.loop-left.invariant.so_far start now is)
