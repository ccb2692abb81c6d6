use Rattle.std.proofs.Common.{◌≡◌, ◌∙◌, sym, subst, false, true, rules, ℕ}
use Rattle.or_replay.specs.Board.{all_stopped}
use Rattle.or_hunt.specs.Drawn.{drawn_stretch}
use Rattle.or_hunt.specs.Making.{IsStretched}
use Rattle.or_hunt.proofs.Makes.{under_way_first, under_way_on, under_way_ends, IsUnderWay}
use Rattle.or_hunt.proofs.making.draw_stretches.Goals as goal

pub loop-x-init : goal.loop-x-init
loop-x-init c = record {
  so_far = λ start is. under_way_first start c.args.greatest.now c.args.first c.args.made.now c.args.board.now.cores c.args.board.now.bus is c.requires.empty.0 c.requires.empty.1;
  many = c.requires.many;
}

pub loop-x-preserved : goal.loop-x-preserved
loop-x-preserved c =
    let e : all_stopped c.loop-x.board.cores ≡ false = search rules in
    let x = c.next_state-x.ensures in
    record {
      so_far = λ start is. subst (λ (y : ℕ). IsUnderWay start c.args.greatest.now c.args.first y c.draw_stretch.new.made c.draw_stretch.new.board.cores c.draw_stretch.new.board.bus) (sym x)
          (under_way_on start c.args.greatest.now c.args.first c.loop-x.x c.loop-x.made c.draw_stretch.new.made c.loop-x.board.cores c.draw_stretch.new.board.cores
          c.loop-x.board.bus c.draw_stretch.new.board.bus (c.loop-x.invariant.so_far start is) e c.in_ok-draw_stretch.ensures.left
          (λ now made. subst (λ (y : ℕ). IsStretched start c.loop-x.made c.draw_stretch.new.made c.draw_stretch.new.board.cores c.draw_stretch.new.board.bus now (drawn_stretch c.args.greatest.now y now)) x
          (c.in_ok-draw_stretch.ensures.stretched start now made)));
      many = c.loop-x.invariant.many ∙ sym c.in_ok-draw_stretch.ensures.many;
    }

pub returns : goal.returns
returns c = λ start is.
    let e : all_stopped c.loop-x.board.cores ≡ true = search rules in
    under_way_ends start c.args.greatest.now c.args.first c.loop-x.x c.loop-x.made c.loop-x.board.cores c.loop-x.board.bus (c.loop-x.invariant.so_far start is) e
