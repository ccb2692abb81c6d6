use Rattle.std.proofs.Common.{subst, List}
use Rattle.std.specs.List.Sorted.{IsPermutation}
use Rattle.or_prof.specs.declared.ranking.Line.{Line}
use Rattle.or_prof.proofs.ranking.rank.Goals as goal

pub returns-clause-ranked : goal.returns-clause-ranked
returns-clause-ranked c = record {
  same = subst (λ (lines : List Line). IsPermutation lines c.put_in_order.new.lines.items) c.in_ok-fill.ensures.lines c.put_in_order.ensures.same;
  order = c.put_in_order.ensures.order;
}
