use Rattle.std.proofs.Common.{◌∙◌, cond, subst, List, ℕ}
use Rattle.std.proofs.lemmas.List.Sorted.{sum_by-IsPermutation}
use Rattle.or_prof.specs.declared.ranking.Line.{Line}
use Rattle.or_prof.specs.Tally.{spot_at}
use Rattle.or_prof.specs.Text.{is_line, AreSpots}
use Rattle.or_prof.proofs.ranking.rank_spots.Goals as goal

pub returns-clause-spots : goal.returns-clause-spots
returns-clause-spots c = λ line.
    sum_by-IsPermutation (λ (other : Line). cond (is_line line other) 1 0) c.list.new.lines.items c.put_in_order.new.lines.items c.put_in_order.ensures.same
    ∙ subst (λ (spots : List (ℕ × ℕ)). AreSpots (spot_at spots) c.list.new.lines.items) c.spots.ensures c.in_ok-list.ensures.lines line
