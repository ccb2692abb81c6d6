use Rattle.std.proofs.Common.{rules}
use Rattle.std.proofs.lemmas.List.Sorted.{answers_always}
use Rattle.or_prof.specs.declared.ranking.Line.{Line}
use Rattle.or_prof.proofs.ranking.put_in_order.Goals as goal

pub returns-clause-order : goal.returns-clause-order
returns-clause-order c = c.sort_unstable_by_key.ensures.sorted (λ (line : Line). (record { 0 = line.count }, line.key)) (answers_always _ _ _ (λ f a r q k. search rules))
