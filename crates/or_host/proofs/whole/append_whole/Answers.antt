use Rattle.std.proofs.Common.{◌++◌, take, [], refl}
use Rattle.or_host.proofs.WholeLemmas.{moves_on, adds_more, same_trans}
use Rattle.or_host.proofs.whole.append_whole.Goals as goal

pub loop-left-init : goal.loop-left-init
loop-left-init g c =
    let bytes = c.args.bytes.now in
    let count = c.in_ok-first.first in
    (take count bytes, moves_on bytes [] bytes count refl, c.in_ok-first.ensures.own, c.in_ok-first.ensures.others, c.in_ok-first.ensures.pairs)

pub loop-left-preserved : goal.loop-left-preserved
loop-left-preserved g c =
    let (first, parts, added, others, kept) = c.loop-left.invariant in
    let left = c.loop-left.left.now in
    let count = c.in_ok-count.count in (
      first ++ take count left,
      moves_on _ first left count parts,
      adds_more _ _ _ _ _ added c.in_ok-count.ensures.own,
      λ other ne. same_trans _ _ _ (others other ne) (c.in_ok-count.ensures.others other ne),
      λ one other. same_trans _ _ _ (kept one other) (c.in_ok-count.ensures.pairs one other),
    )
