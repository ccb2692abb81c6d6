use Rattle.std.proofs.Common.{◌++◌, take}
use Rattle.std.proofs.KnownBytes.{Appends-trans}
use Rattle.or_host.proofs.WholeLemmas.{moves_on}
use Rattle.or_host.proofs.whole.write_whole.Goals as goal

pub loop-rest-preserved : goal.loop-rest-preserved
loop-rest-preserved g c =
    let (first, parts, written) = c.loop-rest.invariant in
    let rest = c.loop-rest.rest.now in
    let count = c.in-Ok.count in
    (first ++ take count rest, moves_on _ first rest count parts, Appends-trans _ _ _ _ _ written c.in-Ok.ensures.bytes)
