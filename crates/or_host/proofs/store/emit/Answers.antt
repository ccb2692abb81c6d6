use Rattle.std.proofs.Common.{rules}
use Rattle.std.specs.Prelude.{vec_capacity, false}
use Rattle.or_host.proofs.FailingLemmas.{failed_grows}
use Rattle.or_host.specs.Failing.{GrowsListed}
use Rattle.or_host.proofs.store.emit.Goals as goal

pub returns-clause-prefix : goal.returns-clause-prefix
returns-clause-prefix c failed =
    let room = vec_capacity c.args.list.now in
    let grows : GrowsListed c.args.listed room c.args.bytes.now false c.args.list.now.items c.grow.new.list.items = search (rules, failed) in
    failed_grows c.args.listed room c.args.bytes.now c.args.list.now.items c.grow.new.list.items grows
