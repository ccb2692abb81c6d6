use Rattle.std.proofs.Common.{rules}
use Rattle.std.specs.Prelude.{false}
use Rattle.or_host.specs.Failing.{AppendsListed}
use Rattle.or_host.specs.Store.{content_of, room_of}
use Rattle.or_host.proofs.FailingLemmas.{failed_appends}
use Rattle.or_host.proofs.memory.MemHostHost.append.Goals as goal

pub returns-clause-own : goal.returns-clause-own
returns-clause-own c =
    let listed = c.next_is_listed-listed.result in
    let name = c.args.name.now in
    let room = room_of c.args.self.now.files name in
    let old = content_of c.args.self.now.files name in
    let new = content_of c.grow_file.new.files name in
    let failed : AppendsListed listed room c.args.bytes.now false old new = search rules in
    failed_appends listed room c.args.bytes.now old new failed
