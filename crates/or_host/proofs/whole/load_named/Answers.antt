use Rattle.or_host.proofs.WholeLemmas.{takes_nothing_of}
use Rattle.or_host.proofs.whole.load_named.Goals as goal

pub returns-in-Err-clause-taken : goal.returns-in-Err-clause-taken
returns-in-Err-clause-taken g c = takes_nothing_of (g.F.NamedFiles.holds c.args.files.now c.args.name.now) c.args.max _ c.requires
