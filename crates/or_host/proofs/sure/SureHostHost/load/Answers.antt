use Rattle.std.proofs.Common.{rules, ◌≡◌, None, Some}
use Rattle.std.specs.Prelude.{vec_capacity}
use Rattle.or_host.specs.Given.{given}
use Rattle.or_host.proofs.FailingLemmas.{takes_given, takes_absent}
use Rattle.or_host.proofs.sure.SureHostHost.load.Goals as goal

pub returns-else-matches-clause-taken : goal.returns-else-matches-clause-taken
returns-else-matches-clause-taken c =
    let told : given c.args.self.now.files.items c.args.name.now ≡ Some c.in-Some.bytes.now = search rules in
    takes_given (given c.args.self.now.files.items c.args.name.now) c.in-Some.bytes.now c.args.max (vec_capacity c.args.into.now) c.load_whole-answer.result c.load_whole-answer.new.into.items told c.load_whole-answer.ensures

pub returns-in-None-clause-taken : goal.returns-in-None-clause-taken
returns-in-None-clause-taken c =
    let none : given c.args.self.now.files.items c.args.name.now ≡ None = search rules in
    takes_absent (given c.args.self.now.files.items c.args.name.now) c.args.max c.args.into.now.items none c.requires.empty
