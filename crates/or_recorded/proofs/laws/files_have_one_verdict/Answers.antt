use Rattle.or_recorded.specs.Files.{names_of}
use Rattle.or_recorded.proofs.Verdicts.{one_verdict}
use Rattle.or_recorded.proofs.laws.files_have_one_verdict.Goals as goal

pub returns : goal.returns
returns g c = one_verdict (g.C.RecordedCommand.fault c.args.command.now) (g.C.RecordedCommand.Makes c.args.command.now) (names_of c.args.names.now)
