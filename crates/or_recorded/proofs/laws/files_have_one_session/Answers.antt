use Rattle.or_command_line.specs.Names.{recorded_names}
use Rattle.or_recorded.proofs.OneRun.{one_session}
use Rattle.or_recorded.proofs.laws.files_have_one_session.Goals as goal

pub returns : goal.returns
returns c = one_session (recorded_names c.args.names.now) c.args.script.now
