use Rattle.or_command_line.specs.Names.{recorded_names}
use Rattle.or_recorded.proofs.OneRun.{one_race_report}
use Rattle.or_recorded.proofs.laws.files_have_one_race_report.Goals as goal

pub returns : goal.returns
returns c = one_race_report (recorded_names c.args.names.now)
