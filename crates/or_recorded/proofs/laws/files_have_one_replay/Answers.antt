use Rattle.or_command_line.specs.Names.{recorded_names}
use Rattle.or_recorded.specs.Files.{with_report}
use Rattle.or_recorded.proofs.OneRun.{one_replay}
use Rattle.or_recorded.proofs.laws.files_have_one_replay.Goals as goal

pub returns : goal.returns
returns c = one_replay (with_report (recorded_names c.args.names.now) c.args.report.now) c.args.report.now
