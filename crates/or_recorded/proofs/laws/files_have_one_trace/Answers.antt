use Rattle.or_command_line.specs.Names.{recorded_names}
use Rattle.or_recorded.proofs.OneRun.{one_trace}
use Rattle.or_recorded.proofs.laws.files_have_one_trace.Goals as goal

pub returns : goal.returns
returns c = one_trace (recorded_names c.args.names.now)
