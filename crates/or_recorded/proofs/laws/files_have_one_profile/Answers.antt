use Rattle.or_command_line.specs.Names.{recorded_names}
use Rattle.or_recorded.proofs.OneRun.{one_profile}
use Rattle.or_recorded.proofs.laws.files_have_one_profile.Goals as goal

pub returns : goal.returns
returns c = λ hot. one_profile hot (recorded_names c.args.names.now)
