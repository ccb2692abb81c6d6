use Rattle.or_recorded.specs.Command.{run_of}
use Rattle.or_recorded.specs.Files.{bytes_of_files}
use Rattle.or_recorded.proofs.Profiled.{profile_made}
use Rattle.or_recorded.proofs.profiling.ProfRecordedCommand.make.Goals as goal

pub returns-in-Ok-texts_of : goal.returns-in-Ok-texts_of
returns-in-Ok-texts_of g c =
    let texts = c.in-Ok-texts_of.texts in
    profile_made _ (run_of (bytes_of_files c.args.files) c.args.run.recording) c.args.watch.counted c.in-Ok.profile c.args.run.board.cores c.args.run.board.bus
    texts.report.items texts.console.items c.in-Ok.is c.requires.seen c.requires.kept c.in-Ok-texts_of.ensures
