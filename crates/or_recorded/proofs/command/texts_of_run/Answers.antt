use Rattle.std.proofs.Common.{refl}
use Rattle.or_recorded.specs.Files.{bytes_of_files}
use Rattle.or_recorded.specs.Command.{run_of}
use Rattle.or_recorded.proofs.command.texts_of_run.Goals as goal

pub make-requires-clause-checked : goal.make-requires-clause-checked
make-requires-clause-checked g c = c.in-Ok.ensures.run c.args.files.image.now c.args.files.input.now c.args.files.recording.now c.requires.opened

pub returns-in-Ok-make : goal.returns-in-Ok-make
returns-in-Ok-make g c =
    let checked = c.in-Ok.ensures.run c.args.files.image.now c.args.files.input.now c.args.files.recording.now c.requires.opened in
    record {
      run = run_of (bytes_of_files c.args.files) c.in-Ok.run'.recording;
      is = record { of = refl; checked = checked.checked };
      sound = c.in-Ok-make.ensures.0;
      makes = c.in-Ok-make.ensures.1;
    }

pub returns-in-Err-make : goal.returns-in-Err-make
returns-in-Err-make g c =
    let checked = c.in-Ok.ensures.run c.args.files.image.now c.args.files.input.now c.args.files.recording.now c.requires.opened in
    record {
      run = run_of (bytes_of_files c.args.files) c.in-Ok.run'.recording;
      is = record { of = refl; checked = checked.checked };
      fails = c.in-Err-make.ensures;
    }
