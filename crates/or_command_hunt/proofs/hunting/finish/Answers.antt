use Rattle.std.proofs.Common.{ℕ, List, subst}
use Rattle.or_words.specs.Settings.{ram_bytes}
use Rattle.or_command_image.specs.Loaded.{image_in}
use Rattle.or_command_line.specs.Names.{hunt_names}
use Rattle.or_command.specs.Loads.{bytes_of}
use Rattle.or_command.specs.Ends.{end_of}
use Rattle.or_replay.specs.Opening.{FailsToOpen}
use Rattle.or_command_hunt.proofs.Hunts.{hunt_refused}
use Rattle.or_command_hunt.proofs.hunting.finish.Goals as goal

pub returns-in-Err : goal.returns-in-Err
returns-in-Err g c =
    let names = hunt_names c.args.words.now in
    let options = c.args.words.now.options in
    let files = bytes_of c.args.files.now in
    hunt_refused names options files (end_of c.refused.result) (g.H.Host.state c.args.host.now)
    (c.refused.ensures (image_in files) (ram_bytes options.config)
    (subst (λ (image : List ℕ). FailsToOpen image (ram_bytes options.config) c.in-Err.fault) c.image_in.ensures c.in-Err.ensures))
