use Rattle.std.proofs.Common.{◌≡◌, ◌∙◌, ℕ, List, sym, ap, subst}
use Rattle.std.proofs.lemmas.Option.{MatchOption-at_some}
use Rattle.or_command_line.specs.Names.{hunt_names}
use Rattle.or_command.specs.Loads.{bytes_of}
use Rattle.or_command.specs.Ends.{end_of}
use Rattle.or_command.specs.Finishing.{WriteEnds}
use Rattle.or_command_image.specs.Loaded.{image_in, input_in}
use Rattle.or_command_image.specs.Written.{written_files}
use Rattle.or_command_hunt.specs.Finishing.{IsFound}
use Rattle.or_command_hunt.proofs.Hunts.{hunt_found, sound_check}
use Rattle.or_command_hunt.proofs.hunting.hunt_on.Goals as goal

pub returns-in-Ok-Some : goal.returns-in-Ok-Some
returns-in-Ok-Some g c =
    let names = hunt_names c.args.words.now in
    let options = c.args.words.now.options in
    let files = bytes_of c.args.files.now in
    let texts = c.in-Ok-Some.texts in
    let a = g.H.Host.state c.args.host.now in
    let b = g.H.Host.state c.make.new.host in
    let d = g.H.Host.state c.write_recorded.new.host in
    let found = subst (λ (input : List ℕ). IsFound names options (image_in files) input texts.recording.items texts.report.items texts.told.items) c.input_in.ensures
    (subst (λ (image : List ℕ). IsFound names options image c.input_in.result.now texts.recording.items texts.report.items texts.told.items) c.image_in.ensures (MatchOption-at_some _ _ _ c.in-Ok-Some.field-0-is c.in-Ok-Some.ensures.made)) in
    let end = end_of c.write_recorded.result in
    let recording = c.as_slice.ensures.value in
    let report = c.as_slice-in-Ok-Some.ensures.value in
    let told = c.as_slice-in-Ok-Some-2.ensures.value in
    let ends = subst (λ (text : List ℕ). WriteEnds (written_files names.schedule texts.recording.items names.report texts.report.items) text end b d) told
    (subst (λ (text : List ℕ). WriteEnds (written_files names.schedule texts.recording.items names.report text) c.as_slice-in-Ok-Some-2.result.now end b d) report
    (subst (λ (text : List ℕ). WriteEnds (written_files names.schedule text names.report c.as_slice-in-Ok-Some.result.now) c.as_slice-in-Ok-Some-2.result.now end b d) recording
    c.write_recorded.ensures.outcome)) in
    hunt_found names options files texts.recording.items texts.report.items texts.told.items end a b d
    (sound_check names options files c.requires.sound) c.make.ensures.heard found ends c.write_recorded.ensures.silent
