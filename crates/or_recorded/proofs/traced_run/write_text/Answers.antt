use Rattle.or_words.specs.Settings.{ram_bytes}
use Rattle.or_command_image.proofs.Headers.{sound_is_long}
use Rattle.or_recorded.proofs.traced_run.write_text.Goals as goal

pub read-requires-clause-long : goal.read-requires-clause-long
read-requires-clause-long g c = sound_is_long c.args.files.image.now (ram_bytes c.args.recording.now.head.config) c.requires.checked.sound
