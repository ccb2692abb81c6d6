use Rattle.or_words.specs.Settings.{ram_bytes}
use Rattle.or_command_image.proofs.Headers.{sound_is_long}
use Rattle.or_recorded.proofs.Profiled.{opened_sees}
use Rattle.or_recorded.proofs.profiling.ProfRecordedCommand.begin.Goals as goal

pub open_profile-requires-clause-long : goal.open_profile-requires-clause-long
open_profile-requires-clause-long g c = sound_is_long c.args.files.image.now (ram_bytes c.args.config.now) c.requires.sound

pub returns-clause-seen : goal.returns-clause-seen
returns-clause-seen g c = λ turns cores bus is.
    opened_sees c.args.config.now c.args.files.image.now c.args.files.input.now turns c.open_profile.result cores bus c.requires.fits
    c.open_profile.ensures.cores c.open_profile.ensures.profile is
