use Rattle.or_replay.specs.Start.{start}
use Rattle.or_recorded.proofs.TraceEnding.{checked_is}
use Rattle.or_recorded.proofs.traced_run.check_run.Goals as goal

pub follow-requires-clause-seen : goal.follow-requires-clause-seen
follow-requires-clause-seen c = (start c.in-Ok.run'.recording.head.config c.args.files.image.now c.args.files.input.now, tt)

pub returns-in-Ok-follow-clause-run : goal.returns-in-Ok-follow-clause-run
returns-in-Ok-follow-clause-run c =
    let image = c.args.files.image.now in
    let input = c.args.files.input.now in
    let text = c.args.files.recording.now in
    checked_is image input text c.in-Ok-follow.ended c.into_recording.result c.into_recording.ensures (c.in-Ok-follow.ensures.run image input text c.in-Ok.ensures.run)
