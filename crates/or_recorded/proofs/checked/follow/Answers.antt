use Rattle.std.proofs.Common.{refl}
use Rattle.or_replay.specs.Start.{start}
use Rattle.or_recorded.proofs.Recorded.{led_to_end, run_checked}
use Rattle.or_recorded.proofs.checked.follow.Goals as goal

pub returns-in-Ok-clause-run : goal.returns-in-Ok-clause-run
returns-in-Ok-clause-run g c = λ image input text opened.
    let recording = c.args.run.recording in
    let first = start recording.head.config image input in
    run_checked image input text recording (record { recording = recording; board = c.follow_watched.new.self }) opened.of_run opened.sound
    (led_to_end first recording (record { recording = recording; board = c.follow_watched.new.self }) c.deref.result.now c.deref-2.result.now refl
    c.deref.ensures.value c.deref-2.ensures.value (c.in-Ok.ensures.exact first opened.is) (c.in-Ok.ensures.followed first opened.is))
