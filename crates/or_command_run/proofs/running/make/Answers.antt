use Rattle.std.proofs.Common.{ℕ, List, subst}
use Rattle.or_sched.specs.declared.recording.Head.{Head}
use Rattle.or_replay.specs.Start.{start}
use Rattle.or_board.specs.Works.{IsThreadedRun}
use Rattle.or_command_line.specs.Names.{run_names}
use Rattle.or_command_run.specs.Run.{IsRunFrom}
use Rattle.or_command_run.proofs.running.make.Goals as goal

pub returns-in-Ok-texts : goal.returns-in-Ok-texts
returns-in-Ok-texts g c =
    let names = run_names c.args.words.now in
    let config = c.args.words.now.options.config in
    let image = c.args.image.now in
    let texts = c.in-Ok-texts.texts in
    let run : IsThreadedRun (start config image c.args.input.now) c.in-Ok-run.closed =
    subst (λ (bytes : List ℕ). IsThreadedRun (start config image bytes) c.in-Ok-run.closed) c.in-Ok.ensures.1 c.in-Ok-run.ensures.run.1 in record {
      run = (
        c.in-Ok-run.ensures.run.0,
        subst (λ (head : Head). IsRunFrom names (start config image c.args.input.now) head image texts.recording.items texts.report.items texts.console.items texts.failed texts.lines.items) c.head.ensures
            (c.in-Ok-texts.ensures (start config image c.args.input.now) run),
      );
    }
