use Rattle.std.proofs.Common.{◌≡◌, ◌∙◌, refl, ap, length, arith}
use Rattle.or_sched.specs.RecText.{rec_text2}
use Rattle.or_replay.specs.Marks.{marks}
use Rattle.or_replay.specs.Report.{report_text}
use Rattle.or_replay.specs.Failing.{some_core_fails}
use Rattle.or_command_image.specs.Written.{made_for}
use Rattle.or_command_run.specs.Budgets.{budget_lines}
use Rattle.or_command_run.proofs.running.texts.Goals as goal

pub returns : goal.returns
returns c = λ start run.
    let count : c.len-turns.result ≡ length c.args.closed.schedule.items = omega (arith, c.len-turns.ensures, c.deref.ensures.len, ap length c.deref.ensures.value) in
    let cores = c.as_slice-3.ensures.value ∙ run.is.same_cores in
    let schedule = c.args.words.now.schedule.now in
    let report = c.args.words.now.report.now in record {
      whole = rec_text2 c.args.head.now c.args.closed.schedule.items (marks start c.args.closed.schedule.items);
      run = record {
        schedule = c.args.closed.schedule.items;
        last = run.last;
        replayed = run.replayed;
        stopped = run.stopped;
        recorded = refl;
        shown = c.in_ok-told.ensures.console run.last cores run.is.represents;
      };
      recorded = c.in_ok-recording.ensures
          ∙ (λ i. made_for schedule (rec_text2 c.args.head.now (c.deref.ensures.value i) ((c.deref-2.ensures.value ∙ run.marks_are) i)));
      failed_is = c.has_failed-failed.ensures ∙ ap some_core_fails (c.as_slice.ensures.value ∙ run.is.same_cores);
      lines_are = c.in_ok-lines.ensures ∙ ap (budget_lines c.args.image.now c.args.head.now.config.budget) (c.as_slice-2.ensures.value ∙ run.is.same_cores);
      reported = c.in_ok-told.ensures.report run.last cores run.is.represents ∙ (λ i. made_for report (report_text run.last (count i)));
    }
