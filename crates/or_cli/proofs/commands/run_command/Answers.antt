use Rattle.std.proofs.Common.{◌≡◌, ℕ, List, None, subst, sym}
use Rattle.or_command_line.specs.Names.{run_names}
use Rattle.or_command.specs.Ends.{end_of}
use Rattle.or_command.specs.Carried.{IsCarriedOut}
use Rattle.or_command.proofs.OutcomesLemmas.{said_lacks}
use Rattle.or_command.proofs.AnsweredLemmas.{answered, decided, carried}
use Rattle.or_command_run.specs.Run.{run_loads, run_check, RunWrites, RunLacks}
use Rattle.or_command_run.specs.Budgets.{AreSaidBehind}
use Rattle.or_command_run.proofs.Runs.{run_carried, run_status_carried}
use Rattle.or_command_run.proofs.Behind.{decided_behind}
use Rattle.or_cli.proofs.commands.run_command.Goals as goal

pub returns-clause-ends : goal.returns-clause-ends
returns-clause-ends g c =
    let names = run_names c.args.words.now in
    let config = c.args.words.now.options.config in
    let failed = c.run-ended.result.failed in
    let lines = c.run-ended.result.lines.items in
    let a = g.H.Host.state c.args.host.now in
    let b = g.H.Host.state c.run-ended.new.host in
    let d = g.H.Host.state c.conclude-status.new.host in
    let e = g.H.Host.state c.say_budgets.new.host in record {
      failed = failed;
      lines = lines;
      plain = c.conclude-status.result;
      status_is = c.run_status.ensures;
      ended = d;
      answers = answered (run_loads names) (run_check names config) (RunWrites names config failed lines) (RunLacks names config) (end_of c.run-ended.result.outcome) c.conclude-status.result a b d
          (λ left. said_lacks (run_loads names) (λ files. run_check names config files ≡ None) a b d left c.conclude-status.ensures.only) c.conclude-status.ensures.status c.run-ended.ensures.outcome c.run-ended.ensures.silent
          c.conclude-status.ensures.line c.conclude-status.ensures.only;
      told = subst (λ (l : List ℕ). AreSaidBehind c.conclude-status.result l d e) c.as_slice.ensures.value c.say_budgets.ensures;
    }

pub returns-clause-complete : goal.returns-clause-complete
returns-clause-complete g c =
    let names = run_names c.args.words.now in
    let config = c.args.words.now.options.config in
    let ends = returns-clause-ends g c in
    let a = g.H.Host.state c.args.host.now in
    let e = g.H.Host.state c.say_budgets.new.host in record {
      failed = ends.failed;
      lines = ends.lines;
      plain = ends.plain;
      status_is = ends.status_is;
      decided = decided_behind (run_loads names) (run_check names config) (RunWrites names config ends.failed ends.lines) (RunLacks names config) ends.plain
          a ends.ended e (λ left. said_lacks (run_loads names) (λ files. run_check names config files ≡ None) a ends.ended e left ends.told.only)
          (decided (run_loads names) (run_check names config) (RunWrites names config ends.failed ends.lines) (RunLacks names config) ends.plain a ends.ended ends.answers) ends.told.only;
    }

pub returns-clause-command : goal.returns-clause-command
returns-clause-command g c =
    let names = run_names c.args.words.now in
    let options = c.args.words.now.options in
    let ends = returns-clause-ends g c in
    subst IsCarriedOut (sym ends.status_is)
    (run_status_carried options.status ends.failed ends.plain
    (carried (run_loads names) (run_check names options.config) (RunWrites names options.config ends.failed ends.lines) (RunLacks names options.config) ends.plain
    (g.H.Host.state c.args.host.now) ends.ended (run_carried names options.config) ends.answers))
