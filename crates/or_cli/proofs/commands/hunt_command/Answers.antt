use Rattle.or_command_line.specs.Names.{hunt_names}
use Rattle.or_command.specs.Ends.{end_of}
use Rattle.or_command.proofs.OutcomesLemmas.{said_lacks}
use Rattle.or_command.proofs.AnsweredLemmas.{answered_by, decided_by, carried_by}
use Rattle.or_command_hunt.specs.Hunt.{hunt_loads, HuntVerdict, HuntWrites, HuntLacks, hunt_image_check}
use Rattle.or_command_hunt.proofs.Hunts.{hunt_carried}
use Rattle.std.proofs.Common.{◌≡◌, None}
use Rattle.or_cli.proofs.commands.hunt_command.Goals as goal

pub returns-clause-ends : goal.returns-clause-ends
returns-clause-ends g c =
    let names = hunt_names c.args.words.now in
    let options = c.args.words.now.options in
    let ends = c.hunt-outcome.ensures in
    let b = g.H.Host.state c.hunt-outcome.new.host in
    let d = g.H.Host.state c.conclude.new.host in record {
      heard = ends.heard;
      tries = ends.tries;
      answers = answered_by (hunt_loads names) (HuntVerdict names options) (HuntWrites names options) (HuntLacks names options) (end_of c.hunt-outcome.result) c.conclude.result ends.heard b d
          (λ left. said_lacks (hunt_loads names) (λ files. hunt_image_check names options files ≡ None) ends.heard b d left c.conclude.ensures.only) c.conclude.ensures.status ends.outcome ends.silent
          c.conclude.ensures.line c.conclude.ensures.only;
    }

pub returns-clause-complete : goal.returns-clause-complete
returns-clause-complete g c =
    let names = hunt_names c.args.words.now in
    let options = c.args.words.now.options in
    let ends = returns-clause-ends g c in record {
      heard = ends.heard;
      tries = ends.tries;
      decided = decided_by (hunt_loads names) (HuntVerdict names options) (HuntWrites names options) (HuntLacks names options) c.conclude.result ends.heard
          (g.H.Host.state c.conclude.new.host) ends.answers;
    }

pub returns-clause-command : goal.returns-clause-command
returns-clause-command g c =
    let names = hunt_names c.args.words.now in
    let options = c.args.words.now.options in
    let ends = returns-clause-ends g c in
    carried_by (hunt_loads names) (HuntVerdict names options) (HuntWrites names options) (HuntLacks names options) c.conclude.result ends.heard
    (g.H.Host.state c.conclude.new.host) (hunt_carried names options) ends.answers
