use Rattle.or_command.specs.Ends.{end_of}
use Rattle.or_command.proofs.OutcomesLemmas.{said_lacks}
use Rattle.or_command.proofs.AnsweredLemmas.{answered_by, decided_by, carried_by}
use Rattle.or_recorded.specs.Files.{names_of, loads}
use Rattle.or_recorded.specs.Command.{Verdict, Writes, CommandLacks, FilesRunShort}
use Rattle.or_recorded.proofs.Statuses.{command_carried}
use Rattle.or_cli.proofs.commands.recorded_command.Goals as goal

pub returns-clause-ends : goal.returns-clause-ends
returns-clause-ends g c =
    let fault = g.C.RecordedCommand.fault c.args.command.now in
    let makes = g.C.RecordedCommand.Makes c.args.command.now in
    let names = names_of c.args.names.now in
    let a = g.H.Host.state c.args.host.now in
    let b = g.H.Host.state c.carry_out-outcome.new.host in
    let d = g.H.Host.state c.conclude.new.host in
    answered_by (loads names) (Verdict fault makes names) (Writes fault makes names) (CommandLacks names) (end_of c.carry_out-outcome.result) c.conclude.result a b d
    (λ left. said_lacks (loads names) (FilesRunShort names) a b d left c.conclude.ensures.only) c.conclude.ensures.status c.carry_out-outcome.ensures.outcome c.carry_out-outcome.ensures.silent
    c.conclude.ensures.line c.conclude.ensures.only

pub returns-clause-complete : goal.returns-clause-complete
returns-clause-complete g c =
    let fault = g.C.RecordedCommand.fault c.args.command.now in
    let makes = g.C.RecordedCommand.Makes c.args.command.now in
    let names = names_of c.args.names.now in
    decided_by (loads names) (Verdict fault makes names) (Writes fault makes names) (CommandLacks names) c.conclude.result
    (g.H.Host.state c.args.host.now) (g.H.Host.state c.conclude.new.host) (returns-clause-ends g c)

pub returns-clause-command : goal.returns-clause-command
returns-clause-command g c =
    let fault = g.C.RecordedCommand.fault c.args.command.now in
    let makes = g.C.RecordedCommand.Makes c.args.command.now in
    let names = names_of c.args.names.now in
    carried_by (loads names) (Verdict fault makes names) (Writes fault makes names) (CommandLacks names) c.conclude.result
    (g.H.Host.state c.args.host.now) (g.H.Host.state c.conclude.new.host) (command_carried fault makes names) (returns-clause-ends g c)
