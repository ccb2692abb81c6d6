use Rattle.or_command.specs.Ends.{end_of}
use Rattle.or_command.proofs.AnsweredLemmas.{answered_by, decided_by, carried_by}
use Rattle.or_command_line.specs.Names.{recorded_names}
use Rattle.or_recorded.specs.Command.{Verdict, Writes}
use Rattle.or_recorded.specs.Files.{loads, run_alone}
use Rattle.or_recorded.specs.Trace.{trace_fault, MakesTrace, TraceLacks}
use Rattle.or_recorded.proofs.Statuses.{command_carried}
use Rattle.or_recorded.proofs.TraceEnding.{trace_lacks_said}
use Rattle.or_cli.proofs.commands.trace_command.Goals as goal

pub returns-clause-ends : goal.returns-clause-ends
returns-clause-ends g c =
    let options = c.args.options.now in
    let names = run_alone (recorded_names c.args.names.now) in
    let a = g.H.Host.state c.args.host.now in
    let b = g.H.Host.state c.trace-outcome.new.host in
    let d = g.H.Host.state c.conclude.new.host in
    answered_by (loads names) (Verdict trace_fault (MakesTrace options) names) (Writes trace_fault (MakesTrace options) names) (TraceLacks options names)
    (end_of c.trace-outcome.result) c.conclude.result a b d (λ left. trace_lacks_said options names a b d left c.conclude.ensures.only) c.conclude.ensures.status
    c.trace-outcome.ensures.outcome c.trace-outcome.ensures.silent c.conclude.ensures.line c.conclude.ensures.only

pub returns-clause-complete : goal.returns-clause-complete
returns-clause-complete g c =
    let options = c.args.options.now in
    let names = run_alone (recorded_names c.args.names.now) in
    decided_by (loads names) (Verdict trace_fault (MakesTrace options) names) (Writes trace_fault (MakesTrace options) names) (TraceLacks options names) c.conclude.result
    (g.H.Host.state c.args.host.now) (g.H.Host.state c.conclude.new.host) (returns-clause-ends g c)

pub returns-clause-command : goal.returns-clause-command
returns-clause-command g c =
    let options = c.args.options.now in
    let names = run_alone (recorded_names c.args.names.now) in
    carried_by (loads names) (Verdict trace_fault (MakesTrace options) names) (Writes trace_fault (MakesTrace options) names) (TraceLacks options names) c.conclude.result
    (g.H.Host.state c.args.host.now) (g.H.Host.state c.conclude.new.host) (command_carried trace_fault (MakesTrace options) names) (returns-clause-ends g c)
