use Rattle.std.proofs.Common.{sym, subst, Bool}
use Rattle.or_command_line.specs.Names.{recorded_names}
use Rattle.or_recorded.specs.Files.{run_alone}
use Rattle.or_recorded.specs.Race.{race_fault, MakesRaces}
use Rattle.or_cli.specs.Top.{on_a_run}
use Rattle.or_cli.proofs.commands.race_command.Goals as goal

pub returns-then-options-clause-ends : goal.returns-then-options-clause-ends
returns-then-options-clause-ends g c =
    subst (λ (locks : Bool). (on_a_run (race_fault c.args.options.places) (MakesRaces locks c.args.options.places) (run_alone (recorded_names c.args.names.now))).Ends
    c.recorded_command.result (g.H.Host.state c.args.host.now) (g.H.Host.state c.recorded_command.new.host)) (sym c.if-options.true) c.recorded_command.ensures.ends

pub returns-then-options-clause-complete : goal.returns-then-options-clause-complete
returns-then-options-clause-complete g c =
    subst (λ (locks : Bool). (on_a_run (race_fault c.args.options.places) (MakesRaces locks c.args.options.places) (run_alone (recorded_names c.args.names.now))).Decided
    c.recorded_command.result (g.H.Host.state c.args.host.now) (g.H.Host.state c.recorded_command.new.host)) (sym c.if-options.true) c.recorded_command.ensures.complete

pub returns-else-options-clause-ends : goal.returns-else-options-clause-ends
returns-else-options-clause-ends g c =
    subst (λ (locks : Bool). (on_a_run (race_fault c.args.options.places) (MakesRaces locks c.args.options.places) (run_alone (recorded_names c.args.names.now))).Ends
    c.recorded_command-else-options.result (g.H.Host.state c.args.host.now) (g.H.Host.state c.recorded_command-else-options.new.host)) (sym c.if-options.false) c.recorded_command-else-options.ensures.ends

pub returns-else-options-clause-complete : goal.returns-else-options-clause-complete
returns-else-options-clause-complete g c =
    subst (λ (locks : Bool). (on_a_run (race_fault c.args.options.places) (MakesRaces locks c.args.options.places) (run_alone (recorded_names c.args.names.now))).Decided
    c.recorded_command-else-options.result (g.H.Host.state c.args.host.now) (g.H.Host.state c.recorded_command-else-options.new.host)) (sym c.if-options.false) c.recorded_command-else-options.ensures.complete
