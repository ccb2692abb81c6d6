use Rattle.std.proofs.Common.{refl, subst, inr, ℕ, List}
use Rattle.or_command.specs.declared.pieces.PieceStop.{PieceStop}
use Rattle.or_command.specs.Pieces.{Wrote, WroteUntilFault, WroteUntilLack, StopsWriting}
use Rattle.or_recorded.specs.Command.{run_of}
use Rattle.or_recorded.specs.Trace.{trace_text}
use Rattle.or_recorded.specs.Files.{bytes_of_files}
use Rattle.or_recorded.proofs.TraceEnding.{text_of_run}
use Rattle.or_recorded.proofs.traced_run.finish.Goals as goal

pub returns-in-Ok-write_text-clause-outcome : goal.returns-in-Ok-write_text-clause-outcome
returns-in-Ok-write_text-clause-outcome g c =
    text_of_run c.args.options.now (bytes_of_files c.args.files) c.in-Ok.recording (λ (text : List ℕ). Wrote text (g.H.Host.state c.args.host.now) (g.H.Host.state c.write_text.new.host))
    c.in-Ok.ensures.run c.in-Ok-write_text.ensures.writes

pub returns-in-Err-Unwritten-clause-outcome : goal.returns-in-Err-Unwritten-clause-outcome
returns-in-Err-Unwritten-clause-outcome g c = (
  refl,
  text_of_run c.args.options.now (bytes_of_files c.args.files) c.in-Ok.recording
      (λ (text : List ℕ). WroteUntilFault text (g.H.Host.state c.args.host.now) (g.H.Host.state c.write_text.new.host))
      c.in-Ok.ensures.run
      (subst (λ (stop : PieceStop). StopsWriting stop (trace_text c.args.options.now (run_of (bytes_of_files c.args.files) c.in-Ok.recording)) (g.H.Host.state c.args.host.now) (g.H.Host.state c.write_text.new.host))
      c.in-Err-Unwritten.field-0-is c.in-Err-Unwritten.ensures.writes),
)

pub returns-in-Ok-clause-outcome : goal.returns-in-Ok-clause-outcome
returns-in-Ok-clause-outcome g c =
    inr (text_of_run c.args.options.now (bytes_of_files c.args.files) c.in-Ok.recording
    (λ (text : List ℕ). WroteUntilLack text (g.H.Host.state c.args.host.now) (g.H.Host.state c.write_text.new.host))
    c.in-Ok.ensures.run
    (subst (λ (stop : PieceStop). StopsWriting stop (trace_text c.args.options.now (run_of (bytes_of_files c.args.files) c.in-Ok.recording)) (g.H.Host.state c.args.host.now) (g.H.Host.state c.write_text.new.host))
    c.in-Err-NoMemory.field-0-is c.in-Err-NoMemory.ensures.writes))
