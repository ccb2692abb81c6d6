use Rattle.std.proofs.Common.{◌+◌}
use Rattle.std.specs.Prelude.{Ok}
use Rattle.or_recorded.proofs.Traced.{turn_traced, written_on}
use Rattle.or_recorded.proofs.tracing.trace_turn.Goals as goal

pub returns-in-Ok-clause-traced : goal.returns-in-Ok-clause-traced
returns-in-Ok-clause-traced g c = λ later whole before is.
    let made = c.append_wanted.new.made.items in
    let cores = c.append_wanted.new.board.cores in
    let bus = c.append_wanted.new.board.bus in
    let b = g.H.Host.state c.args.host.now in
    written_on c.args.options.now c.args.labels.now whole made c.write_full.new.made.items (c.args.number + 1) later cores bus before b (g.H.Host.state c.write_full.new.host)
    c.write_full.result
    (turn_traced c.args.options.now c.args.labels.now whole c.args.made.now.items made c.args.number c.args.core later c.args.board.now.cores cores c.args.board.now.bus bus before b
    (Ok c.in-Ok.field-0) is c.in-Ok.ensures)
    (λ rest so_far. c.write_full.ensures.writes rest whole before so_far)
