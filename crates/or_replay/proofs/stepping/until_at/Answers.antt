use Rattle.std.proofs.Common.{◌∙◌, sym, arith}
use Rattle.std.specs.Prelude.{slice_index_or}
use Rattle.or_replay.proofs.Turning.{has_room, order_kept, get_is}
use Rattle.or_replay.proofs.BegunTurns.{turned_until, runs_where, order_forgotten}
use Rattle.or_replay.proofs.stepping.until_at.Goals as goal

pub until_core-requires-clause-spare : goal.until_core-requires-clause-spare
until_core-requires-clause-spare c =
    let core = slice_index_or c.args.cores.now c.args.core c.index-cores-place.result in
    let at = get_is c.args.cores.now c.args.core c.index-cores-place.result (omega (arith, c.if-place-cores.false)) in
    let runs = runs_where c.stop.result (sym c.is_some.ensures ∙ c.if-is_some.false) in
    has_room c.args.cores.now c.args.core c.forget.new.self.spare core at (sym c.stop.ensures.value ∙ runs) (c.stop.ensures.running runs)
    (order_forgotten c.args.cores.now c.args.bus.now c.forget.new.self c.forget.ensures.after c.requires.order).room

pub returns-clause-until : goal.returns-clause-until
returns-clause-until c before begun =
    let core = slice_index_or c.args.cores.now c.args.core c.index-cores-place-2.result in
    let at = get_is c.args.cores.now c.args.core c.index-cores-place-2.result (omega (arith, c.if-place-cores.false)) in
    turned_until c.args.points.now c.args.most before c.args.core c.args.steps c.until_core.result c.args.cores.now core c.until_core.new.core c.args.bus.now c.forget.new.self c.until_core.new.bus begun
    c.forget.ensures.tracks at c.until_core.ensures.until

pub returns-clause-order : goal.returns-clause-order
returns-clause-order c =
    let core = slice_index_or c.args.cores.now c.args.core c.index-cores-place-2.result in
    let at = get_is c.args.cores.now c.args.core c.index-cores-place-2.result (omega (arith, c.if-place-cores.false)) in
    let order = c.until_core.ensures.order in
    order_kept c.args.cores.now c.args.core core c.until_core.new.core c.forget.new.self c.until_core.new.bus order.number order.left order.cores order.room at
    (order_forgotten c.args.cores.now c.args.bus.now c.forget.new.self c.forget.ensures.after c.requires.order)
