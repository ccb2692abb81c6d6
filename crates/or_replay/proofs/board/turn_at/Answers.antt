use Rattle.std.proofs.Common.{◌∙◌}
use Rattle.std.specs.Prelude.{slice_index_or}
use Rattle.or_replay.proofs.Turning.{has_room, turned_at, order_stays, steps_lessen, get_is}
use Rattle.or_replay.proofs.board.turn_at.Goals as goal

pub turn_core-requires-clause-spare : goal.turn_core-requires-clause-spare
turn_core-requires-clause-spare c =
    let core = slice_index_or c.args.cores.now c.args.place c.index-cores-place.result in
    let at = get_is c.args.cores.now c.args.place c.index-cores-place.result c.requires.runs.0 in
    let runs = c.requires.runs.1 core at in
    has_room c.args.cores.now c.args.place c.args.bus.now.spare core at runs (c.stop.ensures.running (c.stop.ensures.value ∙ runs)) c.requires.order.room

pub returns-clause-turned : goal.returns-clause-turned
returns-clause-turned c =
    let core = slice_index_or c.args.cores.now c.args.place c.index-cores-place-2.result in
    let at = get_is c.args.cores.now c.args.place c.index-cores-place-2.result c.requires.runs.0 in
    turned_at c.args.cores.now c.args.place core c.turn_core.new.core c.args.bus.now c.turn_core.new.bus c.turn_core.ensures.turned at

pub returns-clause-order : goal.returns-clause-order
returns-clause-order c =
    let core = slice_index_or c.args.cores.now c.args.place c.index-cores-place-2.result in
    let at = get_is c.args.cores.now c.args.place c.index-cores-place-2.result c.requires.runs.0 in
    order_stays c.args.cores.now c.args.place core c.turn_core.new.core c.args.bus.now c.turn_core.new.bus c.turn_core.ensures.turned at c.requires.order

pub returns-clause-left : goal.returns-clause-left
returns-clause-left c =
    let core = slice_index_or c.args.cores.now c.args.place c.index-cores-place-2.result in
    let at = get_is c.args.cores.now c.args.place c.index-cores-place-2.result c.requires.runs.0 in
    steps_lessen c.args.cores.now c.args.place core c.turn_core.new.core c.args.bus.now c.turn_core.new.bus c.turn_core.ensures.turned at
