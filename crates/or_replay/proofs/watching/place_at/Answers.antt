use Rattle.std.proofs.Common.{◌∙◌, ap}
use Rattle.std.specs.Prelude.{slice_index_or}
use Rattle.or_model.specs.Core.{Core}
use Rattle.or_model.specs.Turn.{turn_begun}
use Rattle.or_replay.proofs.Turning.{has_room, turned_at, order_stays, get_is, one_core}
use Rattle.or_replay.proofs.watching.place_at.Goals as goal

pub place_core-requires-clause-spare : goal.place_core-requires-clause-spare
place_core-requires-clause-spare c =
    let core = slice_index_or c.args.cores.now c.args.place c.index-cores-place.result in
    let at = get_is c.args.cores.now c.args.place c.index-cores-place.result c.requires.runs.0 in
    let runs = c.requires.runs.1 core at in
    has_room c.args.cores.now c.args.place c.args.bus.now.spare core at runs (c.stop.ensures.running (c.stop.ensures.value ∙ runs)) c.requires.order.room

pub returns-clause-turned : goal.returns-clause-turned
returns-clause-turned c =
    let core = slice_index_or c.args.cores.now c.args.place c.index-cores-place-2.result in
    let at = get_is c.args.cores.now c.args.place c.index-cores-place-2.result c.requires.runs.0 in
    turned_at c.args.cores.now c.args.place core c.place_core.new.core c.args.bus.now c.place_core.new.bus c.place_core.ensures.turned at

pub returns-clause-order : goal.returns-clause-order
returns-clause-order c =
    let core = slice_index_or c.args.cores.now c.args.place c.index-cores-place-2.result in
    let at = get_is c.args.cores.now c.args.place c.index-cores-place-2.result c.requires.runs.0 in
    order_stays c.args.cores.now c.args.place core c.place_core.new.core c.args.bus.now c.place_core.new.bus c.place_core.ensures.turned at c.requires.order

pub returns-clause-pc : goal.returns-clause-pc
returns-clause-pc c = λ other found.
    let core = slice_index_or c.args.cores.now c.args.place c.index-cores-place-2.result in
    let at = get_is c.args.cores.now c.args.place c.index-cores-place-2.result c.requires.runs.0 in
    c.place_core.ensures.pc ∙ ap (λ (k : Core). (turn_begun k).core.pc) (one_core c.args.cores.now c.args.place core other at found)
