use Rattle.std.proofs.Common.{◌∙◌, ap}
use Rattle.std.specs.Prelude.{slice_index_or}
use Rattle.or_model.specs.Core.{Core}
use Rattle.or_core.specs.TracedSteps.{turn_steps}
use Rattle.or_replay.proofs.Turning.{has_room, turned_at, order_stays, get_is, one_core}
use Rattle.or_replay.proofs.listing.list_at.Goals as goal

pub list_core-requires-clause-spare : goal.list_core-requires-clause-spare
list_core-requires-clause-spare c =
    let core = slice_index_or c.args.cores.now c.args.place c.index-cores-place.result in
    let at = get_is c.args.cores.now c.args.place c.index-cores-place.result c.requires.runs.0 in
    let runs = c.requires.runs.1 core at in
    has_room c.args.cores.now c.args.place c.args.bus.now.spare core at runs (c.stop.ensures.running (c.stop.ensures.value ∙ runs)) c.requires.order.room

pub returns-clause-turned : goal.returns-clause-turned
returns-clause-turned c =
    let core = slice_index_or c.args.cores.now c.args.place c.index-cores-place-2.result in
    let at = get_is c.args.cores.now c.args.place c.index-cores-place-2.result c.requires.runs.0 in
    turned_at c.args.cores.now c.args.place core c.list_core.new.core c.args.bus.now c.list_core.new.bus c.list_core.ensures.listed.turned at

pub returns-clause-order : goal.returns-clause-order
returns-clause-order c =
    let core = slice_index_or c.args.cores.now c.args.place c.index-cores-place-2.result in
    let at = get_is c.args.cores.now c.args.place c.index-cores-place-2.result c.requires.runs.0 in
    order_stays c.args.cores.now c.args.place core c.list_core.new.core c.args.bus.now c.list_core.new.bus c.list_core.ensures.listed.turned at c.requires.order

pub returns-clause-steps : goal.returns-clause-steps
returns-clause-steps c = λ other world found represents.
    let core = slice_index_or c.args.cores.now c.args.place c.index-cores-place-2.result in
    let at = get_is c.args.cores.now c.args.place c.index-cores-place-2.result c.requires.runs.0 in
    c.list_core.ensures.listed.listed world represents ∙ ap (λ (k : Core). turn_steps k world) (one_core c.args.cores.now c.args.place core other at found)
