use Rattle.std.proofs.Common.{◌∙◌, ap, length}
use Rattle.std.specs.Prelude.{slice_index_or}
use Rattle.or_model.specs.Trace.{turn_trace}
use Rattle.or_replay.proofs.Turning.{has_room, turned_at, order_stays, get_is, one_core, steps_at}
use Rattle.or_replay.proofs.watching.trace_at.Goals as goal

pub trace_core-requires-clause-spare : goal.trace_core-requires-clause-spare
trace_core-requires-clause-spare c =
    let core = slice_index_or c.args.cores.now c.args.place c.index-cores-place.result in
    let at = get_is c.args.cores.now c.args.place c.index-cores-place.result c.requires.runs.0 in
    let runs = c.requires.runs.1 core at in
    has_room c.args.cores.now c.args.place c.args.bus.now.spare core at runs (c.stop.ensures.running (c.stop.ensures.value ∙ runs)) c.requires.order.room

pub returns-clause-turned : goal.returns-clause-turned
returns-clause-turned c =
    let core = slice_index_or c.args.cores.now c.args.place c.index-cores-place-2.result in
    let at = get_is c.args.cores.now c.args.place c.index-cores-place-2.result c.requires.runs.0 in
    turned_at c.args.cores.now c.args.place core c.trace_core.new.core c.args.bus.now c.trace_core.new.bus c.trace_core.ensures.traced.turned at

pub returns-clause-order : goal.returns-clause-order
returns-clause-order c =
    let core = slice_index_or c.args.cores.now c.args.place c.index-cores-place-2.result in
    let at = get_is c.args.cores.now c.args.place c.index-cores-place-2.result c.requires.runs.0 in
    order_stays c.args.cores.now c.args.place core c.trace_core.new.core c.args.bus.now c.trace_core.new.bus c.trace_core.ensures.traced.turned at c.requires.order

pub returns-clause-places : goal.returns-clause-places
returns-clause-places c = λ other found.
    let core = slice_index_or c.args.cores.now c.args.place c.index-cores-place-2.result in
    let at = get_is c.args.cores.now c.args.place c.index-cores-place-2.result c.requires.runs.0 in
    c.trace_core.ensures.traced.places ∙ ap turn_trace (one_core c.args.cores.now c.args.place core other at found)

pub returns-clause-steps : goal.returns-clause-steps
returns-clause-steps c = λ before after found new_found.
    let core = slice_index_or c.args.cores.now c.args.place c.index-cores-place-2.result in
    let at = get_is c.args.cores.now c.args.place c.index-cores-place-2.result c.requires.runs.0 in
    steps_at c.args.cores.now c.args.place core c.trace_core.new.core before after (length c.trace_core.new.trace.items) at found new_found c.trace_core.ensures.traced.steps
