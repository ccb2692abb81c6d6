use Rattle.std.proofs.Common.{◌∙◌, ◌++◌, ap, length, length-append, arith}
use Rattle.std.specs.List.{flat_map}
use Rattle.or_debug.specs.Hits.{break_line}
use Rattle.or_debug.specs.Standing.{seen_line, seen_store}
use Rattle.or_text.proofs.Kept.{on_err_always}
use Rattle.or_debug.proofs.Seen.{hits_written, hits_long}
use Rattle.or_debug.proofs.stops.Stops.append_hits.Goals as goal

pub returns-clause-text : goal.returns-clause-text
returns-clause-text c = λ now before is has.
    let made = c.args.made in
    let ram = now.world.ram in
    hits_written made before ram c.args.text.now.items c.append_breaks.new.text.items c.append_changes.new.text.items c.append_stores.new.text.items c.args.self.now has
    (c.in_ok-append_breaks.ensures.text ∙ ap (λ points. c.args.text.now.items ++ flat_map (break_line made) points) c.as_slice.ensures.value)
    (c.in_ok-append_changes.ensures.text now is ∙ ap (λ points. c.append_breaks.new.text.items ++ flat_map (seen_line made.turn ram) points) c.as_slice-2.ensures.value)
    (c.in_ok-append_stores.ensures.text now (c.in_ok-append_changes.ensures.board now is)
    ∙ ap (λ points. c.append_changes.new.text.items ++ flat_map (seen_store made ram) points) c.as_slice-3.ensures.value)

pub returns-in_err-append_breaks-clause-full : goal.returns-in_err-append_breaks-clause-full
returns-in_err-append_breaks-clause-full c = on_err_always c.from_residual.result (λ now before is has.
    let long = hits_long c.args.made before now.world.ram c.args.self.now has in
    let breaks = ap (λ points. length (flat_map (break_line c.args.made) points)) c.as_slice.ensures.value in
    let lacks = c.in_err-append_breaks.ensures.full in
    grind (arith, long, breaks, lacks))

pub returns-in_err-append_changes-clause-full : goal.returns-in_err-append_changes-clause-full
returns-in_err-append_changes-clause-full c = on_err_always c.from_residual-in_err-append_changes.result (λ now before is has.
    let made = c.args.made in
    let ram = now.world.ram in
    let old = c.args.text.now.items in
    let long = hits_long made before ram c.args.self.now has in
    let breaks = ap length (c.in_ok-append_breaks.ensures.text ∙ ap (λ points. old ++ flat_map (break_line made) points) c.as_slice.ensures.value)
    ∙ length-append old (flat_map (break_line made) c.args.self.now.breaks.items) in
    let changes = ap (λ points. length (flat_map (seen_line made.turn ram) points)) c.as_slice-2.ensures.value in
    let more = c.in_ok-append_breaks.ensures.capacity in
    let lacks = c.in_err-append_changes.ensures.full now is in
    grind (arith, long, breaks, changes, more, lacks))

pub returns-in_err-append_stores-clause-full : goal.returns-in_err-append_stores-clause-full
returns-in_err-append_stores-clause-full c = on_err_always c.from_residual-in_err-append_stores.result (λ now before is has.
    let made = c.args.made in
    let ram = now.world.ram in
    let old = c.args.text.now.items in
    let mid = c.append_breaks.new.text.items in
    let long = hits_long made before ram c.args.self.now has in
    let breaks = ap length (c.in_ok-append_breaks.ensures.text ∙ ap (λ points. old ++ flat_map (break_line made) points) c.as_slice.ensures.value)
    ∙ length-append old (flat_map (break_line made) c.args.self.now.breaks.items) in
    let changes = ap length (c.in_ok-append_changes.ensures.text now is ∙ ap (λ points. mid ++ flat_map (seen_line made.turn ram) points) c.as_slice-2.ensures.value)
    ∙ length-append mid (flat_map (seen_line made.turn ram) c.args.self.now.watches.items) in
    let stores = ap (λ points. length (flat_map (seen_store made ram) points)) c.as_slice-3.ensures.value in
    let more = c.in_ok-append_breaks.ensures.capacity in
    let again = c.in_ok-append_changes.ensures.capacity in
    let lacks = c.in_err-append_stores.ensures.full now (c.in_ok-append_changes.ensures.board now is) in
    grind (arith, long, breaks, changes, stores, more, again, lacks))
