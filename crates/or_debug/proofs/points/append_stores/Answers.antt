use Rattle.std.proofs.Common.{ap, ◌∙◌, None, get_or, take, length, length-append, rules, arith}
use Rattle.std.specs.List.{flat_map}
use Rattle.std.proofs.lemmas.List.Folds.{length-flat_map-take}
use Rattle.or_debug.specs.Hits.{store_words}
use Rattle.or_debug.specs.Standing.{seen_store}
use Rattle.or_debug.specs.declared.points.Watchpoint.{Watchpoint}
use Rattle.or_text.proofs.Kept.{on_err_always}
use Rattle.or_debug.proofs.points.append_stores.Goals as goal

pub returns-in_err-append_store-clause-full : goal.returns-in_err-append_store-clause-full
returns-in_err-append_store-clause-full c = on_err_always c.from_residual.result (λ now is.
    let none : Watchpoint = record { address = 0; word = None } in
    let shown = seen_store c.args.made now.world.ram in
    let here = c.loop-point.point-index in
    let point = get_or c.args.points.now here none in
    let within = length-flat_map-take shown c.args.points.now here none (search rules) in
    let word = ap (λ w. length (store_words c.args.made point.address point.word w)) (c.word-word.ensures.value now (c.loop-point.invariant.board now is)) in
    let written = ap length (c.loop-point.invariant.text now is) ∙ length-append c.args.text.now.items (flat_map shown (take here c.args.points.now)) in
    let lacks = c.in_err-append_store.ensures.full in
    let more = c.loop-point.invariant.capacity in
    grind (arith, within, word, written, lacks, more))
