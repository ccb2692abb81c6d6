use Rattle.std.proofs.Common.{◌∙◌}
use Rattle.or_debug.proofs.Following.{one_further, stored_further, made_further}
use Rattle.or_debug.proofs.turns.make_turn.Goals as goal

pub returns-clause-made : goal.returns-clause-made
returns-clause-made c start can here =
    let turns = c.args.turns.now in
    let place = c.args.place in
    let old = c.args.board.now in
    let new = c.observe.new.self in
    let board = one_further start turns place old.cores new.cores old.bus new.bus c.observe.result can here c.requires c.observe.ensures.turned in
    let stored = stored_further start turns place old.cores new.cores old.bus new.bus c.observe.result can here c.requires c.observe.ensures.turned c.observe.ensures.access in
    record { board = board; made_is = made_further start turns place c.pc_of.result c.stored_in-stored.result new.cores new.bus board c.pc_of.ensures (c.stored_in-stored.ensures ∙ stored) }
