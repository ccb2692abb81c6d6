use Rattle.std.proofs.Common.{rules, ap}
use Rattle.std.specs.Prelude.{slice_index}
use Rattle.std.proofs.lemmas.Option.{slice_get-get_or}
use Rattle.or_replay.specs.Board.{BoardState}
use Rattle.or_replay.proofs.Followed.{advanced, no_core_stops, stopped_stops}
use Rattle.or_replay.proofs.follow.advance.Goals as goal

pub returns-in-Ok-clause-advanced : goal.returns-in-Ok-clause-advanced
returns-in-Ok-clause-advanced g c = λ start led.
    let n = c.args.place in
    let at = slice_get-get_or c.args.turns.now n 0 c.requires.inside in
    advanced c.args.block start c.args.turns.now c.args.marks.now n (slice_index c.args.turns.now n) c.in-Ok.field-0 c.compare.result c.mark.result
    c.args.board.now.cores c.watch.new.board.cores c.args.board.now.bus c.watch.new.board.bus c.requires.block led at c.in-Ok.ensures.turned c.mark.ensures c.compare.ensures

pub returns-in-Err-NoSuchCore-clause-advanced : goal.returns-in-Err-NoSuchCore-clause-advanced
returns-in-Err-NoSuchCore-clause-advanced g c = λ start led.
    let n = c.args.place in
    let at = slice_get-get_or c.args.turns.now n 0 c.requires.inside in
    no_core_stops c.args.block start c.args.turns.now c.args.marks.now n (slice_index c.args.turns.now n)
    c.args.board.now.cores c.watch.new.board.cores c.args.board.now.bus c.watch.new.board.bus led at (search rules)
    (ap (λ (b : BoardState). b.cores) c.in-Err-NoSuchCore.ensures.err) (ap (λ (b : BoardState). b.bus) c.in-Err-NoSuchCore.ensures.err)

pub returns-in-Err-CoreStopped-clause-advanced : goal.returns-in-Err-CoreStopped-clause-advanced
returns-in-Err-CoreStopped-clause-advanced g c = λ start led.
    let n = c.args.place in
    let at = slice_get-get_or c.args.turns.now n 0 c.requires.inside in
    stopped_stops c.args.block start c.args.turns.now c.args.marks.now n (slice_index c.args.turns.now n)
    c.args.board.now.cores c.watch.new.board.cores c.args.board.now.bus c.watch.new.board.bus led at (search rules)
    (ap (λ (b : BoardState). b.cores) c.in-Err-CoreStopped.ensures.err) (ap (λ (b : BoardState). b.bus) c.in-Err-CoreStopped.ensures.err)
