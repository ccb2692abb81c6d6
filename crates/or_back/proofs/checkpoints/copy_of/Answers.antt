use Rattle.std.proofs.Common.{◌≡◌, ◌<◌, ◌%◌, Some, slice_get, refl, ap}
use Rattle.std.proofs.lemmas.Option.{slice_get_read}
use Rattle.or_debug.specs.Standing.{IsAfter}
use Rattle.or_back.specs.declared.history.Checkpoint.{Checkpoint}
use Rattle.or_back.proofs.Keeping.{all_set, same_after, copy_after}
use Rattle.or_back.proofs.checkpoints.copy_of.Goals as goal

pub returns-in_err-board-clause-stand : goal.returns-in_err-board-clause-stand
returns-in_err-board-clause-stand c = λ start turns all.
    let one = c.index_mut-one.result.now in
    let at : slice_get c.args.kept.now.items c.args.i ≡ Some one = slice_get_read c.args.kept.now.items _ c.args.i one refl c.requires c.index_mut-one.ensures.value in
    all_set (λ (k : Checkpoint). IsAfter start turns k.turn k.board.cores k.board.bus) c.args.kept.now.items c.args.i _ all
    (same_after start turns one.turn one.board c.copy.new.self c.copy.ensures.same (all c.args.i one at))

pub returns-clause-stand : goal.returns-clause-stand
returns-clause-stand c = λ start turns all.
    let one = c.index_mut-one.result.now in
    let at : slice_get c.args.kept.now.items c.args.i ≡ Some one = slice_get_read c.args.kept.now.items _ c.args.i one refl c.requires c.index_mut-one.ensures.value in
    all_set (λ (k : Checkpoint). IsAfter start turns k.turn k.board.cores k.board.bus) c.args.kept.now.items c.args.i _ all
    (same_after start turns one.turn one.board c.copy.new.self c.copy.ensures.same (all c.args.i one at))

pub returns-clause-copied : goal.returns-clause-copied
returns-clause-copied c = λ start turns all.
    let one = c.index_mut-one.result.now in
    let at : slice_get c.args.kept.now.items c.args.i ≡ Some one = slice_get_read c.args.kept.now.items _ c.args.i one refl c.requires c.index_mut-one.ensures.value in
    copy_after start turns one.turn one.board c.copy.new.self c.in_ok-board.board c.copy.ensures.same c.in_ok-board.ensures.copy (all c.args.i one at)

pub returns-clause-turn : goal.returns-clause-turn
returns-clause-turn c = λ one e.
    let here = c.index_mut-one.result.now in
    let at : slice_get c.args.kept.now.items c.args.i ≡ Some here = slice_get_read c.args.kept.now.items _ c.args.i here refl c.requires c.index_mut-one.ensures.value in
    let same : here ≡ one = cc in
    ap (λ (k : Checkpoint). k.turn) same

pub returns-in_err-board-clause-multiples : goal.returns-in_err-board-clause-multiples
returns-in_err-board-clause-multiples c = λ every all.
    let one = c.index_mut-one.result.now in
    let at : slice_get c.args.kept.now.items c.args.i ≡ Some one = slice_get_read c.args.kept.now.items _ c.args.i one refl c.requires c.index_mut-one.ensures.value in
    all_set (λ (k : Checkpoint). (k.turn % every ≡ 0) × (0 < k.turn)) c.args.kept.now.items c.args.i _ all (all c.args.i one at)

pub returns-clause-multiples : goal.returns-clause-multiples
returns-clause-multiples c = λ every all.
    let one = c.index_mut-one.result.now in
    let at : slice_get c.args.kept.now.items c.args.i ≡ Some one = slice_get_read c.args.kept.now.items _ c.args.i one refl c.requires c.index_mut-one.ensures.value in
    all_set (λ (k : Checkpoint). (k.turn % every ≡ 0) × (0 < k.turn)) c.args.kept.now.items c.args.i _ all (all c.args.i one at)
