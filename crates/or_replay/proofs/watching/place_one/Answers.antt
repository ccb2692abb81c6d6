use Rattle.std.proofs.Common.{rules, ◌≡◌, ◌∙◌, ap, sym, length, Some, List, ◌<◌}
use Rattle.std.specs.Prelude.{slice_index_or, slice_get}
use Rattle.or_model.specs.Core.{Core}
use Rattle.or_core.specs.Access.{turn_access}
use Rattle.or_replay.proofs.Turning.{get_is}
use Rattle.or_replay.proofs.LastPlaces.{placed_is}
use Rattle.or_replay.proofs.watching.place_one.Goals as goal

pub returns-clause-access : goal.returns-clause-access
returns-clause-access c = λ board is.
    let place = c.args.core in
    let inside : place < length c.args.cores.now = search rules in
    let core = slice_index_or c.args.cores.now place c.index-cores-place.result in
    let at : slice_get c.args.cores.now place ≡ Some core = get_is c.args.cores.now place c.index-cores-place.result inside in
    let told : c.last.result ≡ turn_access core board.world = search (rules, at, c.place_at-pc.ensures.access, is) in
    c.with_place.ensures ∙ placed_is board place c.place_at-pc.result core c.last.result (ap (λ (cores : List Core). slice_get cores place) (sym is.same_cores) ∙ at) (c.place_at-pc.ensures.pc core at) told
