use Rattle.std.proofs.lemmas.Option.{slice_get_within}
use Rattle.or_back.proofs.moves.is_kept.Goals as goal

pub bounds-kept-i : goal.bounds-kept-i
bounds-kept-i c = let found = c.in-Some.ensures in slice_get_within c.args.kept.now c.in-Some.i found.one found.at
