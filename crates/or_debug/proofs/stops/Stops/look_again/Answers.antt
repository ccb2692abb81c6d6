use Rattle.std.proofs.Common.{◌≡◌, map}
use Rattle.or_debug.specs.Standing.{seen}
use Rattle.or_debug.proofs.Seen.{looked_all, looked_points}
use Rattle.or_debug.proofs.stops.Stops.look_again.Goals as goal

pub returns-clause-looked : goal.returns-clause-looked
returns-clause-looked c = λ now is.
    let ram = now.world.ram in
    let old = c.args.self.now in
    let watches : c.look_each.new.points.items ≡ map (seen ram) old.watches.items = c.look_each.ensures.points now is in
    let stores : c.look_each-2.new.points.items ≡ map (seen ram) old.stores.items = c.look_each-2.ensures.points now (c.look_each.ensures.board now is) in
    record {
      seen_is = record { watches = looked_all ram old.watches.items c.look_each.new.points.items watches; stores = looked_all ram old.stores.items c.look_each-2.new.points.items stores };
      points = looked_points ram old.breaks.items old.watches.items c.look_each.new.points.items old.stores.items c.look_each-2.new.points.items watches stores;
    }
