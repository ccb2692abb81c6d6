use Rattle.std.proofs.Common.{subst, sym, List, ℕ}
use Rattle.std.proofs.lemmas.Result.{on_ok_weaker}
use Rattle.or_prof.specs.Tally.{spot_at}
use Rattle.or_prof.specs.Text.{AreSpots}
use Rattle.or_prof.proofs.Entries.{entries_are}
use Rattle.or_prof.proofs.spotting.Spots.list.Goals as goal

pub returns-clause-lines : goal.returns-clause-lines
returns-clause-lines c = on_ok_weaker c.list_entries.result (λ is.
    let entries = c.self.inside.counts.entries in
    subst (λ (spots : List (ℕ × ℕ)). AreSpots (spot_at spots) c.list_entries.new.lines.items) c.self.view_is
    (subst (AreSpots (spot_at entries)) (sym is) (entries_are entries c.list_entries.ensures.unique c.self.invariant))) c.list_entries.ensures.lines
