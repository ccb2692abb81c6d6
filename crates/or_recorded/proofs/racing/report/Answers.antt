use Rattle.std.proofs.Common.{◌≡◌, subst, sym, List, ℕ, rules}
use Rattle.or_race.specs.Text.{RaceText}
use Rattle.or_recorded.proofs.racing.report.Goals as goal

pub returns : goal.returns
returns c = λ locks es r.
    let written = c.in_ok-write.ensures.ok locks es r in
    let same : c.write.new.out.items ≡ written.0 = search rules in
    subst (λ (t : List ℕ). RaceText locks c.args.symbols.now es t) (sym same) written.1
