use Rattle.std.proofs.Common.{subst, sym, refl, ◌<◌, [], ◌∷◌, ◌++◌, length}
use Rattle.std.proofs.lemmas.Option.{slice_get_read}
use Rattle.std.specs.Prelude.{slice_set}
use Rattle.or_elf.specs.Symbols.{SymbolTable}
use Rattle.or_prof.specs.Profile.{Profiled, IsProfile}
use Rattle.or_prof.proofs.Added.{added}
use Rattle.or_prof.proofs.profiling.Profile.add.Goals as goal

pub returns-clause-profile : goal.returns-clause-profile
returns-clause-profile c = λ additions is.
    let cores = c.self.inside.tallies.items in
    let core = c.args.core in
    let hot = c.self.inside.hot in
    let old = c.index_mut-tally.result.now in
    let new = c.count_all.new.tally in
    let inside : core < length cores = subst (λ (p : Profiled). core < length p.cores) (sym c.self.view_is) c.requires.core in
    subst (λ (s : SymbolTable). IsProfile (record { symbols = s; hot = hot; cores = slice_set cores core new }) (additions ++ record { core = core; trace = c.args.trace.now } ∷ []))
    (sym c.count_all.ensures.symbols)
    (added hot c.self.inside.finder cores core c.args.trace.now old new additions (slice_get_read cores (length cores) core old refl inside c.index_mut-tally.ensures.value)
    c.in_ok-count_all.ensures.counts (subst (λ (p : Profiled). IsProfile p additions) (sym c.self.view_is) is))
