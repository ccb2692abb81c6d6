use Rattle.std.proofs.Common.{◌∙◌, sym, subst, ◌<◌, ◌+◌, ℕ, List, Result, length, vec_capacity, vec_len, OnErr}
use Rattle.or_text.proofs.Kept.{on_err_always}
use Rattle.or_words.specs.declared.NoMemory.{NoMemory}
use Rattle.or_prof.specs.Profile.{Addition, Profiled, IsProfile}
use Rattle.or_prof.specs.Text.{IsProfText}
use Rattle.or_prof.proofs.Fitting.{same_profile}
use Rattle.or_prof.proofs.profiling.Profile.write.Goals.{in-Ok, in-Err}
use Rattle.or_prof.proofs.profiling.Profile.write.Goals as goal

pub returns-clause-full : goal.returns-clause-full
returns-clause-full c = elim c.match-append_profile.branch [
  | in-Ok w ↦ subst (λ (r : Result (Unit {0}) NoMemory). OnErr r ((additions : List Addition) → IsProfile c.args.self.now additions
      → (text : List ℕ) → IsProfText c.args.self.now.hot (length c.args.self.now.cores) c.args.self.now.symbols additions text → vec_capacity c.args.out.now < vec_len c.args.out.now + length text))
      (sym w.result-is) tt
  | in-Err w ↦ on_err_always c.match-append_profile.result (subst (λ (p : Profiled). (additions : List Addition) → IsProfile p additions
      → (text : List ℕ) → IsProfText p.hot (length p.cores) p.symbols additions text → vec_capacity c.args.out.now < vec_len c.args.out.now + length text)
      (same_profile c.self.inside.hot c.self.inside.finder c.symbols.result.now c.self.inside.tallies.items c.deref.result.now c.symbols.ensures c.deref.ensures.value ∙ c.self.view_is) w.in-Err.ensures.full)
]
