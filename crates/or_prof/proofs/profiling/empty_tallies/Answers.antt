use Rattle.std.proofs.Common.{◌≡◌, ◌∙◌, sym, subst, List, Some, inl, inr, arith}
use Rattle.std.proofs.lemmas.Grind.{common_steps}
use Rattle.std.specs.Prelude.{slice_get}
use Rattle.or_prof.specs.Tally.{Counts}
use Rattle.or_prof.proofs.Gets.{get-snoc}
use Rattle.or_prof.proofs.profiling.empty_tallies.Goals as goal

pub loop-preserved : goal.loop-preserved
loop-preserved c = record {
  many = grind (arith, common_steps);
  each = λ core counts found.
      elim (get-snoc c.loop.tallies.items c.in_ok-open.field-0 counts core (subst (λ (l : List Counts). slice_get l core ≡ Some counts) c.in_ok-push.ensures.items found)) [
        | inl before ↦ c.loop.invariant.each core counts before
        | inr new ↦ sym new ∙ c.in_ok-open.ensures
      ];
}
