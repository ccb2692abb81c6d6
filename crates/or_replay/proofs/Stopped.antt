-- Cores of which each has stopped.
use Rattle.std.proofs.Common.{◌≡◌, ℕ, List, [], ◌∷◌, Some, None, refl, ap, ◌∙◌, true, false, cond, ◌&&◌, suc}
use Rattle.std.specs.Prelude.{Option, is_none, slice_get}
use Rattle.or_model.specs.declared.Stop.{Stop}
use Rattle.or_model.specs.Core.{Core}
use Rattle.or_replay.specs.Board.{all_stopped}

stopped_by : (core : Core) (stop : Option Stop) → core.stop ≡ stop → ¬ (core.stop ≡ None) → (cond (is_none core.stop) false true) ≡ true
stopped_by core None is runs_not = absurd (runs_not is)
stopped_by core (Some stop) is runs_not = ap (λ (s : Option Stop). cond (is_none s) false true) is

-- cores of which each has stopped
pub each_stopped : (cores : List Core) → ((c : ℕ) (core : Core) → slice_get cores c ≡ Some core → ¬ (core.stop ≡ None)) → all_stopped cores ≡ true
each_stopped [] each = refl
each_stopped (core ∷ cores) each =
    let here = stopped_by core core.stop refl (each 0 core refl) in
    let later = each_stopped cores (λ c other at. each (suc c) other at) in
    ap (λ b. b && all_stopped cores) here ∙ later
