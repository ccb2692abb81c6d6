-- When a run has failed.
use Rattle.std.specs.Prelude.{◌==◌, List, [], ◌∷◌, Option, Some, None, Bool, true, false, not, if◌then◌else◌}
use Rattle.or_model.specs.declared.Stop.{Stop}
use Rattle.or_model.specs.declared.Stop.TheVariants.{Exit, Budget}
use Rattle.or_model.specs.Core.{Core}

-- a core fails that stops by its budget, or with an exit value that is not 0
abbrev pub fails : Option Stop → Bool
fails None = false
fails (Some Budget) = true
fails (Some (Exit value)) = not (value == 0)

abbrev pub some_core_fails : List Core → Bool
some_core_fails [] = false
some_core_fails (core ∷ cores) = if fails core.stop then true else some_core_fails cores
