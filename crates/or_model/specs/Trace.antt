-- The trace of a turn: the pc before each of its steps.
use Rattle.std.specs.Prelude.{ℕ, zero, suc, if◌then◌else◌, List, [], ◌∷◌, ◌++◌}
use Rattle.or_words.specs.declared.limits.TheConstants.{MOST_PRIVATE_STEPS}
use Rattle.or_model.specs.Core.{Core}
use Rattle.or_model.specs.Step.{private_step}
use Rattle.or_model.specs.Turn.{Begun, steps_alone, turn_begun}

-- the pcs before up to so many private steps
unfoldable pub trace_within : ℕ → Core → List ℕ
trace_within zero core = []
trace_within (suc left) core = if steps_alone core then core.pc ∷ trace_within left (private_step core) else []

-- the pcs before the private steps of a turn
unfoldable pub private_trace : Core → List ℕ
private_trace core = trace_within MOST_PRIVATE_STEPS core

-- the pc before the step on the bus, if one follows
abbrev pub bus_trace : Begun → List ℕ
bus_trace begun = if begun.follows then begun.core.pc ∷ [] else []

-- the pcs before the steps of a turn, in order
unfoldable pub turn_trace : Core → List ℕ
turn_trace core = private_trace core ++ bus_trace (turn_begun core)
