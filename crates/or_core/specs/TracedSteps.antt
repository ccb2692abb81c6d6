-- The steps of a turn, each with its pc, the word that it executes and the exception that it enters.
use Rattle.std.specs.Prelude.{◌≡◌, ℕ, zero, suc, ◌%◌, IfSome, Bool, if◌then◌else◌, List, [], ◌∷◌, ◌++◌, Option, Some, None, Result, Ok, Err}
use Rattle.or_words.specs.declared.limits.TheConstants.{MOST_PRIVATE_STEPS}
use Rattle.or_isa.specs.declared.Insn.{Insn}
use Rattle.or_isa.specs.Decode.{decode_of}
use Rattle.or_isa.specs.Bus.{needs_bus_of}
use Rattle.or_parts.specs.declared.Cause.{Cause}
use Rattle.or_parts.specs.declared.Cause.TheVariants.{BusError}
use Rattle.or_model.specs.declared.Route.{Route}
use Rattle.or_model.specs.declared.Route.TheVariants.{Refused, At}
use Rattle.or_model.specs.declared.Fetched.{Fetched}
use Rattle.or_model.specs.Core.{Core}
use Rattle.or_model.specs.World.{World}
use Rattle.or_model.specs.Bus.{Answer, fetch}
use Rattle.or_model.specs.Routes.{fetch_route, cached_instruction}
use Rattle.or_model.specs.Step.{spr_number, outcome, outcome_on_bus, with_line, due_interrupt, private_step}
use Rattle.or_model.specs.Turn.{Begun, steps_alone, turn_begun}
use Rattle.or_core.specs.Access.{word_by}
use Rattle.or_core.specs.declared.traced_steps.TracedStep.{TracedStep}

-- the exception that an instruction comes to, unless it retires
abbrev pub exception_of : {A : Type 0} → Result A Cause → Option Cause
exception_of (Ok next) = None
exception_of (Err cause) = Some cause

-- the exception of an instruction, or of a word that is none
abbrev pub exception_by_insn : Core → World → Option Insn → Option Cause
exception_by_insn core world None = exception_of (outcome core None)
exception_by_insn core world (Some insn) =
    if needs_bus_of insn (spr_number core insn) then exception_of (outcome_on_bus core world insn) else exception_of (outcome core (Some insn))

unfoldable pub exception_by_word : Core → World → ℕ → Option Cause
exception_by_word core world word = exception_by_insn core world (decode_of word)

-- the exception of what the bus answers to a fetch
abbrev pub exception_by_fetch : Core → World → ℕ → Option (Answer Fetched) → Option Cause
exception_by_fetch core world pa (Some answer) = exception_by_word (with_line core pa answer.value.line) answer.after answer.value.word
exception_by_fetch core world pa None = Some (BusError core.pc)

unfoldable pub exception_unheld : Core → World → ℕ → Bool → Option Cause
exception_unheld core world pa cached = exception_by_fetch core world pa (fetch world pa cached)

-- the exception of a held word, or of the word that is fetched
abbrev pub exception_by_held : Core → World → ℕ → Bool → Option ℕ → Option Cause
exception_by_held core world pa cached (Some word) = exception_by_word core world word
exception_by_held core world pa cached None = exception_unheld core world pa cached

abbrev pub exception_by_route : Core → World → Route → Option Cause
exception_by_route core world (Refused cause) = Some cause
exception_by_route core world (At pa cached) = exception_by_held core world pa cached (cached_instruction core pa cached)

abbrev pub exception_by_interrupt : Core → World → Option Cause → Option Cause
exception_by_interrupt core world (Some cause) = Some cause
exception_by_interrupt core world None = exception_by_route core world (fetch_route core)

-- the exception that a step enters; none where its instruction retires
unfoldable pub step_exception : Core → World → Option Cause
step_exception core world = exception_by_interrupt core world (due_interrupt core)

-- the word that a step executes; none where an interrupt is due or the fetch meets an exception
unfoldable pub step_word : Core → World → Option ℕ
step_word core world = word_by core world (due_interrupt core)

-- A STEP, told by the core and the world before it
abbrev pub traced_step : Core → World → TracedStep
traced_step core world = record { pc = core.pc; word = step_word core world; exception = step_exception core world }

-- an instruction lies at a multiple of four
abbrev pub IsAligned : TracedStep → Type 0
IsAligned step = IfSome step.word (λ _. step.pc % 4 ≡ 0)

-- up to so many private steps; none of them changes the world
unfoldable pub steps_within : ℕ → Core → World → List TracedStep
steps_within zero core world = []
steps_within (suc left) core world = if steps_alone core then traced_step core world ∷ steps_within left (private_step core) world else []

-- the step on the bus, if one follows
abbrev pub bus_step : Begun → World → List TracedStep
bus_step begun world = if begun.follows then traced_step begun.core world ∷ [] else []

-- THE STEPS OF A TURN, in order
unfoldable pub turn_steps : Core → World → List TracedStep
turn_steps core world = steps_within MOST_PRIVATE_STEPS core world ++ bus_step (turn_begun core) world
