-- A step of a core adds one to its steps, keeps its settings, and stays within its budget.
use Rattle.std.proofs.Common.{◌≡◌, ℕ, ◌+◌, ◌<◌, Bool, true, false, cond, refl, ap, arith, ◌∙◌}
use Rattle.std.specs.Prelude.{List, Option, Some, None, Result, Ok, Err, IfOk, ◌==◌}
use Rattle.std.proofs.lemmas.Bool.Decides.{nat_tests}
use Rattle.or_isa.specs.declared.Insn.{Insn}
use Rattle.or_isa.specs.Decode.{decode_of}
use Rattle.or_isa.specs.Bus.{needs_bus_of}
use Rattle.or_parts.specs.declared.Cause.{Cause}
use Rattle.or_parts.specs.declared.Cause.TheVariants.{Illegal, BusError}
use Rattle.or_model.specs.declared.Stop.{Stop}
use Rattle.or_model.specs.declared.Stop.TheVariants.{Budget}
use Rattle.or_model.specs.declared.Fetched.{Fetched}
use Rattle.or_model.specs.declared.Route.{Route}
use Rattle.or_model.specs.declared.Route.TheVariants.{Refused, At}
use Rattle.or_model.specs.Core.{Core, exception_entry}
use Rattle.or_model.specs.World.{World}
use Rattle.or_model.specs.Bus.{Answer, fetch}
use Rattle.or_model.specs.Routes.{fetch_route, cached_instruction}
use Rattle.or_model.specs.Execute.{executed}
use Rattle.or_model.specs.DataAccess.{Outcome}
use Rattle.or_model.specs.Step.{stop_after, with_step_counted, retired, outcome, completed, is_misplaced, spr_number, step_off_bus, outcome_on_bus, executed_on_bus, completed_on_bus, step_on_bus, step_by_insn, step_by_word, due_interrupt, with_line, step_by_fetch, step_unheld, step_by_held, step_by_route, step_by_interrupt, step}
use Rattle.or_model.specs.Counts.{SameSettings, SameCounts, IsWithinBudget}
use Rattle.or_model.proofs.Executes.{SameSettings-trans, SameCounts-refl, exception_entry-counts, executed-counts}
use Rattle.or_model.proofs.Accesses.{KeepsCounts, executed_on_bus-counts}

-- one step was made
pub record AddsStep (old new : Core) : Type 0 where
  pub steps : new.steps ≡ old.steps + 1
  pub settings : SameSettings old new
  pub within : old.steps < old.budget → IsWithinBudget new

-- a core that had steps left has some left after one step more, or has stopped
stop_after-running : (stop : Option Stop) (steps budget : ℕ) → steps < budget → stop_after stop (steps + 1) budget ≡ None → steps + 1 < budget
stop_after-running (Some stop) steps budget room runs = absurd cc
stop_after-running None steps budget room runs = last_or_not (steps + 1 == budget) refl
  where
    last_or_not : (last : Bool) → (steps + 1 == budget) ≡ last → steps + 1 < budget
    last_or_not true is = absurd (let e : stop_after None (steps + 1) budget ≡ Some Budget = rw is in cc)
    last_or_not false is = grind (arith, nat_tests)

with_step_counted-adds : (core : Core) → AddsStep core (with_step_counted core)
unfolding with_step_counted
with_step_counted-adds core = record {
  steps = refl;
  settings = record { number = refl; cores = refl; budget = refl; latched = refl };
  within = λ room. record { steps = omega arith; running = λ runs. stop_after-running core.stop core.steps core.budget room runs };
}

-- what leaves the counts, and then one step
counts-then-step : {old middle new : Core} → SameCounts old middle → AddsStep middle new → AddsStep old new
counts-then-step same adds = record {
  steps = adds.steps ∙ ap (λ n. n + 1) same.steps;
  settings = SameSettings-trans same.settings adds.settings;
  within = λ room. adds.within (let a = same.steps in let b = same.settings.budget in omega arith);
}

step_of_entry : (core : Core) (cause : Cause) → AddsStep core (with_step_counted (exception_entry core cause))
step_of_entry core cause = counts-then-step (exception_entry-counts core cause) (with_step_counted-adds _)

with_timer-counts : (core : Core) (mode count : ℕ) → SameCounts core (record core { ttmr = mode; ttcr = count })
with_timer-counts core mode count = record { steps = refl; settings = record { number = refl; cores = refl; budget = refl; latched = refl } }

retired-adds : (core : Core) → AddsStep core (retired core)
unfolding retired
retired-adds core = counts-then-step (with_timer-counts core _ _) (with_step_counted-adds _)

completed-adds : (result : Result Core Cause) (core : Core) → IfOk result (SameCounts core) → AddsStep core (completed result core)
completed-adds (Ok next) core same = counts-then-step same (retired-adds next)
completed-adds (Err cause) core same = step_of_entry core cause

outcome_of-counts : (misplaced : Bool) (core : Core) (insn : Insn) → IfOk (cond misplaced (Err Illegal) (executed insn core)) (SameCounts core)
outcome_of-counts true core insn = tt
outcome_of-counts false core insn = executed-counts insn core

outcome-counts : (core : Core) (insn : Option Insn) → IfOk (outcome core insn) (SameCounts core)
outcome-counts core None = tt
outcome-counts core (Some insn) = outcome_of-counts (is_misplaced core insn) core insn

step_off_bus-adds : (core : Core) (insn : Option Insn) → AddsStep core (step_off_bus core insn)
unfolding step_off_bus
step_off_bus-adds core insn = completed-adds (outcome core insn) core (outcome-counts core insn)

completed_on_bus-adds : (result : Outcome) (core : Core) (world : World) → KeepsCounts core result → AddsStep core (completed_on_bus result core world).core
completed_on_bus-adds (Ok next) core world same = counts-then-step same (retired-adds next.core)
completed_on_bus-adds (Err cause) core world same = step_of_entry core cause

outcome_on_bus_of-counts : (misplaced : Bool) (core : Core) (world : World) (insn : Insn) → KeepsCounts core (cond misplaced (Err Illegal) (executed_on_bus insn core world))
outcome_on_bus_of-counts true core world insn = tt
outcome_on_bus_of-counts false core world insn = executed_on_bus-counts insn core world

step_on_bus-adds : (core : Core) (world : World) (insn : Insn) → AddsStep core (step_on_bus core world insn).core
unfolding step_on_bus
step_on_bus-adds core world insn = completed_on_bus-adds (outcome_on_bus core world insn) core world (outcome_on_bus_of-counts (is_misplaced core insn) core world insn)

step_where-adds : (on_bus : Bool) (core : Core) (world : World) (insn : Insn) → AddsStep core (cond on_bus (step_on_bus core world insn) (record { core = step_off_bus core (Some insn); world = world })).core
step_where-adds true core world insn = step_on_bus-adds core world insn
step_where-adds false core world insn = step_off_bus-adds core (Some insn)

step_by_insn-adds : (core : Core) (world : World) (insn : Option Insn) → AddsStep core (step_by_insn core world insn).core
step_by_insn-adds core world None = step_off_bus-adds core None
step_by_insn-adds core world (Some insn) = step_where-adds (needs_bus_of insn (spr_number core insn)) core world insn

step_by_word-adds : (core : Core) (world : World) (word : ℕ) → AddsStep core (step_by_word core world word).core
unfolding step_by_word
step_by_word-adds core world word = step_by_insn-adds core world (decode_of word)

with_line-counts : (core : Core) (pa : ℕ) (line : Option (List ℕ)) → SameCounts core (with_line core pa line)
with_line-counts core pa None = SameCounts-refl core
with_line-counts core pa (Some line) = record { steps = refl; settings = record { number = refl; cores = refl; budget = refl; latched = refl } }

step_by_fetch-adds : (core : Core) (world : World) (answer : Option (Answer Fetched)) (pa : ℕ) → AddsStep core (step_by_fetch core world answer pa).core
step_by_fetch-adds core world (Some answer) pa = counts-then-step (with_line-counts core pa answer.value.line) (step_by_word-adds _ answer.after answer.value.word)
step_by_fetch-adds core world None pa = step_of_entry core (BusError core.pc)

step_unheld-adds : (core : Core) (world : World) (pa : ℕ) (cached : Bool) → AddsStep core (step_unheld core world pa cached).core
unfolding step_unheld
step_unheld-adds core world pa cached = step_by_fetch-adds core world (fetch world pa cached) pa

step_by_held-adds : (core : Core) (world : World) (pa : ℕ) (cached : Bool) (held : Option ℕ) → AddsStep core (step_by_held core world pa cached held).core
step_by_held-adds core world pa cached (Some word) = step_by_word-adds core world word
step_by_held-adds core world pa cached None = step_unheld-adds core world pa cached

step_by_route-adds : (core : Core) (world : World) (route : Route) → AddsStep core (step_by_route core world route).core
step_by_route-adds core world (Refused cause) = step_of_entry core cause
step_by_route-adds core world (At pa cached) = step_by_held-adds core world pa cached (cached_instruction core pa cached)

step_by_interrupt-adds : (core : Core) (world : World) (cause : Option Cause) → AddsStep core (step_by_interrupt core world cause).core
step_by_interrupt-adds core world (Some cause) = step_of_entry core cause
step_by_interrupt-adds core world None = step_by_route-adds core world (fetch_route core)

-- a step adds one step
pub step-adds : (core : Core) (world : World) → AddsStep core (step core world).core
unfolding step
step-adds core world = step_by_interrupt-adds core world (due_interrupt core)
