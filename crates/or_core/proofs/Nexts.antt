-- A held word and the instruction beside it.
use Rattle.std.proofs.Common.{◌≡◌, ℕ, Bool, Option, Some, None, refl, ◌∙◌, subst}
use Rattle.std.specs.Prelude.{not, option_map, option_and_then}
use Rattle.std.specs.Option.{option_or, ForSome}
use Rattle.or_isa.specs.declared.Insn.{Insn}
use Rattle.or_isa.specs.Decode.{decode_of}
use Rattle.or_isa.specs.Fits.{Fits}
use Rattle.or_model.specs.declared.Route.TheVariants.{At}
use Rattle.or_model.specs.Core.{Core}
use Rattle.or_model.specs.World.{World}
use Rattle.or_model.specs.Routes.{fetch_route, cached_instruction}
use Rattle.or_model.specs.Step.{step, step_by_held, step_by_insn, step_by_word, step_on_bus, is_private, is_private_word, wants_bus, due_interrupt}
use Rattle.or_core.specs.Access.{memory_operand, access_by, access_of_insn, access_of_word, word_fetched, step_access}
use Rattle.or_core.specs.TracedSteps.{exception_by_insn, exception_by_word, exception_by_held, step_exception}
use Rattle.or_core.specs.Next.{IsExecuted}
use Rattle.or_core.specs.Quiet.{IsAhead}

-- what a held word says is what the instruction beside it says
record IsBeside (core : Core) (pa : ℕ) (cached : Bool) (word : Option ℕ) (insn : Option Insn) : Type 0 where
  alone : is_private_word core word ≡ not (wants_bus core insn)
  state : (world : World) → step_by_held core world pa cached word ≡ step_by_insn core world insn
  access : (world : World) → option_and_then (access_of_word core world) (option_or word (word_fetched world pa cached)) ≡ access_of_insn core world insn
  exception : (world : World) → exception_by_held core world pa cached word ≡ exception_by_insn core world insn

beside : (core : Core) (pa : ℕ) (cached : Bool) (word : Option ℕ) (insn : Option Insn) → option_map decode_of word ≡ Some insn → IsBeside core pa cached word insn
unfolding step_by_word access_of_word exception_by_word
beside core pa cached None insn is = absurd (none_is_some is)
  where
    none_is_some : {X : Type 0} {x : X} → None ≡ Some x → ⊥
    none_is_some e = cc
beside core pa cached (Some word) insn is =
    subst (IsBeside core pa cached (Some word)) (same is) (record { alone = refl; state = λ world. refl; access = λ world. refl; exception = λ world. refl })
  where
    same : {X : Type 0} {x y : X} → Some x ≡ Some y → x ≡ y
    same e = cc

-- where no interrupt is due and the fetch finds an instruction beside a held word, the step executes it
pub executed-beside : (core : Core) (pa : ℕ) (cached : Bool) (insn : Option Insn) → due_interrupt core ≡ None → fetch_route core ≡ At pa cached
    → option_map decode_of (cached_instruction core pa cached) ≡ Some insn → ForSome insn Fits → IsExecuted core insn
unfolding is_private step step_access step_exception
executed-beside core pa cached insn due route found fits =
    let known : IsBeside core pa cached (cached_instruction core pa cached) insn = beside core pa cached (cached_instruction core pa cached) insn found in
    record {
      alone = rw (due, route) known.alone;
      state = λ world. rw (due, route) (known.state world);
      access = λ world. rw (due, route) (known.access world);
      exception = λ world. rw (due, route) (known.exception world);
      fits = fits;
    }

-- a step that is known to ask the bus
pub ahead-step : (core : Core) (insn : Insn) (world : World) → IsAhead core insn → step core world ≡ step_on_bus core world insn
ahead-step core insn world ahead = ahead.executed.state world ∙ rw ahead.asks

pub ahead-access : (core : Core) (insn : Insn) (world : World) → IsAhead core insn → step_access core world ≡ option_and_then (access_by core world) (memory_operand insn)
ahead-access core insn world ahead = ahead.executed.access world

pub ahead-fits : (core : Core) (insn : Insn) → IsAhead core insn → Fits insn
ahead-fits core insn ahead = ahead.executed.fits insn refl

pub ruleset step_ahead = (ahead-step, ahead-access, ahead-fits)
