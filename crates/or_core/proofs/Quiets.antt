-- Steps of a quiet core.
use Rattle.std.proofs.Common.{◌≡◌, ℕ, ◌%◌, ◌<◌, Bool, true, false, cond, Option, Some, None, Ok, Err, refl, ap, sym, ◌∙◌, subst, arith, rules}
use Rattle.std.specs.Prelude.{not, is_some, option_map, IfOk, IfSome}
use Rattle.std.specs.Option.{ForSome}
use Rattle.std.proofs.lemmas.Bool.Decides.{nat_tests}
use Rattle.or_isa.specs.declared.Insn.{Insn}
use Rattle.or_isa.specs.declared.Insn.TheVariants.{Load, LoadLinked, Store, StoreConditional, MoveToSpecial}
use Rattle.or_isa.specs.Decode.{decode_of}
use Rattle.or_isa.specs.Fits.{Fits}
use Rattle.or_isa.specs.Bus.{needs_bus_of}
use Rattle.or_parts.specs.Lines.{held_word}
use Rattle.or_parts.specs.declared.Cause.{Cause}
use Rattle.or_parts.specs.declared.Cause.TheVariants.{Illegal}
use Rattle.or_model.specs.declared.Route.TheVariants.{At}
use Rattle.or_model.specs.Core.{Core}
use Rattle.or_model.specs.Execute.{executed}
use Rattle.or_model.specs.Routes.{fetch_route}
use Rattle.or_model.specs.Step.{due_interrupt, is_private, private_step, step_off_bus, empty_world, outcome, completed, is_misplaced, retired, spr_number}
use Rattle.or_core.specs.Next.{IsExecuted}
use Rattle.or_core.specs.Quiet.{IsQuiet, SameControl, is_plain}
use Rattle.or_core.proofs.Nexts.{executed-beside}
use Rattle.or_core.proofs.Controls.{executed-control}

-- no interrupt is due
quiet-due : (core : Core) → IsQuiet core → due_interrupt core ≡ None
unfolding due_interrupt
quiet-due core quiet = rw (quiet.tick, quiet.external) (neither (is_some core.branch))
  where
    neither : (slot : Bool) → cond {A = Option Cause} slot None None ≡ None
    neither true = refl
    neither false = refl

-- the fetch is cached and goes to pc
quiet-route : (core : Core) → IsQuiet core → core.pc % 4 ≡ 0 → core.pc < 0x80000000 → fetch_route core ≡ At core.pc true
unfolding fetch_route
quiet-route core quiet aligned low = rw (quiet.direct, quiet.cached) (grind (arith, nat_tests, aligned, low))

-- so the next step executes what stands at pc
pub quiet-next : (core : Core) (insn : Option Insn) → IsQuiet core → core.pc % 4 ≡ 0 → core.pc < 0x80000000 → option_map decode_of (held_word core.lines core.pc) ≡ Some insn → ForSome insn Fits → IsExecuted core insn
quiet-next core insn quiet aligned low found fits =
    executed-beside core core.pc true insn (quiet-due core quiet) (quiet-route core quiet aligned low) found fits

-- what is found at pc is executed
pub quiet-look : (core : Core) (found : Option (Option Insn)) → IsQuiet core → core.pc % 4 ≡ 0 → core.pc < 0x80000000 → found ≡ option_map decode_of (held_word core.lines core.pc) → IfSome found (λ insn. ForSome insn Fits) → IfSome found (IsExecuted core)
quiet-look core None quiet aligned low is fits = tt
quiet-look core (Some insn) quiet aligned low is fits = quiet-next core insn quiet aligned low (sym is) fits

plain-alone : (insn : Insn) (spr : ℕ) → is_plain insn ≡ true → needs_bus_of insn spr ≡ false
plain-alone (Load width sign d a i) spr plain = absurd (search rules)
plain-alone (LoadLinked d a i) spr plain = absurd (search rules)
plain-alone (Store width a b i) spr plain = absurd (search rules)
plain-alone (StoreConditional a b i) spr plain = absurd (search rules)
plain-alone (MoveToSpecial a b k) spr plain = absurd (search rules)
plain-alone _ spr plain = refl

-- what became of a core whose next step was a plain instruction that met no exception
pub record IsPlainStep (old next : Core) : Type 0 where
  pub alone : is_private old ≡ true
  pub step : private_step old ≡ retired next
  pub control : SameControl old next

outcome-control : (core : Core) (insn : Insn) → is_plain insn ≡ true → IfOk (outcome core (Some insn)) (SameControl core)
outcome-control core insn plain =
    elim (is_misplaced core insn) as (λ b. IfOk (cond b (Err Illegal) (executed insn core)) (SameControl core)) [ true ↦ tt | false ↦ executed-control insn core plain ]

pub plain_step : (old next : Core) (insn : Insn) → IsExecuted old (Some insn) → is_plain insn ≡ true → outcome old (Some insn) ≡ Ok next → IsPlainStep old next
unfolding private_step step_off_bus
plain_step old next insn executes plain is =
    let alone : needs_bus_of insn (spr_number old insn) ≡ false = plain-alone insn (spr_number old insn) plain in
    record {
      alone = executes.alone ∙ ap not alone;
      step = ap (λ s. s.core) (executes.state empty_world) ∙ rw alone (ap (λ r. completed r old) is);
      control = subst (λ r. IfOk r (SameControl old)) is (outcome-control old insn plain);
    }
