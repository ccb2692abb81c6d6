-- What the next step of a core is.
use Rattle.std.specs.Prelude.{◌≡◌, ℕ, ◌%◌, Bool, true, false, not, Option, Some, None, option_map, option_and_then}
use Rattle.std.specs.Option.{ForSome}
use Rattle.or_isa.specs.declared.Insn.{Insn}
use Rattle.or_isa.specs.Decode.{decode_of}
use Rattle.or_isa.specs.Fits.{Fits}
use Rattle.or_parts.specs.declared.Cause.{Cause}
use Rattle.or_model.specs.Core.{Core, exception_entry}
use Rattle.or_model.specs.World.{World}
use Rattle.or_model.specs.Step.{step, step_by_insn, step_unheld, with_step_counted, is_private, wants_bus}
use Rattle.or_core.specs.declared.next.Next.{Next}
use Rattle.or_core.specs.declared.next.Next.TheVariants.{Enters, Held, Fetched}
use Rattle.or_core.specs.Access.{access_of_insn, access_of_word, word_fetched, step_access}
use Rattle.or_core.specs.TracedSteps.{exception_by_insn, exception_unheld, step_exception}

-- the next step enters an exception, which needs no bus
pub record IsEntered (core : Core) (cause : Cause) : Type 0 where
  pub alone : is_private core ≡ true
  pub state : (world : World) → step core world ≡ record { core = with_step_counted (exception_entry core cause); world = world }
  pub access : (world : World) → step_access core world ≡ None
  pub exception : (world : World) → step_exception core world ≡ Some cause

-- the next step executes an instruction of a held line, or a word that is none
pub record IsExecuted (core : Core) (insn : Option Insn) : Type 0 where
  pub alone : is_private core ≡ not (wants_bus core insn)
  pub state : (world : World) → step core world ≡ step_by_insn core world insn
  pub access : (world : World) → step_access core world ≡ access_of_insn core world insn
  pub exception : (world : World) → step_exception core world ≡ exception_by_insn core world insn
  pub fits : ForSome insn Fits

-- the next step has its word from the bus
pub record IsFetched (core : Core) (pa : ℕ) (cached : Bool) : Type 0 where
  pub waits : is_private core ≡ false
  pub state : (world : World) → step core world ≡ step_unheld core world pa cached
  pub access : (world : World) → step_access core world ≡ option_and_then (access_of_word core world) (word_fetched world pa cached)
  pub exception : (world : World) → step_exception core world ≡ exception_unheld core world pa cached
  pub aligned : pa % 4 ≡ 0

abbrev pub IsNext : Core → Next → Type 0
IsNext core (Enters cause) = IsEntered core cause
IsNext core (Held insn) = IsExecuted core insn
IsNext core (Fetched pa cached) = IsFetched core pa cached

-- an instruction is found beside a word exactly where the word is held
abbrev pub IsFoundBeside : Option ℕ → Option (Option Insn) → Type 0
IsFoundBeside word None = word ≡ None
IsFoundBeside word (Some insn) = (option_map decode_of word ≡ Some insn) × ForSome insn Fits
