-- Loads and stores of a core: an exception, or the core and the world after them.
use Rattle.std.specs.Prelude.{ℕ, Bool, true, false, Option, Some, None, Result, Ok, Err}
use Rattle.or_words.specs.declared.Width.{Width}
use Rattle.or_words.specs.declared.Width.TheVariants.{Word}
use Rattle.or_words.specs.declared.ExtendKind.{ExtendKind}
use Rattle.or_words.specs.declared.ExtendKind.TheVariants.{Whole}
use Rattle.or_words.specs.Kind.{extended}
use Rattle.or_parts.specs.declared.Cause.{Cause}
use Rattle.or_parts.specs.declared.Cause.TheVariants.{BusError}
use Rattle.or_parts.specs.declared.Right.TheVariants.{Load, Store}
use Rattle.or_parts.specs.declared.status.TheConstants.{F}
use Rattle.or_parts.specs.Bits.{with_bits}
use Rattle.or_model.specs.declared.Route.{Route}
use Rattle.or_model.specs.declared.Route.TheVariants.{Refused, At}
use Rattle.or_model.specs.Core.{Core, set_register, next_instruction}
use Rattle.or_model.specs.World.{World}
use Rattle.or_model.specs.Bus.{Answer, load, store, load_linked, store_conditional}
use Rattle.or_model.specs.Routes.{data_route}

-- a core and the world round it
pub record State : Type 0 where
  pub core : Core
  pub world : World

-- what an instruction comes to: an exception, or a new state
abbrev pub Outcome : Type 0
Outcome = Result State Cause

-- the answer of a load is extended into register d; a bus error tells the effective address
abbrev pub with_value : Core → ℕ → ExtendKind → ℕ → Option (Answer ℕ) → Outcome
with_value core d kind ea (Some answer) = Ok (record { core = next_instruction (set_register core d (extended kind answer.value)); world = answer.after })
with_value core d kind ea None = Err (BusError ea)

abbrev pub loaded_by : Core → World → ℕ → Width → ExtendKind → ℕ → Route → Outcome
loaded_by core world d width kind ea (Refused cause) = Err cause
loaded_by core world d width kind ea (At pa cached) = with_value core d kind ea (load world core.number pa width cached)

-- a load into register d
unfoldable pub loaded : Core → World → ℕ → Width → ExtendKind → ℕ → Outcome
loaded core world d width kind ea = loaded_by core world d width kind ea (data_route core ea width Load)

abbrev pub with_store : Core → ℕ → Option World → Outcome
with_store core ea (Some after) = Ok (record { core = next_instruction core; world = after })
with_store core ea None = Err (BusError ea)

abbrev pub stored_by : Core → World → ℕ → Width → ℕ → Route → Outcome
stored_by core world v width ea (Refused cause) = Err cause
stored_by core world v width ea (At pa cached) = with_store core ea (store world core.number pa width v cached)

-- a store of a value
unfoldable pub stored_value : Core → World → ℕ → Width → ℕ → Outcome
stored_value core world v width ea = stored_by core world v width ea (data_route core ea width Store)

abbrev pub linked_by : Core → World → ℕ → ℕ → Route → Outcome
linked_by core world d ea (Refused cause) = Err cause
linked_by core world d ea (At pa cached) = with_value (record core { linked = true }) d Whole ea (load_linked world core.number pa cached)

-- l.lwa: for its rights it is a load
unfoldable pub loaded_linked : Core → World → ℕ → ℕ → Outcome
loaded_linked core world d ea = linked_by core world d ea (data_route core ea Word Load)

-- the flag tells whether the store was made, and the link is used up
abbrev pub with_success : Core → ℕ → Option (Answer Bool) → Outcome
with_success core ea (Some answer) = Ok (record { core = next_instruction (record core { sr = with_bits core.sr F answer.value; linked = false }); world = answer.after })
with_success core ea None = Err (BusError ea)

abbrev pub conditional_by : Core → World → ℕ → ℕ → Route → Outcome
conditional_by core world v ea (Refused cause) = Err cause
conditional_by core world v ea (At pa cached) = with_success core ea (store_conditional world core.number pa v cached core.linked)

-- l.swa: for its rights it is a store
unfoldable pub stored_conditional : Core → World → ℕ → ℕ → Outcome
stored_conditional core world v ea = conditional_by core world v ea (data_route core ea Word Store)
