-- An access on the bus makes no step by itself, and leaves the settings as they are.
use Rattle.std.proofs.Common.{ℕ, Bool, true, false, refl}
use Rattle.std.specs.Prelude.{Option, Some, None, Ok, Err}
use Rattle.or_words.specs.declared.Width.{Width}
use Rattle.or_words.specs.declared.Width.TheVariants.{Word}
use Rattle.or_words.specs.declared.ExtendKind.{ExtendKind}
use Rattle.or_words.specs.declared.ExtendKind.TheVariants.{Whole}
use Rattle.or_words.specs.Kind.{extended}
use Rattle.or_isa.specs.declared.Insn.{Insn}
use Rattle.or_isa.specs.declared.Insn.TheVariants as insn
use Rattle.or_parts.specs.declared.Right.TheVariants.{Load, Store}
use Rattle.or_model.specs.declared.Route.{Route}
use Rattle.or_model.specs.declared.Route.TheVariants.{Refused, At}
use Rattle.or_model.specs.Core.{Core}
use Rattle.or_model.specs.World.{World}
use Rattle.or_model.specs.Bus.{Answer, load, store, load_linked, store_conditional}
use Rattle.or_model.specs.Routes.{data_route}
use Rattle.or_model.specs.DataAccess.{Outcome, with_value, loaded_by, loaded, with_store, stored_by, stored_value, linked_by, loaded_linked, with_success, conditional_by, stored_conditional}
use Rattle.or_model.specs.Step.{executed_on_bus}
use Rattle.or_model.specs.Counts.{SameCounts}
use Rattle.or_model.proofs.Executes.{SameCounts-trans, set_register-counts, next_instruction-counts}

-- an access that was made left the counts as they were
abbrev pub KeepsCounts : Core → Outcome → Type 0
KeepsCounts core (Ok next) = SameCounts core next.core
KeepsCounts core (Err cause) = Unit {0}

with_value-counts : (core : Core) (d : ℕ) (kind : ExtendKind) (ea : ℕ) (answer : Option (Answer ℕ)) → KeepsCounts core (with_value core d kind ea answer)
with_value-counts core d kind ea (Some answer) = SameCounts-trans (set_register-counts core d (extended kind answer.value)) (next_instruction-counts _)
with_value-counts core d kind ea None = tt

loaded_by-counts : (core : Core) (world : World) (d : ℕ) (width : Width) (kind : ExtendKind) (ea : ℕ) (route : Route) → KeepsCounts core (loaded_by core world d width kind ea route)
loaded_by-counts core world d width kind ea (Refused cause) = tt
loaded_by-counts core world d width kind ea (At pa cached) = with_value-counts core d kind ea (load world core.number pa width cached)

loaded-counts : (core : Core) (world : World) (d : ℕ) (width : Width) (kind : ExtendKind) (ea : ℕ) → KeepsCounts core (loaded core world d width kind ea)
unfolding loaded
loaded-counts core world d width kind ea = loaded_by-counts core world d width kind ea (data_route core ea width Load)

with_store-counts : (core : Core) (ea : ℕ) (after : Option World) → KeepsCounts core (with_store core ea after)
with_store-counts core ea (Some after) = next_instruction-counts core
with_store-counts core ea None = tt

stored_by-counts : (core : Core) (world : World) (v : ℕ) (width : Width) (ea : ℕ) (route : Route) → KeepsCounts core (stored_by core world v width ea route)
stored_by-counts core world v width ea (Refused cause) = tt
stored_by-counts core world v width ea (At pa cached) = with_store-counts core ea (store world core.number pa width v cached)

stored_value-counts : (core : Core) (world : World) (v : ℕ) (width : Width) (ea : ℕ) → KeepsCounts core (stored_value core world v width ea)
unfolding stored_value
stored_value-counts core world v width ea = stored_by-counts core world v width ea (data_route core ea width Store)

with_link-counts : (core : Core) (linked : Bool) (sr : ℕ) → SameCounts core (record core { sr = sr; linked = linked })
with_link-counts core linked sr = record { steps = refl; settings = record { number = refl; cores = refl; budget = refl; latched = refl } }

with_linked_value-counts : (core : Core) (d ea : ℕ) (answer : Option (Answer ℕ)) → KeepsCounts core (with_value (record core { linked = true }) d Whole ea answer)
with_linked_value-counts core d ea (Some answer) =
    SameCounts-trans (with_link-counts core true core.sr) (SameCounts-trans (set_register-counts (record core { linked = true }) d answer.value) (next_instruction-counts _))
with_linked_value-counts core d ea None = tt

linked_by-counts : (core : Core) (world : World) (d ea : ℕ) (route : Route) → KeepsCounts core (linked_by core world d ea route)
linked_by-counts core world d ea (Refused cause) = tt
linked_by-counts core world d ea (At pa cached) = with_linked_value-counts core d ea (load_linked world core.number pa cached)

loaded_linked-counts : (core : Core) (world : World) (d ea : ℕ) → KeepsCounts core (loaded_linked core world d ea)
unfolding loaded_linked
loaded_linked-counts core world d ea = linked_by-counts core world d ea (data_route core ea Word Load)

with_success-counts : (core : Core) (ea : ℕ) (answer : Option (Answer Bool)) → KeepsCounts core (with_success core ea answer)
with_success-counts core ea (Some answer) = SameCounts-trans (with_link-counts core false _) (next_instruction-counts _)
with_success-counts core ea None = tt

conditional_by-counts : (core : Core) (world : World) (v ea : ℕ) (route : Route) → KeepsCounts core (conditional_by core world v ea route)
conditional_by-counts core world v ea (Refused cause) = tt
conditional_by-counts core world v ea (At pa cached) = with_success-counts core ea (store_conditional world core.number pa v cached core.linked)

stored_conditional-counts : (core : Core) (world : World) (v ea : ℕ) → KeepsCounts core (stored_conditional core world v ea)
unfolding stored_conditional
stored_conditional-counts core world v ea = conditional_by-counts core world v ea (data_route core ea Word Store)

-- whatever an instruction makes of a core on the bus
pub executed_on_bus-counts : (insn : Insn) (core : Core) (world : World) → KeepsCounts core (executed_on_bus insn core world)
unfolding executed_on_bus
executed_on_bus-counts (insn.LoadLinked d a i) core world = loaded_linked-counts core world d _
executed_on_bus-counts (insn.Load width extended d a i) core world = loaded-counts core world d _ _ _
executed_on_bus-counts (insn.StoreConditional a b i) core world = stored_conditional-counts core world _ _
executed_on_bus-counts (insn.Store width a b i) core world = stored_value-counts core world _ _ _
executed_on_bus-counts (insn.MoveToSpecial a b k) core world = next_instruction-counts core
executed_on_bus-counts _ core world = tt
