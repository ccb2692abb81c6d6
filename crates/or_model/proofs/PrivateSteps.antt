-- A private step reads no world and changes none.
use Rattle.std.proofs.Common.{◌≡◌, ℕ, Bool, true, false, cond, refl}
use Rattle.std.specs.Prelude.{Option, Some, None, not}
use Rattle.or_isa.specs.declared.Insn.{Insn}
use Rattle.or_isa.specs.Decode.{decode_of}
use Rattle.or_isa.specs.Bus.{needs_bus_of}
use Rattle.or_parts.specs.declared.Cause.{Cause}
use Rattle.or_model.specs.declared.Route.{Route}
use Rattle.or_model.specs.declared.Route.TheVariants.{Refused, At}
use Rattle.or_model.specs.Core.{Core}
use Rattle.or_model.specs.World.{World}
use Rattle.or_model.specs.Routes.{fetch_route, cached_instruction}
use Rattle.or_model.specs.DataAccess.{State}
use Rattle.or_model.specs.Step.{spr_number, wants_bus, step_off_bus, step_on_bus, step_by_insn, step_by_word, step_by_held, step_by_route, step_by_interrupt, due_interrupt, is_private_word, is_private_route, is_private_by, is_private, private_step, step, empty_world}

-- the state is that of the empty world, but for the world, which stays
abbrev pub Ignores : (World → State) → World → Type 0
Ignores stepped world = stepped world ≡ record { core = (stepped empty_world).core; world = world }

ignores_where : (wants : Bool) (core : Core) (world : World) (insn : Insn) → not wants ≡ true → Ignores (λ w. cond wants (step_on_bus core w insn) (record { core = step_off_bus core (Some insn); world = w })) world
ignores_where true core world insn alone = absurd cc
ignores_where false core world insn alone = refl

ignores_by_insn : (core : Core) (world : World) (insn : Option Insn) → not (wants_bus core insn) ≡ true → Ignores (λ w. step_by_insn core w insn) world
ignores_by_insn core world None alone = refl
ignores_by_insn core world (Some insn) alone = ignores_where (needs_bus_of insn (spr_number core insn)) core world insn alone

ignores_by_held : (core : Core) (world : World) (pa : ℕ) (cached : Bool) (held : Option ℕ) → is_private_word core held ≡ true → Ignores (λ w. step_by_held core w pa cached held) world
unfolding step_by_word
ignores_by_held core world pa cached None alone = absurd cc
ignores_by_held core world pa cached (Some word) alone = ignores_by_insn core world (decode_of word) alone

ignores_by_route : (core : Core) (world : World) (route : Route) → is_private_route core route ≡ true → Ignores (λ w. step_by_route core w route) world
ignores_by_route core world (Refused cause) alone = refl
ignores_by_route core world (At pa cached) alone = ignores_by_held core world pa cached (cached_instruction core pa cached) alone

ignores_by_interrupt : (core : Core) (world : World) (cause : Option Cause) → is_private_by core cause ≡ true → Ignores (λ w. step_by_interrupt core w cause) world
ignores_by_interrupt core world (Some cause) alone = refl
ignores_by_interrupt core world None alone = ignores_by_route core world (fetch_route core) alone

-- where the next step is private, it is the same in every world, and leaves the world as it is
pub private_step-world : (core : Core) (world : World) → is_private core ≡ true → step core world ≡ record { core = private_step core; world = world }
unfolding is_private private_step step
private_step-world core world alone = ignores_by_interrupt core world (due_interrupt core) alone
