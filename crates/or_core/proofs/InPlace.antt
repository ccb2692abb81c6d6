-- Loads and stores of words may stand anywhere and in any mode.
use Rattle.std.proofs.Common.{◌≡◌, ℕ, Bool, true, false, cond, refl, ap}
use Rattle.std.specs.Prelude.{ℤ, Err, not, ◌&&◌, ◌||◌, is_some}
use Rattle.or_words.specs.declared.Width.TheVariants.{Word}
use Rattle.or_words.specs.declared.ExtendKind.TheVariants.{Whole}
use Rattle.or_isa.specs.declared.Insn.TheVariants.{Load, Store}
use Rattle.or_parts.specs.declared.Cause.TheVariants.{Illegal}
use Rattle.or_parts.specs.Bits.{plus, immediate}
use Rattle.or_model.specs.Core.{Core, register, is_supervisor}
use Rattle.or_model.specs.World.{World}
use Rattle.or_model.specs.DataAccess.{loaded, stored_value}
use Rattle.or_model.specs.Step.{outcome_on_bus, executed_on_bus, is_misplaced}

nowhere_barred : (slot supervisor : Bool) → ((slot && false) || (not supervisor && false)) ≡ false
nowhere_barred true true = refl
nowhere_barred true false = refl
nowhere_barred false true = refl
nowhere_barred false false = refl

pub load-in-place : (core : Core) (world : World) (signed : Bool) (d a : ℕ) (i : ℤ)
    → outcome_on_bus core world (Load Word signed d a i) ≡ loaded core world d Word Whole (plus (register core a) (immediate i))
unfolding executed_on_bus is_misplaced
load-in-place core world signed d a i =
    ap (λ barred. cond barred (Err Illegal) (loaded core world d Word Whole (plus (register core a) (immediate i)))) (nowhere_barred (is_some core.branch) (is_supervisor core))

pub store-in-place : (core : Core) (world : World) (a b : ℕ) (i : ℤ)
    → outcome_on_bus core world (Store Word a b i) ≡ stored_value core world (register core b) Word (plus (register core a) (immediate i))
unfolding executed_on_bus is_misplaced
store-in-place core world a b i =
    ap (λ barred. cond barred (Err Illegal) (stored_value core world (register core b) Word (plus (register core a) (immediate i)))) (nowhere_barred (is_some core.branch) (is_supervisor core))

pub ruleset words_in_place = (load-in-place, store-in-place)
