-- When the steps of a core need no look at its timer, its interrupts and its translation.
use Rattle.std.specs.Prelude.{◌≡◌, ◌/◌, Bool, true, false, not, ◌==◌, ◌&&◌, bit_and, Some}
use Rattle.or_isa.specs.declared.Insn.{Insn}
use Rattle.or_isa.specs.declared.Insn.TheVariants.{Nop, SystemCall, Trap, ReturnFromException, Load, LoadLinked, Store, StoreConditional, MoveToSpecial}
use Rattle.or_parts.specs.declared.status.TheConstants.{TEE, IEE, ICE, IME}
use Rattle.or_parts.specs.Bits.{has}
use Rattle.or_parts.specs.Timer.{is_tick_pending}
use Rattle.or_parts.specs.Interrupts.{is_pic_pending}
use Rattle.or_isa.specs.Bus.{needs_bus_of}
use Rattle.or_model.specs.Core.{Core}
use Rattle.or_model.specs.Step.{spr_number}
use Rattle.or_core.specs.Next.{IsExecuted}

-- SR has ICE and not IME, the tick timer does not count, and no interrupt that is enabled is pending
pub record IsQuiet (core : Core) : Type 0 where
  pub cached : has core.sr ICE ≡ true
  pub direct : has core.sr IME ≡ false
  pub still : core.ttmr / 0x40000000 ≡ 0
  pub tick : (has core.sr TEE && is_tick_pending core.ttmr) ≡ false
  pub external : (has core.sr IEE && is_pic_pending core.picmr core.picsr) ≡ false

-- what decides whether a core is quiet: TTMR, PICMR, PICSR, and of SR the bits TEE, IEE, ICE and IME; and that it runs
pub record SameControl (old new : Core) : Type 0 where
  pub ttmr : new.ttmr ≡ old.ttmr
  pub picmr : new.picmr ≡ old.picmr
  pub picsr : new.picsr ≡ old.picsr
  pub status : bit_and new.sr 0x56 ≡ bit_and old.sr 0x56
  pub stop : new.stop ≡ old.stop

-- an instruction that asks nothing of the bus, writes none of that, and is no exception by itself
abbrev pub is_plain : Insn → Bool
is_plain (Nop k) = not (k == 1)
is_plain (SystemCall k) = false
is_plain (Trap k) = false
is_plain ReturnFromException = false
is_plain (Load width sign d a i) = false
is_plain (LoadLinked d a i) = false
is_plain (Store width a b i) = false
is_plain (StoreConditional a b i) = false
is_plain (MoveToSpecial a b k) = false
is_plain _ = true

-- the next step executes an instruction that asks the bus
pub record IsAhead (core : Core) (insn : Insn) : Type 0 where
  pub executed : IsExecuted core (Some insn)
  pub asks : needs_bus_of insn (spr_number core insn) ≡ true
