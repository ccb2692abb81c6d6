-- Special registers by their numbers (OpenRISC 1000 Architecture Manual, chapter 4.3).
use Rattle.std.specs.Prelude.{ℕ, ◌-◌, ◌<◌, Bool, ◌==◌, ◌&&◌, ◌||◌, nat_le, if◌then◌else◌, List, Option, slice_index, slice_set, replicate, bit_or}
use Rattle.or_parts.specs.declared.SprRoute.{SprRoute}
use Rattle.or_parts.specs.declared.SprRoute.TheVariants.{Own, General, DataMatch, DataTranslate, InsnMatch, InsnTranslate, DataDrop, InsnDrop, TickMode, TickCount, PicMask, PicStatus, Nothing}
use Rattle.or_words.specs.declared.cache_registers.TheConstants.{DCBFR, DCBIR}
use Rattle.or_parts.specs.declared.registers.TheConstants.{VR, UPR, CPUCFGR, DMMUCFGR, IMMUCFGR, DCCFGR, ICCFGR, NPC, SR, PPC, EPCR0, EEAR0, ESR0, COREID, NUMCORES, GPR0, GPR31, GPR32, GPR63, DTLBW0MR0, DTLBW0MR63, DTLBW0TR0, DTLBW0TR63, ITLBW0MR0, ITLBW0MR63, ITLBW0TR0, ITLBW0TR63, ICBIR, MACLO, MACHI, PICMR, PICSR, TTMR, TTCR}
use Rattle.or_parts.specs.declared.status.TheConstants.{SM, FO}
use Rattle.or_parts.specs.Exceptions.{next_pc, kept_status}

-- n is one of the numbers from a first to a last one
abbrev pub is_within : ℕ → ℕ → ℕ → Bool
is_within n first last = nat_le first n && nat_le n last

-- the registers that stand for themselves: configuration, SR, the saved ones, the accumulator, shadow words
abbrev pub is_own : ℕ → Bool
is_own n =
    is_within n VR ICCFGR || n == NPC || n == SR || n == PPC || n == EPCR0 || n == EEAR0 || n == ESR0
    || n == COREID || n == NUMCORES || is_within n GPR32 GPR63 || n == MACLO || n == MACHI

-- which part of a core keeps register n
unfoldable pub spr_route : ℕ → SprRoute
spr_route n =
    if is_own n then Own else
    if is_within n GPR0 GPR31 then General (n - GPR0) else
    if is_within n DTLBW0MR0 DTLBW0MR63 then DataMatch (n - DTLBW0MR0) else
    if is_within n DTLBW0TR0 DTLBW0TR63 then DataTranslate (n - DTLBW0TR0) else
    if is_within n ITLBW0MR0 ITLBW0MR63 then InsnMatch (n - ITLBW0MR0) else
    if is_within n ITLBW0TR0 ITLBW0TR63 then InsnTranslate (n - ITLBW0TR0) else
    if n == DCBFR || n == DCBIR then DataDrop else
    if n == ICBIR then InsnDrop else
    if n == PICMR then PicMask else
    if n == PICSR then PicStatus else
    if n == TTMR then TickMode else
    if n == TTCR then TickCount else
    Nothing

-- the number in a route is one of its part
abbrev pub FitsRoute : SprRoute → Type 0
FitsRoute (General r) = r < 32
FitsRoute (DataMatch set) = set < 64
FitsRoute (DataTranslate set) = set < 64
FitsRoute (InsnMatch set) = set < 64
FitsRoute (InsnTranslate set) = set < 64
FitsRoute _ = Unit {0}

-- what the registers of route Own hold
pub record SpecialRegisters : Type 0 where
  pub number : ℕ
  pub cores : ℕ
  pub sr : ℕ
  pub epcr : ℕ
  pub eear : ℕ
  pub esr : ℕ
  pub machi : ℕ
  pub maclo : ℕ
  pub shadow : List ℕ

-- at reset the core is in supervisor mode
unfoldable pub reset_registers : ℕ → ℕ → SpecialRegisters
reset_registers number cores = record {
  number = number;
  cores = cores;
  sr = bit_or FO SM;
  epcr = 0;
  eear = 0;
  esr = 0;
  machi = 0;
  maclo = 0;
  shadow = replicate 32 0;
}

-- what register n reads, at a pc that may stand in a delay slot
unfoldable pub own_read : SpecialRegisters → ℕ → Option ℕ → ℕ → ℕ
own_read own pc branch n =
    if n == VR then 0x1 else
    if n == UPR then 0x53F else
    if n == CPUCFGR then 0x20 else
    if n == DMMUCFGR || n == IMMUCFGR then 0x18 else
    if n == DCCFGR then 0x24B8 else
    if n == ICCFGR then 0x4B8 else
    if n == NPC then next_pc pc branch else
    if n == SR then own.sr else
    if n == PPC then pc else
    if n == EPCR0 then own.epcr else
    if n == EEAR0 then own.eear else
    if n == ESR0 then own.esr else
    if n == COREID then own.number else
    if n == NUMCORES then own.cores else
    if n == MACLO then own.maclo else
    if n == MACHI then own.machi else
    if is_within n GPR32 GPR63 then slice_index own.shadow (n - GPR32) else
    0

-- the registers after v is written to register n; constants and pc drop it
unfoldable pub own_written : SpecialRegisters → ℕ → ℕ → SpecialRegisters
own_written own n v =
    if n == SR then record own { sr = kept_status v } else
    if n == EPCR0 then record own { epcr = v } else
    if n == EEAR0 then record own { eear = v } else
    if n == ESR0 then record own { esr = v } else
    if n == MACLO then record own { maclo = v } else
    if n == MACHI then record own { machi = v } else
    if is_within n GPR32 GPR63 then record own { shadow = slice_set own.shadow (n - GPR32) v } else
    own
