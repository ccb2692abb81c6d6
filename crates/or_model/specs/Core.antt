-- A core in all its parts, as one flat record.
use Rattle.std.specs.Prelude.{ℕ, ◌==◌, Bool, false, if◌then◌else◌, List, Option, Some, None, slice_index, slice_set, replicate, bit_or}
use Rattle.or_words.specs.declared.Config.{Config}
use Rattle.or_parts.specs.declared.Line.{Line}
use Rattle.or_parts.specs.declared.Cause.{Cause}
use Rattle.or_parts.specs.declared.status.TheConstants.{SM, FO}
use Rattle.or_parts.specs.Bits.{has, plus}
use Rattle.or_parts.specs.Lines.{no_lines}
use Rattle.or_parts.specs.Translation.{no_pairs}
use Rattle.or_parts.specs.Special.{SpecialRegisters}
use Rattle.or_parts.specs.Exceptions.{vector, entry_status, saved_pc, fault_address, next_pc, kept_status}
use Rattle.or_model.specs.declared.Stop.{Stop}

pub record Core : Type 0 where
  -- the core's number, the number of cores, the steps that it may make, and the form of its PIC
  pub number : ℕ
  pub cores : ℕ
  pub budget : ℕ
  pub latched : Bool
  -- the next instruction, and the destination of the jump in whose delay slot it stands
  pub pc : ℕ
  pub branch : Option ℕ
  pub registers : List ℕ
  pub shadow : List ℕ
  pub sr : ℕ
  pub epcr : ℕ
  pub eear : ℕ
  pub esr : ℕ
  pub machi : ℕ
  pub maclo : ℕ
  -- match and translate registers of 64 sets
  pub data_tlb : List (ℕ × ℕ)
  pub insn_tlb : List (ℕ × ℕ)
  -- instruction lines by their index
  pub lines : List (Option Line)
  pub ttmr : ℕ
  pub ttcr : ℕ
  pub picmr : ℕ
  pub picsr : ℕ
  -- whether an l.lwa waits for its l.swa
  pub linked : Bool
  pub steps : ℕ
  pub stop : Option Stop

-- a core at reset
unfoldable pub reset_core : Config → ℕ → Core
reset_core config number = record {
  number = number;
  cores = config.cores;
  budget = config.budget;
  latched = config.latched;
  pc = 0x100;
  branch = None;
  registers = replicate 32 0;
  shadow = replicate 32 0;
  sr = bit_or FO SM;
  epcr = 0;
  eear = 0;
  esr = 0;
  machi = 0;
  maclo = 0;
  data_tlb = no_pairs;
  insn_tlb = no_pairs;
  lines = no_lines;
  ttmr = 0;
  ttcr = 0;
  picmr = 0;
  picsr = 0;
  linked = false;
  steps = 0;
  stop = None;
}

-- what a general register reads: r0 is 0
abbrev pub register : Core → ℕ → ℕ
register core n = if n == 0 then 0 else slice_index core.registers n

-- the core after a write of a general register; r0 drops it
abbrev pub set_register : Core → ℕ → ℕ → Core
set_register core n v = if n == 0 then core else record core { registers = slice_set core.registers n v }

-- the core is in supervisor mode
abbrev pub is_supervisor : Core → Bool
is_supervisor core = has core.sr SM

-- the core goes on behind an instruction that is no jump
unfoldable pub next_instruction : Core → Core
next_instruction core = record core { pc = next_pc core.pc core.branch; branch = None }

-- a jump: the next instruction stands in its delay slot
unfoldable pub branched : Core → ℕ → Core
branched core destination = record core { pc = plus core.pc 4; branch = Some destination }

-- exception entry
unfoldable pub exception_entry : Core → Cause → Core
exception_entry core cause = record core {
  pc = vector cause;
  branch = None;
  sr = entry_status core.sr core.branch;
  epcr = saved_pc cause core.pc core.branch;
  eear = fault_address cause core.eear;
  esr = core.sr;
  linked = false;
}

-- exception return: l.rfe has no delay slot
unfoldable pub exception_return : Core → Core
exception_return core = record core { pc = core.epcr; branch = None; sr = kept_status core.esr }

-- the special registers that stand for themselves
abbrev pub own_registers : Core → SpecialRegisters
own_registers core = record {
  number = core.number;
  cores = core.cores;
  sr = core.sr;
  epcr = core.epcr;
  eear = core.eear;
  esr = core.esr;
  machi = core.machi;
  maclo = core.maclo;
  shadow = core.shadow;
}

abbrev pub with_own_registers : Core → SpecialRegisters → Core
with_own_registers core own = record core {
  number = own.number;
  cores = own.cores;
  sr = own.sr;
  epcr = own.epcr;
  eear = own.eear;
  esr = own.esr;
  machi = own.machi;
  maclo = own.maclo;
  shadow = own.shadow;
}
