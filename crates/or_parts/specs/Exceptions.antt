-- Exception entry and return (OpenRISC 1000 Architecture Manual, chapter 6).
use Rattle.std.specs.Prelude.{ℕ, ◌-◌, Option, Some, None, is_some, bit_and, bit_or}
use Rattle.or_parts.specs.declared.Cause.{Cause}
use Rattle.or_parts.specs.declared.Cause.TheVariants.{BusError, DataPageFault, InsnPageFault, Tick, Alignment, Illegal, External, DataMiss, InsnMiss, Range, Syscall, Trap}
use Rattle.or_parts.specs.declared.status.TheConstants.{SM, DSX, FO, CLEARED_BY_ENTRY, WRITABLE}
use Rattle.or_parts.specs.Bits.{with_bits, plus}

-- the address of the handler
abbrev pub vector : Cause → ℕ
vector (BusError _) = 0x200
vector (DataPageFault _) = 0x300
vector (InsnPageFault _) = 0x400
vector Tick = 0x500
vector (Alignment _) = 0x600
vector Illegal = 0x700
vector External = 0x800
vector (DataMiss _) = 0x900
vector (InsnMiss _) = 0xA00
vector Range = 0xB00
vector Syscall = 0xC00
vector Trap = 0xE00

-- what EEAR0 holds after an entry; a cause without an address keeps it
abbrev pub fault_address : Cause → ℕ → ℕ
fault_address (BusError ea) _ = ea
fault_address (DataPageFault ea) _ = ea
fault_address (InsnPageFault ea) _ = ea
fault_address (Alignment ea) _ = ea
fault_address (DataMiss ea) _ = ea
fault_address (InsnMiss ea) _ = ea
fault_address Tick old = old
fault_address Illegal old = old
fault_address External old = old
fault_address Range old = old
fault_address Syscall old = old
fault_address Trap old = old

-- the address of the instruction behind the one at pc
abbrev pub next_pc : ℕ → Option ℕ → ℕ
next_pc pc None = plus pc 4
next_pc pc (Some destination) = destination

-- the address of the instruction at pc, or of the jump in whose delay slot it stands
abbrev pub restart_pc : ℕ → Option ℕ → ℕ
restart_pc pc None = pc
restart_pc pc (Some destination) = plus pc 0xFFFFFFFC

-- what EPCR0 holds after an entry: a system call goes on behind itself, all else is restarted
abbrev pub saved_pc : Cause → ℕ → Option ℕ → ℕ
saved_pc Syscall pc branch = next_pc pc branch
saved_pc (BusError _) pc branch = restart_pc pc branch
saved_pc (DataPageFault _) pc branch = restart_pc pc branch
saved_pc (InsnPageFault _) pc branch = restart_pc pc branch
saved_pc (Alignment _) pc branch = restart_pc pc branch
saved_pc (DataMiss _) pc branch = restart_pc pc branch
saved_pc (InsnMiss _) pc branch = restart_pc pc branch
saved_pc Tick pc branch = restart_pc pc branch
saved_pc Illegal pc branch = restart_pc pc branch
saved_pc External pc branch = restart_pc pc branch
saved_pc Range pc branch = restart_pc pc branch
saved_pc Trap pc branch = restart_pc pc branch

-- SR after an entry: SM is set, TEE, IEE, DME, IME and OVE are clear, and DSX tells of a delay slot
abbrev pub entry_status : ℕ → Option ℕ → ℕ
entry_status sr branch = with_bits (bit_or (bit_and sr (0xFFFFFFFF - CLEARED_BY_ENTRY)) SM) DSX (is_some branch)

-- what SR keeps of a value: its bits that exist, and FO, which is always set
abbrev pub kept_status : ℕ → ℕ
kept_status v = bit_or (bit_and v WRITABLE) FO
