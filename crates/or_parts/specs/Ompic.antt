-- The inter-processor interrupt controller, after the OpenRISC multicore PIC: a status word for each core.
use Rattle.std.specs.Prelude.{ℕ, ◌+◌, ◌*◌, ◌/◌, ◌%◌, Bool, ◌==◌, ◌&&◌, nat_lt, if◌then◌else◌, List, length, slice_index_or, slice_set}
use Rattle.or_parts.specs.Bits.{has}

-- the status of core c
abbrev pub ompic_status : List ℕ → ℕ → ℕ
ompic_status statuses c = slice_index_or statuses c 0

-- whether core c has an interrupt
abbrev pub is_ompic_pending : List ℕ → ℕ → Bool
is_ompic_pending statuses c = has (ompic_status statuses c) 0x40000000

-- an offset is that of a core's status, behind its control
abbrev pub is_status_offset : ℕ → Bool
is_status_offset offset = offset % 8 == 4

-- what an offset reads; a control reads 0
unfoldable pub ompic_value : List ℕ → ℕ → ℕ
ompic_value statuses offset = if is_status_offset offset then ompic_status statuses (offset / 8) else 0

-- ACK ends the interrupt of the control's core
abbrev pub acknowledged : List ℕ → ℕ → ℕ → List ℕ
acknowledged statuses c v = if has v 0x80000000 then slice_set statuses c 0 else statuses

-- the core that GEN names
abbrev pub destination_core : ℕ → ℕ
destination_core v = v / 0x10000 % 0x4000

-- GEN gives the named core an interrupt from the control's core, with 16 bits of data
abbrev pub generated : List ℕ → ℕ → ℕ → List ℕ
generated statuses c v =
    if has v 0x40000000 && nat_lt (destination_core v) (length statuses)
    then slice_set statuses (destination_core v) (0x40000000 + c * 0x10000 + v % 0x10000)
    else statuses

-- the statuses after a write: a status ignores it, a control acknowledges and then generates
unfoldable pub ompic_written : List ℕ → ℕ → ℕ → List ℕ
ompic_written statuses offset v =
    if is_status_offset offset then statuses else generated (acknowledged statuses (offset / 8) v) (offset / 8) v
