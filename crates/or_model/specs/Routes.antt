-- Where the fetches, loads and stores of a core go, before the bus is asked.
use Rattle.std.specs.Prelude.{ℕ, ◌%◌, Bool, true, false, ◌==◌, if◌then◌else◌, Option, None, Result, Ok, Err}
use Rattle.or_words.specs.declared.Width.{Width}
use Rattle.or_parts.specs.declared.Cause.TheVariants.{Alignment, InsnMiss, InsnPageFault, DataMiss, DataPageFault}
use Rattle.or_parts.specs.declared.Right.{Right}
use Rattle.or_parts.specs.declared.Right.TheVariants.{Fetch}
use Rattle.or_parts.specs.declared.Phys.{Phys}
use Rattle.or_parts.specs.declared.TlbFault.{TlbFault}
use Rattle.or_parts.specs.declared.TlbFault.TheVariants.{Miss, PageFault}
use Rattle.or_parts.specs.declared.status.TheConstants.{DCE, ICE, DME, IME}
use Rattle.or_parts.specs.Bits.{has}
use Rattle.or_parts.specs.Memory.{bytes_of}
use Rattle.or_parts.specs.Lines.{held_word}
use Rattle.or_parts.specs.Translation.{physical, is_cacheable}
use Rattle.or_model.specs.declared.Route.{Route}
use Rattle.or_model.specs.declared.Route.TheVariants.{Refused, At}
use Rattle.or_model.specs.Core.{Core, is_supervisor}

abbrev pub fetch_route_by : Core → Result Phys TlbFault → Route
fetch_route_by core (Err Miss) = Refused (InsnMiss core.pc)
fetch_route_by core (Err PageFault) = Refused (InsnPageFault core.pc)
fetch_route_by core (Ok phys) = At phys.pa (is_cacheable (has core.sr ICE) phys)

-- where the next instruction lies; IME and ICE turn translation and the instruction cache on
unfoldable pub fetch_route : Core → Route
fetch_route core =
    if core.pc % 4 == 0 then fetch_route_by core (physical (has core.sr IME) core.insn_tlb core.pc Fetch (is_supervisor core))
    else Refused (Alignment core.pc)

-- the word of a held instruction line, where the fetch is cached
abbrev pub cached_instruction : Core → ℕ → Bool → Option ℕ
cached_instruction core pa true = held_word core.lines pa
cached_instruction core pa false = None

abbrev pub data_route_by : Core → ℕ → Result Phys TlbFault → Route
data_route_by core ea (Err Miss) = Refused (DataMiss ea)
data_route_by core ea (Err PageFault) = Refused (DataPageFault ea)
data_route_by core ea (Ok phys) = At phys.pa (is_cacheable (has core.sr DCE) phys)

-- where a load or a store goes; DME and DCE turn translation and the data cache on
unfoldable pub data_route : Core → ℕ → Width → Right → Route
data_route core ea width right =
    if ea % bytes_of width == 0 then data_route_by core ea (physical (has core.sr DME) core.data_tlb ea right (is_supervisor core))
    else Refused (Alignment ea)
