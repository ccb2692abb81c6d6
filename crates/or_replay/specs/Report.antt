-- The text of a report.
use Rattle.std.specs.Prelude.{ℕ, zero, suc, ◌%◌, ◌==◌, if◌then◌else◌, List, [], ◌++◌, codes, decimal, Option, Some, None, length, min}
use Rattle.std.specs.List.{flat_map}
use Rattle.sha2.specs.Sha256.{sha256}
use Rattle.or_text.specs.Hexadecimal.{word_text, digest_text}
use Rattle.or_model.specs.declared.Stop.{Stop}
use Rattle.or_model.specs.declared.Stop.TheVariants.{Exit, Budget}
use Rattle.or_model.specs.declared.Counts.{Counts}
use Rattle.or_model.specs.Core.{Core, register}
use Rattle.or_model.specs.World.{World}
use Rattle.or_model.specs.Caches.{hits, misses}
use Rattle.or_model.specs.Turn.{Board}
use Rattle.or_mem.specs.Memory.{last_count}
use Rattle.or_parts.specs.Devices.{console_of}

abbrev pub stop_text : Option Stop → List ℕ
stop_text None = codes "running"
stop_text (Some Budget) = codes "budget"
stop_text (Some (Exit word)) = codes "exit " ++ word_text word

abbrev pub slot_text : Option ℕ → List ℕ
slot_text None = codes "-"
slot_text (Some destination) = word_text destination

-- how a core has come to where it is
unfoldable pub progress_line : Core → Counts → List ℕ
progress_line core counts =
    codes "core " ++ decimal core.number ++ codes " " ++ stop_text core.stop ++ codes " steps " ++ decimal core.steps
    ++ codes " hits " ++ decimal counts.hits ++ codes " misses " ++ decimal counts.misses ++ codes "\n"

-- a name with its blank, and a word
abbrev pub field_text : List ℕ → ℕ → List ℕ
field_text name word = name ++ word_text word

-- where it is, and what it has saved
unfoldable pub place_line : Core → List ℕ
place_line core =
    field_text (codes "pc ") core.pc ++ codes " slot " ++ slot_text core.branch ++ field_text (codes " sr ") core.sr
    ++ field_text (codes " epcr ") core.epcr ++ field_text (codes " eear ") core.eear ++ field_text (codes " esr ") core.esr ++ codes "\n"

-- its accumulator, tick timer and interrupt controller
unfoldable pub unit_line : Core → List ℕ
unit_line core =
    field_text (codes "machi ") core.machi ++ field_text (codes " maclo ") core.maclo ++ field_text (codes " ttmr ") core.ttmr
    ++ field_text (codes " ttcr ") core.ttcr ++ field_text (codes " picmr ") core.picmr ++ field_text (codes " picsr ") core.picsr ++ codes "\n"

-- eight registers stand in a line
abbrev pub behind_register : ℕ → List ℕ
behind_register n = if n % 8 == 7 then codes "\n" else codes " "

-- the first so many registers
unfoldable pub registers_text : Core → ℕ → List ℕ
registers_text core zero = []
registers_text core (suc n) = registers_text core n ++ word_text (register core n) ++ behind_register n

-- a core's seven lines, with its counts of hits and misses
unfoldable pub core_block : Core → Counts → List ℕ
core_block core counts = progress_line core counts ++ place_line core ++ unit_line core ++ registers_text core 32

-- the counts of a core, cut at the last value of 64 bits
abbrev pub shown_counts : World → ℕ → Counts
shown_counts world c = record { hits = min (hits world.accesses c) last_count; misses = min (misses world.accesses c) last_count }

abbrev pub core_blocks : World → List Core → List ℕ
core_blocks world cores = flat_map (λ core. core_block core (shown_counts world core.number)) cores

-- the numbers of cores, of turns and of console bytes
unfoldable pub counts_line : ℕ → ℕ → ℕ → List ℕ
counts_line cores turns console =
    codes "cores " ++ decimal cores ++ codes " turns " ++ decimal turns ++ codes " console " ++ decimal console ++ codes "\n"

-- the report of a board after so many turns
unfoldable pub report_text : Board → ℕ → List ℕ
report_text board turns =
    codes "orreport 1\n" ++ counts_line (length board.cores) turns (length (console_of board.world.devices)) ++ core_blocks board.world board.cores
    ++ (codes "memory " ++ digest_text (sha256 board.world.ram) ++ codes "\n")
