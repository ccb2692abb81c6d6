-- Special registers of a core, wherever they are kept.
use Rattle.std.specs.Prelude.{ℕ}
use Rattle.or_parts.specs.declared.SprRoute.{SprRoute}
use Rattle.or_parts.specs.declared.SprRoute.TheVariants.{Own, General, DataMatch, DataTranslate, InsnMatch, InsnTranslate, DataDrop, InsnDrop, TickMode, TickCount, PicMask, PicStatus, Nothing}
use Rattle.std.specs.Prelude.{true, false}
use Rattle.or_parts.specs.Special.{spr_route, own_read, own_written}
use Rattle.or_parts.specs.Translation.{pair_at, match_written, translate_written}
use Rattle.or_parts.specs.Lines.{line_dropped}
use Rattle.or_parts.specs.Timer.{mode_written}
use Rattle.or_parts.specs.Interrupts.{status_written}
use Rattle.or_model.specs.Core.{Core, register, set_register, own_registers, with_own_registers}

abbrev pub special_by : Core → ℕ → SprRoute → ℕ
special_by core n Own = own_read (own_registers core) core.pc core.branch n
special_by core n (General r) = register core r
special_by core n (DataMatch set) = (pair_at core.data_tlb set).0
special_by core n (DataTranslate set) = (pair_at core.data_tlb set).1
special_by core n (InsnMatch set) = (pair_at core.insn_tlb set).0
special_by core n (InsnTranslate set) = (pair_at core.insn_tlb set).1
special_by core n DataDrop = 0
special_by core n InsnDrop = 0
special_by core n TickMode = core.ttmr
special_by core n TickCount = core.ttcr
special_by core n PicMask = core.picmr
special_by core n PicStatus = core.picsr
special_by core n Nothing = 0

-- what an l.mfspr of register n reads
unfoldable pub special : Core → ℕ → ℕ
special core n = special_by core n (spr_route n)

abbrev pub special_written_by : Core → ℕ → ℕ → SprRoute → Core
special_written_by core n v Own = with_own_registers core (own_written (own_registers core) n v)
special_written_by core n v (General r) = set_register core r v
special_written_by core n v (DataMatch set) = record core { data_tlb = match_written core.data_tlb set v }
special_written_by core n v (DataTranslate set) = record core { data_tlb = translate_written false core.data_tlb set v }
special_written_by core n v (InsnMatch set) = record core { insn_tlb = match_written core.insn_tlb set v }
special_written_by core n v (InsnTranslate set) = record core { insn_tlb = translate_written true core.insn_tlb set v }
special_written_by core n v DataDrop = core
special_written_by core n v InsnDrop = record core { lines = line_dropped core.lines v }
special_written_by core n v TickMode = record core { ttmr = mode_written core.ttmr v }
special_written_by core n v TickCount = record core { ttcr = v }
special_written_by core n v PicMask = record core { picmr = v }
special_written_by core n v PicStatus = record core { picsr = status_written core.latched core.picsr v }
special_written_by core n v Nothing = core

-- the core after an l.mtspr of v to register n; a drop of a data line is the bus's part
unfoldable pub special_written : Core → ℕ → ℕ → Core
special_written core n v = special_written_by core n v (spr_route n)
