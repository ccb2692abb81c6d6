-- One step of a core in a world: one retired instruction, or one exception entry.
use Rattle.std.specs.Prelude.{ℕ, ◌+◌, Bool, true, false, not, ◌==◌, ◌&&◌, ◌||◌, if◌then◌else◌, List, [], Option, Some, None, Result, Ok, Err, is_some, bit_or}
use Rattle.or_isa.specs.declared.Insn.{Insn}
use Rattle.or_isa.specs.declared.Insn.TheVariants.{Jump, Branch, JumpRegister, ReturnFromException, MoveFromSpecial, MoveToSpecial, Load, LoadLinked, Store, StoreConditional}
use Rattle.or_isa.specs.Decode.{decode_of}
use Rattle.or_isa.specs.Bus.{needs_bus_of}
use Rattle.or_parts.specs.declared.Cause.{Cause}
use Rattle.or_parts.specs.declared.Cause.TheVariants.{Tick, External, Illegal, BusError}
use Rattle.or_parts.specs.declared.status.TheConstants.{TEE, IEE}
use Rattle.or_parts.specs.Bits.{has, plus, immediate}
use Rattle.or_parts.specs.Timer.{ticked, is_tick_pending}
use Rattle.or_parts.specs.Interrupts.{is_pic_pending}
use Rattle.or_parts.specs.Lines.{line_filled}
use Rattle.or_model.specs.declared.Stop.{Stop}
use Rattle.or_model.specs.declared.Stop.TheVariants.{Budget}
use Rattle.or_model.specs.declared.Route.{Route}
use Rattle.or_model.specs.declared.Route.TheVariants.{Refused, At}
use Rattle.or_model.specs.declared.Fetched.{Fetched}
use Rattle.or_model.specs.Core.{Core, register, next_instruction, exception_entry, is_supervisor}
use Rattle.or_model.specs.World.{World, new_world, after_drop}
use Rattle.or_model.specs.Bus.{Answer, fetch}
use Rattle.or_model.specs.Routes.{fetch_route, cached_instruction}
use Rattle.or_model.specs.DataAccess.{State, Outcome, loaded, stored_value, loaded_linked, stored_conditional}
use Rattle.or_model.specs.Execute.{extension, executed}

abbrev pub stop_after : Option Stop → ℕ → ℕ → Option Stop
stop_after (Some stop) steps budget = Some stop
stop_after None steps budget = if steps == budget then Some Budget else None

-- one step more; a core that reaches its budget stops, unless it has stopped by itself
unfoldable pub with_step_counted : Core → Core
with_step_counted core = record core { steps = core.steps + 1; stop = stop_after core.stop (core.steps + 1) core.budget }

-- the instruction retires: the tick timer counts it
unfoldable pub retired : Core → Core
retired core = let timer = ticked core.ttmr core.ttcr in with_step_counted (record core { ttmr = timer.mode; ttcr = timer.count })

-- what may not stand in a delay slot
abbrev pub is_barred_from_slot : Insn → Bool
is_barred_from_slot (Jump link n) = true
is_barred_from_slot (Branch on n) = true
is_barred_from_slot (JumpRegister link b) = true
is_barred_from_slot ReturnFromException = true
is_barred_from_slot _ = false

-- what user mode may not do
abbrev pub is_privileged : Insn → Bool
is_privileged ReturnFromException = true
is_privileged (MoveFromSpecial d a k) = true
is_privileged (MoveToSpecial a b k) = true
is_privileged _ = false

unfoldable pub is_misplaced : Core → Insn → Bool
is_misplaced core insn = (is_some core.branch && is_barred_from_slot insn) || (not (is_supervisor core) && is_privileged insn)

-- the register that an l.mtspr writes
abbrev pub spr_number : Core → Insn → ℕ
spr_number core (MoveToSpecial a b k) = bit_or (register core a) k
spr_number core _ = 0

-- an instruction that asks the bus
unfoldable pub executed_on_bus : Insn → Core → World → Outcome
executed_on_bus (Load width signed d a i) core world = loaded core world d width (extension width signed) (plus (register core a) (immediate i))
executed_on_bus (LoadLinked d a i) core world = loaded_linked core world d (plus (register core a) (immediate i))
executed_on_bus (Store width a b i) core world = stored_value core world (register core b) width (plus (register core a) (immediate i))
executed_on_bus (StoreConditional a b i) core world = stored_conditional core world (register core b) (plus (register core a) (immediate i))
executed_on_bus (MoveToSpecial a b k) core world = Ok (record { core = next_instruction core; world = after_drop world core.number (register core b) })
executed_on_bus _ core world = Err Illegal

-- the core retires its instruction, or enters an exception: both are a step
abbrev pub completed : Result Core Cause → Core → Core
completed (Ok next) core = retired next
completed (Err cause) core = with_step_counted (exception_entry core cause)

abbrev pub completed_on_bus : Outcome → Core → World → State
completed_on_bus (Ok next) core world = record { core = retired next.core; world = next.world }
completed_on_bus (Err cause) core world = record { core = with_step_counted (exception_entry core cause); world = world }

abbrev pub outcome : Core → Option Insn → Result Core Cause
outcome core None = Err Illegal
outcome core (Some insn) = if is_misplaced core insn then Err Illegal else executed insn core

-- one step by an instruction that asks nothing of the bus, or by a word that is no instruction
unfoldable pub step_off_bus : Core → Option Insn → Core
step_off_bus core insn = completed (outcome core insn) core

abbrev pub outcome_on_bus : Core → World → Insn → Outcome
outcome_on_bus core world insn = if is_misplaced core insn then Err Illegal else executed_on_bus insn core world

-- one step by an instruction that asks the bus
unfoldable pub step_on_bus : Core → World → Insn → State
step_on_bus core world insn = completed_on_bus (outcome_on_bus core world insn) core world

abbrev pub wants_bus : Core → Option Insn → Bool
wants_bus core None = false
wants_bus core (Some insn) = needs_bus_of insn (spr_number core insn)

abbrev pub step_by_insn : Core → World → Option Insn → State
step_by_insn core world None = record { core = step_off_bus core None; world = world }
step_by_insn core world (Some insn) =
    if needs_bus_of insn (spr_number core insn) then step_on_bus core world insn else record { core = step_off_bus core (Some insn); world = world }

-- one step by the word that was fetched
unfoldable pub step_by_word : Core → World → ℕ → State
step_by_word core world word = step_by_insn core world (decode_of word)

-- the interrupt that is due, which none is in a delay slot; the tick comes first, by TEE and IEE
unfoldable pub due_interrupt : Core → Option Cause
due_interrupt core =
    if is_some core.branch then None else
    if has core.sr TEE && is_tick_pending core.ttmr then Some Tick else
    if has core.sr IEE && is_pic_pending core.picmr core.picsr then Some External else
    None

-- the core with the line that came with a fetch, if one came
abbrev pub with_line : Core → ℕ → Option (List ℕ) → Core
with_line core pa None = core
with_line core pa (Some line) = record core { lines = line_filled core.lines pa line }

-- one step by what the bus answers to a fetch
abbrev pub step_by_fetch : Core → World → Option (Answer Fetched) → ℕ → State
step_by_fetch core world (Some answer) pa = step_by_word (with_line core pa answer.value.line) answer.after answer.value.word
step_by_fetch core world None pa = record { core = with_step_counted (exception_entry core (BusError core.pc)); world = world }

-- one step by a word that no held line has
unfoldable pub step_unheld : Core → World → ℕ → Bool → State
step_unheld core world pa cached = step_by_fetch core world (fetch world pa cached) pa

abbrev pub step_by_held : Core → World → ℕ → Bool → Option ℕ → State
step_by_held core world pa cached (Some word) = step_by_word core world word
step_by_held core world pa cached None = step_unheld core world pa cached

abbrev pub step_by_route : Core → World → Route → State
step_by_route core world (Refused cause) = record { core = with_step_counted (exception_entry core cause); world = world }
step_by_route core world (At pa cached) = step_by_held core world pa cached (cached_instruction core pa cached)

abbrev pub step_by_interrupt : Core → World → Option Cause → State
step_by_interrupt core world (Some cause) = record { core = with_step_counted (exception_entry core cause); world = world }
step_by_interrupt core world None = step_by_route core world (fetch_route core)

-- ONE STEP of a core in a world
unfoldable pub step : Core → World → State
step core world = step_by_interrupt core world (due_interrupt core)

-- THE BUS RULE: a step is private where its instruction is held, or where it fetches none, and it asks nothing of the bus
abbrev pub is_private_word : Core → Option ℕ → Bool
is_private_word core None = false
is_private_word core (Some word) = not (wants_bus core (decode_of word))

abbrev pub is_private_route : Core → Route → Bool
is_private_route core (Refused cause) = true
is_private_route core (At pa cached) = is_private_word core (cached_instruction core pa cached)

abbrev pub is_private_by : Core → Option Cause → Bool
is_private_by core (Some cause) = true
is_private_by core None = is_private_route core (fetch_route core)

-- the next step needs no bus
unfoldable pub is_private : Core → Bool
is_private core = is_private_by core (due_interrupt core)

-- a world with nothing in it
abbrev pub empty_world : World
empty_world = new_world [] 0 []

-- the core after a private step: it is the same in every world, so also in this one
unfoldable pub private_step : Core → Core
private_step core = (step core empty_world).core
