-- A step, and so a turn, makes at most one write to RAM, and sends at most one byte to the console.
use Rattle.std.proofs.Common.{ℕ, ◌+◌, ◌≤◌, ◌-◌, ◌%◌, Bool, true, false, cond, List, [], ◌∷◌, ◌++◌, length, Option, Some, None, Ok, Err, arith, length-append}
use Rattle.or_isa.specs.declared.Insn.{Insn}
use Rattle.or_isa.specs.declared.Insn.TheVariants as insn
use Rattle.or_isa.specs.Bus.{needs_bus_of}
use Rattle.or_isa.specs.Decode.{decode_of}
use Rattle.or_words.specs.declared.Width.{Width}
use Rattle.or_words.specs.declared.Width.TheVariants.{Word}
use Rattle.or_words.specs.declared.ExtendKind.{ExtendKind}
use Rattle.or_words.specs.declared.ExtendKind.TheVariants.{Whole}
use Rattle.or_parts.specs.declared.Cause.{Cause}
use Rattle.or_parts.specs.declared.Right.TheVariants.{Load, Store}
use Rattle.or_parts.specs.declared.memory_map.Device.{Device}
use Rattle.or_parts.specs.declared.memory_map.Device.TheVariants.{Uart, Ompic}
use Rattle.or_parts.specs.Devices.{Devices, console_of, device_after_read, device_written}
use Rattle.or_parts.specs.Uart.{UartState, uart_after_read, uart_written, uart_sent, is_loopback, has_divisor, interrupts_enabled, identification, after_input}
use Rattle.or_parts.specs.Bits.{has, plus, immediate}
use Rattle.or_parts.specs.Memory.{value_at}
use Rattle.or_parts.specs.Lines.{line_bytes}
use Rattle.or_parts.specs.declared.Cause.TheVariants.{Illegal}
use Rattle.or_model.specs.Execute.{extension}
use Rattle.or_model.specs.Core.{register}
use Rattle.std.specs.Prelude.{◌==◌, ◌&&◌, not}
use Rattle.or_model.specs.declared.Route.{Route}
use Rattle.or_model.specs.declared.Route.TheVariants.{Refused, At}
use Rattle.or_model.specs.declared.Region.{Region}
use Rattle.or_model.specs.declared.Region.TheVariants.{Ram, Register, Nothing}
use Rattle.or_model.specs.declared.Fetched.{Fetched}
use Rattle.or_model.specs.Core.{Core}
use Rattle.or_model.specs.World.{World, after_load, after_store, after_drop, marked, unmarked, stands}
use Rattle.or_model.specs.Bus.{Answer, region, in_ram, fetch, load, load_from, store, store_to, load_linked, store_conditional, after_conditional}
use Rattle.or_model.specs.DataAccess.{State, Outcome, with_value, with_store, with_success, loaded_by, loaded, stored_by, stored_value, linked_by, loaded_linked, conditional_by, stored_conditional}
use Rattle.or_model.specs.Routes.{data_route, fetch_route, cached_instruction}
use Rattle.or_model.specs.Step.{executed_on_bus, is_misplaced, spr_number, completed_on_bus, outcome_on_bus, step_on_bus, step_off_bus, step_by_insn, step_by_word, step_by_fetch, step_unheld, step_by_held, step_by_route, step_by_interrupt, step, due_interrupt, with_line}
use Rattle.or_model.specs.Turn.{turn_ended, turn, turn_begun}

pub record Grows (old new : World) : Type 0 where
  pub writes : length new.writes ≤ length old.writes + 1
  pub console : length (console_of new.devices) ≤ length (console_of old.devices) + 1

same : (world : World) → Grows world world
same world = record { writes = omega arith; console = omega arith }

-- a world with other devices whose console has grown by at most one byte
with_devices : (world : World) (devices : Devices) → length (console_of devices) ≤ length (console_of world.devices) + 1 → Grows world (record world { devices = devices })
with_devices world devices few = record { writes = omega arith; console = few }

read_by : (uart : UartState) (first second : Bool) (input : List ℕ) → length (cond first (record uart { input = input }) (cond second (record uart { transmitter = false }) uart)).console ≤ length uart.console + 1
read_by uart true second input = omega arith
read_by uart false true input = omega arith
read_by uart false false input = omega arith

uart_read : (uart : UartState) (reg : ℕ) → length (uart_after_read uart reg).console ≤ length uart.console + 1
unfolding uart_after_read
uart_read uart reg = read_by uart (reg == 0 && not (has_divisor uart)) (reg == 2 && identification uart == 0x02) (after_input uart.input)

sent : (b : Bool) (console : List ℕ) (v : ℕ) → length (cond b console (console ++ v ∷ [])) ≤ length console + 1
sent true console v = omega arith
sent false console v = omega (arith, length-append console (v ∷ []))

-- a choice of two UARTs, each with a console that has grown by at most one byte
either : (b : Bool) (n : ℕ) (first second : UartState) → length first.console ≤ n → length second.console ≤ n → length (cond b first second).console ≤ n
either true n first second f s = f
either false n first second f s = s

uart_write : (uart : UartState) (reg v : ℕ) → length (uart_written uart reg v).console ≤ length uart.console + 1
unfolding uart_written
uart_write uart reg v =
    let most = length uart.console + 1 in
    let kept : length uart.console ≤ most = omega arith in
    let seventh : UartState = cond (reg == 7) (record uart { scr = v }) uart in
    let fourth : UartState = cond (reg == 4) (record uart { mcr = v % 32 }) seventh in
    let third : UartState = cond (reg == 3) (record uart { lcr = v }) fourth in
    let second : UartState = cond (reg == 2) (record uart { fifo = has v 0x1 }) third in
    let enabled : UartState = cond (has_divisor uart) (record uart { dlm = v }) (interrupts_enabled uart v) in
    let first : UartState = cond (reg == 1) enabled second in
    let transmitted : UartState = cond (has_divisor uart) (record uart { dll = v }) (uart_sent uart v) in
    either (reg == 0) most transmitted first (either (has_divisor uart) most (record uart { dll = v }) (uart_sent uart v) kept (sent (is_loopback uart) uart.console v))
    (either (reg == 1) most enabled second (either (has_divisor uart) most (record uart { dlm = v }) (interrupts_enabled uart v) kept kept)
    (either (reg == 2) most (record uart { fifo = has v 0x1 }) third kept
    (either (reg == 3) most (record uart { lcr = v }) fourth kept
    (either (reg == 4) most (record uart { mcr = v % 32 }) seventh kept
    (either (reg == 7) most (record uart { scr = v }) uart kept kept)))))

device_read : (devices : Devices) (device : Device) (offset : ℕ) → length (console_of (device_after_read devices device offset)) ≤ length (console_of devices) + 1
unfolding device_after_read
device_read devices Uart offset = uart_read devices.uart offset
device_read devices Ompic offset = omega arith

device_write : (devices : Devices) (device : Device) (offset v : ℕ) → length (console_of (device_written devices device offset v)) ≤ length (console_of devices) + 1
unfolding device_written
device_write devices Uart offset v = uart_write devices.uart offset (v % 256)
device_write devices Ompic offset v = omega arith

stored_once : (world : World) (c pa : ℕ) (width : Width) (v : ℕ) (cached : Bool) → Grows world (after_store world c pa width v cached)
unfolding after_store
stored_once world c pa width v cached = record { writes = omega (arith, length-append world.writes ((c, pa - pa % 4) ∷ [])); console = omega arith }

loaded_once : (world : World) (c pa : ℕ) (cached : Bool) → Grows world (after_load world c pa cached)
unfolding after_load
loaded_once world c pa cached = record { writes = omega arith; console = omega arith }

-- what the bus answers
abbrev AnswerGrows : {A : Type 0} → World → Option (Answer A) → Type 0
AnswerGrows world None = Unit {0}
AnswerGrows world (Some answer) = Grows world answer.after

abbrev StoreGrows : World → Option World → Type 0
StoreGrows world None = Unit {0}
StoreGrows world (Some after) = Grows world after

load_by : (world : World) (c pa : ℕ) (width : Width) (cached : Bool) (at : Region) → AnswerGrows world (load_from world c pa width cached at)
load_by world c pa width cached Ram = loaded_once world c pa cached
load_by world c pa width cached (Register device offset) = with_devices world (device_after_read world.devices device offset) (device_read world.devices device offset)
load_by world c pa width cached Nothing = tt

load_grows : (world : World) (c pa : ℕ) (width : Width) (cached : Bool) → AnswerGrows world (load world c pa width cached)
unfolding load
load_grows world c pa width cached = load_by world c pa width cached (region world pa width)

store_by : (world : World) (c pa : ℕ) (width : Width) (v : ℕ) (cached : Bool) (at : Region) → StoreGrows world (store_to world c pa width v cached at)
store_by world c pa width v cached Ram = stored_once world c pa width v cached
store_by world c pa width v cached (Register device offset) = with_devices world (device_written world.devices device offset v) (device_write world.devices device offset v)
store_by world c pa width v cached Nothing = tt

store_grows : (world : World) (c pa : ℕ) (width : Width) (v : ℕ) (cached : Bool) → StoreGrows world (store world c pa width v cached)
unfolding store
store_grows world c pa width v cached = store_by world c pa width v cached (region world pa width)

answer_where : {A : Type 0} (world : World) (b : Bool) (answer : Answer A) → Grows world answer.after → AnswerGrows world (cond b (Some answer) None)
answer_where world true answer grows = grows
answer_where world false answer grows = tt

linked_once : (world : World) (c pa : ℕ) (cached : Bool) → Grows world (marked (after_load world c pa cached) c pa)
unfolding marked after_load
linked_once world c pa cached = record { writes = omega arith; console = omega arith }

linked_grows : (world : World) (c pa : ℕ) (cached : Bool) → AnswerGrows world (load_linked world c pa cached)
unfolding load_linked
linked_grows world c pa cached = answer_where world (in_ram world pa) (record { value = value_at world.ram pa Word; after = marked (after_load world c pa cached) c pa }) (linked_once world c pa cached)

conditional_once : (world : World) (c pa v : ℕ) (cached succeeds : Bool) → Grows world (after_conditional world c pa v cached succeeds)
unfolding unmarked after_store
conditional_once world c pa v cached true = record { writes = omega (arith, length-append world.writes ((c, pa - pa % 4) ∷ [])); console = omega arith }
conditional_once world c pa v cached false = record { writes = omega arith; console = omega arith }

conditional_grows : (world : World) (c pa v : ℕ) (cached linked : Bool) → AnswerGrows world (store_conditional world c pa v cached linked)
unfolding store_conditional
conditional_grows world c pa v cached linked =
    let succeeds = linked && stands world c pa in
    answer_where world (in_ram world pa) (record { value = succeeds; after = after_conditional world c pa v cached succeeds }) (conditional_once world c pa v cached succeeds)

-- what an instruction comes to
abbrev OutcomeGrows : World → Outcome → Type 0
OutcomeGrows world (Ok next) = Grows world next.world
OutcomeGrows world (Err cause) = Unit {0}

value_grows : (world : World) (core : Core) (d : ℕ) (kind : ExtendKind) (ea : ℕ) (answer : Option (Answer ℕ)) → AnswerGrows world answer → OutcomeGrows world (with_value core d kind ea answer)
value_grows world core d kind ea None grows = tt
value_grows world core d kind ea (Some answer) grows = grows

loaded_grows_by : (core : Core) (world : World) (d : ℕ) (width : Width) (kind : ExtendKind) (ea : ℕ) (route : Route) → OutcomeGrows world (loaded_by core world d width kind ea route)
loaded_grows_by core world d width kind ea (Refused cause) = tt
loaded_grows_by core world d width kind ea (At pa cached) = value_grows world core d kind ea (load world core.number pa width cached) (load_grows world core.number pa width cached)

loaded_grows : (core : Core) (world : World) (d : ℕ) (width : Width) (kind : ExtendKind) (ea : ℕ) → OutcomeGrows world (loaded core world d width kind ea)
unfolding loaded
loaded_grows core world d width kind ea = loaded_grows_by core world d width kind ea (data_route core ea width Load)

kept_grows : (world : World) (core : Core) (ea : ℕ) (after : Option World) → StoreGrows world after → OutcomeGrows world (with_store core ea after)
kept_grows world core ea None grows = tt
kept_grows world core ea (Some after) grows = grows

stored_grows_by : (core : Core) (world : World) (v : ℕ) (width : Width) (ea : ℕ) (route : Route) → OutcomeGrows world (stored_by core world v width ea route)
stored_grows_by core world v width ea (Refused cause) = tt
stored_grows_by core world v width ea (At pa cached) = kept_grows world core ea (store world core.number pa width v cached) (store_grows world core.number pa width v cached)

stored_grows : (core : Core) (world : World) (v : ℕ) (width : Width) (ea : ℕ) → OutcomeGrows world (stored_value core world v width ea)
unfolding stored_value
stored_grows core world v width ea = stored_grows_by core world v width ea (data_route core ea width Store)

link_grows_by : (core : Core) (world : World) (d ea : ℕ) (route : Route) → OutcomeGrows world (linked_by core world d ea route)
link_grows_by core world d ea (Refused cause) = tt
link_grows_by core world d ea (At pa cached) = value_grows world (record core { linked = true }) d Whole ea (load_linked world core.number pa cached) (linked_grows world core.number pa cached)

link_grows : (core : Core) (world : World) (d ea : ℕ) → OutcomeGrows world (loaded_linked core world d ea)
unfolding loaded_linked
link_grows core world d ea = link_grows_by core world d ea (data_route core ea Word Load)

success_grows : (world : World) (core : Core) (ea : ℕ) (answer : Option (Answer Bool)) → AnswerGrows world answer → OutcomeGrows world (with_success core ea answer)
success_grows world core ea None grows = tt
success_grows world core ea (Some answer) grows = grows

swap_grows_by : (core : Core) (world : World) (v ea : ℕ) (route : Route) → OutcomeGrows world (conditional_by core world v ea route)
swap_grows_by core world v ea (Refused cause) = tt
swap_grows_by core world v ea (At pa cached) = success_grows world core ea (store_conditional world core.number pa v cached core.linked) (conditional_grows world core.number pa v cached core.linked)

swap_grows : (core : Core) (world : World) (v ea : ℕ) → OutcomeGrows world (stored_conditional core world v ea)
unfolding stored_conditional
swap_grows core world v ea = swap_grows_by core world v ea (data_route core ea Word Store)

dropped_grows : (world : World) (c pa : ℕ) → Grows world (after_drop world c pa)
unfolding after_drop
dropped_grows world c pa = record { writes = omega arith; console = omega arith }

executed_grows : (insn : Insn) (core : Core) (world : World) → OutcomeGrows world (executed_on_bus insn core world)
unfolding executed_on_bus
executed_grows (insn.LoadLinked d a i) core world = link_grows core world d (plus (register core a) (immediate i))
executed_grows (insn.Load width extended d a i) core world = loaded_grows core world d width (extension width extended) (plus (register core a) (immediate i))
executed_grows (insn.StoreConditional a b i) core world = swap_grows core world (register core b) (plus (register core a) (immediate i))
executed_grows (insn.Store width a b i) core world = stored_grows core world (register core b) width (plus (register core a) (immediate i))
executed_grows (insn.MoveToSpecial a b k) core world = dropped_grows world core.number (register core b)
executed_grows _ core world = tt

outcome_grows : (misplaced : Bool) (world : World) (cause : Cause) (outcome : Outcome) → OutcomeGrows world outcome → OutcomeGrows world (cond misplaced (Err cause) outcome)
outcome_grows true world cause outcome grows = tt
outcome_grows false world cause outcome grows = grows

completed_grows : (outcome : Outcome) (core : Core) (world : World) → OutcomeGrows world outcome → Grows world (completed_on_bus outcome core world).world
completed_grows (Ok next) core world grows = grows
completed_grows (Err cause) core world grows = same world

on_bus_grows : (core : Core) (world : World) (insn : Insn) → Grows world (step_on_bus core world insn).world
unfolding step_on_bus
on_bus_grows core world insn = completed_grows (outcome_on_bus core world insn) core world (outcome_grows (is_misplaced core insn) world Illegal (executed_on_bus insn core world) (executed_grows insn core world))

state_where : (b : Bool) (world : World) (first second : State) → Grows world first.world → Grows world second.world → Grows world (cond b first second).world
state_where true world first second f s = f
state_where false world first second f s = s

insn_grows : (core : Core) (world : World) (insn : Option Insn) → Grows world (step_by_insn core world insn).world
insn_grows core world None = same world
insn_grows core world (Some insn) = state_where (needs_bus_of insn (spr_number core insn)) world (step_on_bus core world insn) (record { core = step_off_bus core (Some insn); world = world }) (on_bus_grows core world insn) (same world)

word_grows : (core : Core) (world : World) (word : ℕ) → Grows world (step_by_word core world word).world
unfolding step_by_word
word_grows core world word = insn_grows core world (decode_of word)

fetch_grows_where : (b : Bool) (core : Core) (world : World) (fetched : Fetched) (pa : ℕ) → Grows world (step_by_fetch core world (cond b (Some (record { value = fetched; after = world })) None) pa).world
fetch_grows_where true core world fetched pa = word_grows (with_line core pa fetched.line) world fetched.word
fetch_grows_where false core world fetched pa = same world

unheld_grows : (core : Core) (world : World) (pa : ℕ) (cached : Bool) → Grows world (step_unheld core world pa cached).world
unfolding step_unheld fetch
unheld_grows core world pa cached = fetch_grows_where (in_ram world pa) core world (record { word = value_at world.ram pa Word; line = cond cached (Some (line_bytes world.ram pa)) None }) pa

held_grows : (core : Core) (world : World) (pa : ℕ) (cached : Bool) (word : Option ℕ) → Grows world (step_by_held core world pa cached word).world
held_grows core world pa cached (Some word) = word_grows core world word
held_grows core world pa cached None = unheld_grows core world pa cached

route_grows : (core : Core) (world : World) (route : Route) → Grows world (step_by_route core world route).world
route_grows core world (Refused cause) = same world
route_grows core world (At pa cached) = held_grows core world pa cached (cached_instruction core pa cached)

interrupt_grows : (core : Core) (world : World) (due : Option Cause) → Grows world (step_by_interrupt core world due).world
interrupt_grows core world (Some cause) = same world
interrupt_grows core world None = route_grows core world (fetch_route core)

pub step_grows : (core : Core) (world : World) → Grows world (step core world).world
unfolding step
step_grows core world = interrupt_grows core world (due_interrupt core)

ended_grows : (core : Core) (world : World) (follows : Bool) → Grows world (turn_ended core world follows).world
unfolding turn_ended
ended_grows core world follows = state_where follows world (step core world) (record { core = core; world = world }) (step_grows core world) (same world)

pub turn_grows : (core : Core) (world : World) → Grows world (turn core world).world
unfolding turn
turn_grows core world = ended_grows (turn_begun core).core world (turn_begun core).follows
