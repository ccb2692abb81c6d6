-- The access to RAM that a turn of a core makes: there is at most one.
use Rattle.std.specs.Prelude.{ℕ, ℤ, Bool, true, ◌&&◌, if◌then◌else◌, Option, Some, None, option_and_then, option_map}
use Rattle.std.specs.Option.{option_or}
use Rattle.or_words.specs.declared.Width.{Width}
use Rattle.or_words.specs.declared.Width.TheVariants.{Word}
use Rattle.or_isa.specs.declared.Insn.{Insn}
use Rattle.or_isa.specs.declared.Insn.TheVariants as insn
use Rattle.or_isa.specs.Decode.{decode_of}
use Rattle.or_parts.specs.declared.Cause.{Cause}
use Rattle.or_parts.specs.declared.Right.{Right}
use Rattle.or_parts.specs.declared.Right.TheVariants as right
use Rattle.or_parts.specs.Bits.{plus, immediate}
use Rattle.or_model.specs.declared.Route.{Route}
use Rattle.or_model.specs.declared.Route.TheVariants.{Refused, At}
use Rattle.or_model.specs.Core.{Core, register}
use Rattle.or_model.specs.World.{World, stands}
use Rattle.or_model.specs.Bus.{in_ram, fetch}
use Rattle.or_model.specs.Routes.{fetch_route, cached_instruction, data_route}
use Rattle.or_model.specs.Step.{due_interrupt}
use Rattle.or_model.specs.Turn.{turn_begun}
use Rattle.or_bus.specs.declared.access.Access.{Access}
use Rattle.or_bus.specs.declared.access.AccessKind.{AccessKind}
use Rattle.or_bus.specs.declared.access.AccessKind.TheVariants.{Load, Store, Linked, Conditional}
use Rattle.or_bus.specs.Last.{access_of}

-- how an instruction goes to memory: in which way, how wide, and at which register and immediate
pub record MemoryOperand : Type 0 where
  pub kind : AccessKind
  pub width : Width
  pub base : ℕ
  pub offset : ℤ

abbrev pub memory_operand : Insn → Option MemoryOperand
memory_operand (insn.Load width signed d a i) = Some (record { kind = Load; width = width; base = a; offset = i })
memory_operand (insn.Store width a b i) = Some (record { kind = Store; width = width; base = a; offset = i })
memory_operand (insn.LoadLinked d a i) = Some (record { kind = Linked; width = Word; base = a; offset = i })
memory_operand (insn.StoreConditional a b i) = Some (record { kind = Conditional; width = Word; base = a; offset = i })
memory_operand _ = None

-- the right that it needs
abbrev pub right_of : AccessKind → Right
right_of Load = right.Load
right_of Linked = right.Load
right_of Store = right.Store
right_of Conditional = right.Store

-- an l.swa goes to memory only where the link is set and its reservation stands
abbrev pub is_made : Core → World → ℕ → AccessKind → Bool
is_made core world pa Load = true
is_made core world pa Linked = true
is_made core world pa Store = true
is_made core world pa Conditional = core.linked && stands world core.number pa

-- it is an access to RAM where it meets no exception and RAM answers
abbrev pub access_at : Core → World → AccessKind → Route → Option Access
access_at core world kind (Refused cause) = None
access_at core world kind (At pa cached) = if in_ram world pa && is_made core world pa kind then Some (access_of core.number pa kind) else None

abbrev pub operand_address : Core → MemoryOperand → ℕ
operand_address core operand = plus (register core operand.base) (immediate operand.offset)

abbrev pub operand_route : Core → MemoryOperand → Route
operand_route core operand = data_route core (operand_address core operand) operand.width (right_of operand.kind)

abbrev pub access_by : Core → World → MemoryOperand → Option Access
access_by core world operand = access_at core world operand.kind (operand_route core operand)

-- the access of an instruction
abbrev pub access_of_insn : Core → World → Option Insn → Option Access
access_of_insn core world insn = option_and_then (λ found. option_and_then (access_by core world) (memory_operand found)) insn

-- the access of a word as an instruction
unfoldable pub access_of_word : Core → World → ℕ → Option Access
access_of_word core world word = access_of_insn core world (decode_of word)

-- the word that is fetched: of a held instruction line, or what the bus answers
abbrev pub word_fetched : World → ℕ → Bool → Option ℕ
word_fetched world pa cached = option_map (λ answer. answer.value.word) (fetch world pa cached)

abbrev pub word_at : Core → World → Route → Option ℕ
word_at core world (Refused cause) = None
word_at core world (At pa cached) = option_or (cached_instruction core pa cached) (word_fetched world pa cached)

-- the word that a step executes: none where an interrupt is due or the fetch meets an exception
abbrev pub word_by : Core → World → Option Cause → Option ℕ
word_by core world (Some cause) = None
word_by core world None = word_at core world (fetch_route core)

-- the access to RAM that a step makes
unfoldable pub step_access : Core → World → Option Access
step_access core world = option_and_then (access_of_word core world) (word_by core world (due_interrupt core))

-- THE ACCESS of a turn: that of its step on the bus, since private steps make none
unfoldable pub turn_access : Core → World → Option Access
turn_access core world = let first = turn_begun core in if first.follows then step_access first.core world else None
