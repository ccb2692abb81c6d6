-- The text of a turn that is traced step by step.
use Rattle.std.specs.Prelude.{ℕ, ◌++◌, List, [], ◌∷◌, Option, Some, None, codes, decimal}
use Rattle.std.specs.List.{flat_map}
use Rattle.or_text.specs.Hexadecimal.{word_text}
use Rattle.or_text.specs.Letters.{core_letter}
use Rattle.or_isa.specs.declared.Insn.{Insn}
use Rattle.or_isa.specs.Decode.{decode_of}
use Rattle.or_asm_text.specs.Texts.{text_of}
use Rattle.or_elf.specs.Symbols.{SymbolTable}
use Rattle.or_elf.specs.Labels.{label_text}
use Rattle.or_parts.specs.declared.Cause.{Cause}
use Rattle.or_parts.specs.declared.Cause.TheVariants.{BusError, DataPageFault, InsnPageFault, Tick, Alignment, Illegal, External, DataMiss, InsnMiss, Range, Syscall, Trap}
use Rattle.or_core.specs.declared.traced_steps.TracedStep.{TracedStep}

-- the exceptions as the OpenRISC 1000 Architecture Manual 1.3 names them (section 6.2), in lower case
abbrev pub exception_name : Cause → List ℕ
exception_name (BusError address) = codes "bus-error"
exception_name (DataPageFault address) = codes "data-page-fault"
exception_name (InsnPageFault address) = codes "insn-page-fault"
exception_name Tick = codes "tick"
exception_name (Alignment address) = codes "alignment"
exception_name Illegal = codes "illegal"
exception_name External = codes "external"
exception_name (DataMiss address) = codes "data-miss"
exception_name (InsnMiss address) = codes "insn-miss"
exception_name Range = codes "range"
exception_name Syscall = codes "syscall"
exception_name Trap = codes "trap"

-- the instruction that a word is, if it is one
abbrev pub insn_text : ℕ → Option Insn → List ℕ
insn_text pc None = codes "illegal"
insn_text pc (Some insn) = text_of pc insn

-- the word that a step executes, and its instruction; where none was fetched, nothing
abbrev pub executed_text : ℕ → Option ℕ → List ℕ
executed_text pc None = []
executed_text pc (Some word) = codes " " ++ word_text word ++ codes " " ++ insn_text pc (decode_of word)

-- the exception that a step enters, if it enters one
abbrev pub entry_text : Option Cause → List ℕ
entry_text None = []
entry_text (Some cause) = codes " enters " ++ exception_name cause

-- A STEP: its pc, what it executes and what it enters; before the first instruction of a function stands its name
unfoldable pub step_text : SymbolTable → TracedStep → List ℕ
step_text symbols step = label_text symbols step.pc ++ word_text step.pc ++ executed_text step.pc step.word ++ entry_text step.exception ++ codes "\n"

unfoldable pub steps_text : SymbolTable → List TracedStep → List ℕ
steps_text symbols steps = flat_map (step_text symbols) steps

-- the line of a turn: its number, counted from 1, and its core's letter
abbrev pub head_text : ℕ → ℕ → List ℕ
head_text number core = codes "turn " ++ decimal number ++ codes " " ++ core_letter core ∷ codes "\n"

-- A TURN: its line, and those of its steps
unfoldable pub turn_text : SymbolTable → ℕ → ℕ → List TracedStep → List ℕ
turn_text symbols number core steps = head_text number core ++ steps_text symbols steps
