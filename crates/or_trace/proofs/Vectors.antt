-- Worked rows.
use Rattle.std.proofs.Common.{◌≡◌, ◌∷◌, ◌++◌, [], refl, Some, None, codes, decimal}
use Rattle.std.specs.Fmt.{digits}
use Rattle.or_text.specs.Hexadecimal.{word_text}
use Rattle.or_isa.specs.Decode.{decode_of}
use Rattle.or_isa.specs.Word.{word_of}
use Rattle.or_isa.specs.Fields.{d_of, a_of, b_of, k_of, l_of, i_of, n_of, pages_of, split_k_of, split_i_of}
use Rattle.or_asm_text.specs.Names.{rows, name_of}
use Rattle.or_asm_text.specs.Slots.{slots_of}
use Rattle.or_asm_text.specs.Parts.{operands_of, with_operands, bare}
use Rattle.or_asm_text.specs.Texts.{text_of}
use Rattle.or_elf.specs.Symbols.{SymbolTable, no_symbols, innermost, name_text}
use Rattle.or_parts.specs.declared.Cause.TheVariants.{Tick, Illegal, DataMiss}
use Rattle.or_core.specs.declared.traced_steps.TracedStep.{TracedStep}
use Rattle.or_trace.specs.Text.{step_text, steps_text, turn_text}

-- a function f of eight bytes from 00000100 on
abbrev one_function : SymbolTable
one_function = record { functions = record { index = 1; name = 1; value = 0x100; size = 8 } ∷ []; objects = []; names = 0 ∷ 102 ∷ 0 ∷ [] }

-- an instruction that retires
retires : step_text no_symbols (record { pc = 0x100; word = Some 0x15000001; exception = None }) ≡ codes "00000100 15000001 l.nop 0x1\n"
unfolding digits step_text innermost name_text word_text decode_of word_of d_of a_of b_of k_of l_of i_of n_of pages_of split_k_of split_i_of rows name_of slots_of operands_of with_operands bare text_of
retires = refl

-- a word that is no instruction
none : step_text no_symbols (record { pc = 0x2000; word = Some 0xFFFFFFFF; exception = Some Illegal }) ≡ codes "00002000 FFFFFFFF illegal enters illegal\n"
unfolding digits step_text innermost name_text word_text decode_of word_of d_of a_of b_of k_of l_of i_of n_of pages_of split_k_of split_i_of rows name_of slots_of operands_of with_operands bare text_of
none = refl

-- no word was fetched, before a function's first instruction and inside it
interrupted : turn_text one_function 1 0 (record { pc = 0x104; word = None; exception = Some Tick } ∷ record { pc = 0x100; word = None; exception = Some Tick } ∷ [])
    ≡ codes "turn 1 a\n00000104 enters tick\nf:\n00000100 enters tick\n"
unfolding digits turn_text steps_text step_text innermost name_text word_text
interrupted = refl
