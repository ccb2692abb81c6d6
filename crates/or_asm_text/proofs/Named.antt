-- No two instructions have the same name.
use Rattle.std.proofs.Common.{◌≡◌, Bool, true, false, refl, pos, Some}
use Rattle.or_isa.specs.declared.Insn.{Insn}
use Rattle.or_isa.specs.declared.Insn.TheVariants as insn
use Rattle.or_words.specs.declared.Width.{Width}
use Rattle.or_words.specs.declared.Width.TheVariants.{Byte, Half, Word}
use Rattle.or_words.specs.declared.ShiftKind.{ShiftKind}
use Rattle.or_words.specs.declared.ShiftKind.TheVariants.{Left}
use Rattle.or_words.specs.declared.CompareCode.{CompareCode}
use Rattle.or_words.specs.declared.CompareCode.TheVariants.{Eq}
use Rattle.or_words.specs.declared.MacKind.{MacKind}
use Rattle.or_words.specs.declared.MacKind.TheVariants.{Plus}
use Rattle.or_isa.specs.declared.ArithmeticKind.{ArithmeticKind}
use Rattle.or_isa.specs.declared.ArithmeticKind.TheVariants as arithmetic
use Rattle.or_isa.specs.declared.ImmediateKind.{ImmediateKind}
use Rattle.or_isa.specs.declared.ImmediateKind.TheVariants as immediate
use Rattle.or_isa.specs.declared.SyncKind.{SyncKind}
use Rattle.or_isa.specs.declared.SyncKind.TheVariants.{Memory}
use Rattle.or_isa.specs.Word.{word_of}
use Rattle.or_isa.specs.Decode.{decode_of}
use Rattle.or_isa.specs.Fields.{d_of, a_of, b_of, k_of, l_of, i_of, n_of, pages_of, split_k_of, split_i_of}
use Rattle.or_asm_text.specs.Parts.{with_operands, bare}
use Rattle.or_asm_text.specs.Names.{rows, name_of, insn_named}

abbrev IsFound : Insn → Type 0
IsFound i = insn_named (name_of i) ≡ Some (bare i)

sync_named : (kind : SyncKind) → IsFound (insn.Sync kind)
unfolding insn_named name_of rows with_operands bare word_of decode_of d_of a_of b_of k_of l_of i_of n_of pages_of split_k_of split_i_of
sync_named Memory = refl
sync_named _ = refl

load_named : (width : Width) (extended : Bool) → IsFound (insn.Load width extended 0 0 (pos 0))
unfolding insn_named name_of rows with_operands bare word_of decode_of d_of a_of b_of k_of l_of i_of n_of pages_of split_k_of split_i_of
load_named Word false = refl
load_named Word true = refl
load_named Byte false = refl
load_named Byte true = refl
load_named Half false = refl
load_named Half true = refl

store_named : (width : Width) → IsFound (insn.Store width 0 0 (pos 0))
unfolding insn_named name_of rows with_operands bare word_of decode_of d_of a_of b_of k_of l_of i_of n_of pages_of split_k_of split_i_of
store_named Word = refl
store_named _ = refl

arithmetic_immediate_named : (kind : ImmediateKind) → IsFound (insn.ArithmeticImmediate kind 0 0 (pos 0))
unfolding insn_named name_of rows with_operands bare word_of decode_of d_of a_of b_of k_of l_of i_of n_of pages_of split_k_of split_i_of
arithmetic_immediate_named immediate.Add = refl
arithmetic_immediate_named _ = refl

shift_immediate_named : (kind : ShiftKind) → IsFound (insn.ShiftImmediate kind 0 0 0)
unfolding insn_named name_of rows with_operands bare word_of decode_of d_of a_of b_of k_of l_of i_of n_of pages_of split_k_of split_i_of
shift_immediate_named Left = refl
shift_immediate_named _ = refl

shift_named : (kind : ShiftKind) → IsFound (insn.Shift kind 0 0 0)
unfolding insn_named name_of rows with_operands bare word_of decode_of d_of a_of b_of k_of l_of i_of n_of pages_of split_k_of split_i_of
shift_named Left = refl
shift_named _ = refl

compare_immediate_named : (code : CompareCode) → IsFound (insn.CompareImmediate code 0 (pos 0))
unfolding insn_named name_of rows with_operands bare word_of decode_of d_of a_of b_of k_of l_of i_of n_of pages_of split_k_of split_i_of
compare_immediate_named Eq = refl
compare_immediate_named _ = refl

compare_named : (code : CompareCode) → IsFound (insn.Compare code 0 0)
unfolding insn_named name_of rows with_operands bare word_of decode_of d_of a_of b_of k_of l_of i_of n_of pages_of split_k_of split_i_of
compare_named Eq = refl
compare_named _ = refl

accumulate_named : (kind : MacKind) → IsFound (insn.Accumulate kind 0 0)
unfolding insn_named name_of rows with_operands bare word_of decode_of d_of a_of b_of k_of l_of i_of n_of pages_of split_k_of split_i_of
accumulate_named Plus = refl
accumulate_named _ = refl

arithmetic_named : (kind : ArithmeticKind) → IsFound (insn.Arithmetic kind 0 0 0)
unfolding insn_named name_of rows with_operands bare word_of decode_of d_of a_of b_of k_of l_of i_of n_of pages_of split_k_of split_i_of
arithmetic_named arithmetic.Add = refl
arithmetic_named _ = refl

extend_named : (width : Width) (extended : Bool) → IsFound (insn.Extend width extended 0 0)
unfolding insn_named name_of rows with_operands bare word_of decode_of d_of a_of b_of k_of l_of i_of n_of pages_of split_k_of split_i_of
extend_named Word false = refl
extend_named Word true = refl
extend_named Byte false = refl
extend_named Byte true = refl
extend_named Half false = refl
extend_named Half true = refl

pub each_named : (i : Insn) → insn_named (name_of i) ≡ Some (bare i)
unfolding insn_named name_of rows with_operands bare word_of decode_of d_of a_of b_of k_of l_of i_of n_of pages_of split_k_of split_i_of
each_named (insn.Jump false n) = refl
each_named (insn.Jump true n) = refl
each_named (insn.Branch false n) = refl
each_named (insn.Branch true n) = refl
each_named (insn.JumpRegister false b) = refl
each_named (insn.JumpRegister true b) = refl
each_named (insn.PageAddress d n) = refl
each_named (insn.Nop k) = refl
each_named (insn.SystemCall k) = refl
each_named (insn.Trap k) = refl
each_named (insn.MoveHigh d k) = refl
each_named (insn.TakeAccumulator d) = refl
each_named (insn.Sync kind) = sync_named kind
each_named insn.ReturnFromException = refl
each_named (insn.Load width extended d a i) = load_named width extended
each_named (insn.LoadLinked d a i) = refl
each_named (insn.Store width a b i) = store_named width
each_named (insn.StoreConditional a b i) = refl
each_named (insn.ArithmeticImmediate kind d a i) = arithmetic_immediate_named kind
each_named (insn.AndImmediate d a k) = refl
each_named (insn.OrImmediate d a k) = refl
each_named (insn.MoveFromSpecial d a k) = refl
each_named (insn.MoveToSpecial a b k) = refl
each_named (insn.ShiftImmediate kind d a l) = shift_immediate_named kind
each_named (insn.Shift kind d a b) = shift_named kind
each_named (insn.CompareImmediate code a i) = compare_immediate_named code
each_named (insn.Compare code a b) = compare_named code
each_named (insn.AccumulateImmediate a i) = refl
each_named (insn.Accumulate kind a b) = accumulate_named kind
each_named (insn.Arithmetic kind d a b) = arithmetic_named kind
each_named (insn.Extend width extended d a) = extend_named width extended
each_named (insn.FindFirst d a) = refl
each_named (insn.FindLast d a) = refl
