-- The fixed bits of each group of instructions: in which parts of the word they stand, and which row they lead to.
use Rattle.std.proofs.Common.{◌≡◌, ℕ, ◌+◌, ◌*◌, ◌/◌, ◌%◌, ◌^◌, Bool, true, false, Some, refl}
use Rattle.or_isa.specs.Fields.{d_of, a_of, b_of, l_of, i_of}
use Rattle.or_isa.specs.Word.{load_code, store_code, immediate_code, shift_code, compare_code, accumulate_code, arithmetic_code, extend_code, d_field}
use Rattle.or_isa.specs.Table.{table}
use Rattle.or_words.specs.declared.Width.{Width}
use Rattle.or_words.specs.declared.Width.TheVariants.{Byte, Half, Word}
use Rattle.or_words.specs.declared.ShiftKind.{ShiftKind}
use Rattle.or_words.specs.declared.ShiftKind.TheVariants.{Left}
use Rattle.or_words.specs.declared.CompareCode.{CompareCode}
use Rattle.or_words.specs.declared.CompareCode.TheVariants.{Eq}
use Rattle.or_words.specs.declared.MacKind.{MacKind}
use Rattle.or_words.specs.declared.MacKind.TheVariants.{Plus}
use Rattle.or_isa.specs.declared.ArithmeticKind.{ArithmeticKind}
use Rattle.or_isa.specs.declared.ArithmeticKind.TheVariants as arithmetic
use Rattle.or_isa.specs.declared.ImmediateKind.{ImmediateKind}
use Rattle.or_isa.specs.declared.ImmediateKind.TheVariants as immediate
use Rattle.or_isa.specs.declared.Insn.TheVariants.{ShiftImmediate, Shift, CompareImmediate, Compare, Accumulate, Arithmetic, Extend}
use Rattle.or_isa.proofs.Parts.{first_by_parts}

pub load_fixed : (width : Width) (extended : Bool) → load_code width extended ≡ load_code width extended / 2 ^ 26 % 2 ^ 6 * 2 ^ 26
load_fixed Word false = refl
load_fixed Word true = refl
load_fixed Byte false = refl
load_fixed Byte true = refl
load_fixed Half false = refl
load_fixed Half true = refl

pub store_fixed : (width : Width) → store_code width ≡ store_code width / 2 ^ 26 % 2 ^ 6 * 2 ^ 26
store_fixed Word = refl
store_fixed _ = refl

pub immediate_fixed : (kind : ImmediateKind) → immediate_code kind ≡ immediate_code kind / 2 ^ 26 % 2 ^ 6 * 2 ^ 26
immediate_fixed immediate.Add = refl
immediate_fixed _ = refl

pub shift_fixed : (kind : ShiftKind) → (0xB8000000 + shift_code kind * 2 ^ 6) ≡ (0xB8000000 + shift_code kind * 2 ^ 6) / 2 ^ 26 % 2 ^ 6 * 2 ^ 26 + (0xB8000000 + shift_code kind * 2 ^ 6) / 2 ^ 11 % 2 ^ 5 * 2 ^ 11 + (0xB8000000 + shift_code kind * 2 ^ 6) / 2 ^ 6 % 2 ^ 5 * 2 ^ 6
shift_fixed Left = refl
shift_fixed _ = refl

pub shift_first : (kind : ShiftKind) (w l d a : ℕ) → first_by_parts table ((0xB8000000 + shift_code kind * 2 ^ 6) / 2 ^ 26 % 2 ^ 6) ((0xB8000000 + shift_code kind * 2 ^ 6) / 2 ^ 6 % 2 ^ 5) l ((0xB8000000 + shift_code kind * 2 ^ 6) / 2 ^ 11 % 2 ^ 5) d a w ≡ Some (ShiftImmediate kind (d_of w) (a_of w) (l_of w))
shift_first Left w l d a = refl
shift_first _ w l d a = refl

pub register_shift_fixed : (kind : ShiftKind) → (0xE0000008 + shift_code kind * 2 ^ 6) ≡ (0xE0000008 + shift_code kind * 2 ^ 6) / 2 ^ 26 % 2 ^ 6 * 2 ^ 26 + (0xE0000008 + shift_code kind * 2 ^ 6) / 2 ^ 6 % 2 ^ 5 * 2 ^ 6 + (0xE0000008 + shift_code kind * 2 ^ 6) % 2 ^ 6
register_shift_fixed Left = refl
register_shift_fixed _ = refl

pub register_shift_first : (kind : ShiftKind) (w b d a : ℕ) → first_by_parts table ((0xE0000008 + shift_code kind * 2 ^ 6) / 2 ^ 26 % 2 ^ 6) ((0xE0000008 + shift_code kind * 2 ^ 6) / 2 ^ 6 % 2 ^ 5) ((0xE0000008 + shift_code kind * 2 ^ 6) % 2 ^ 6) b d a w ≡ Some (Shift kind (d_of w) (a_of w) (b_of w))
register_shift_first Left w b d a = refl
register_shift_first _ w b d a = refl

pub compare_immediate_fixed : (code : CompareCode) → (0xBC000000 + d_field (compare_code code)) ≡ (0xBC000000 + d_field (compare_code code)) / 2 ^ 26 % 2 ^ 6 * 2 ^ 26 + (0xBC000000 + d_field (compare_code code)) / 2 ^ 21 % 2 ^ 5 * 2 ^ 21
compare_immediate_fixed Eq = refl
compare_immediate_fixed _ = refl

pub compare_immediate_first : (code : CompareCode) (w m l b a : ℕ) → first_by_parts table ((0xBC000000 + d_field (compare_code code)) / 2 ^ 26 % 2 ^ 6) m l b ((0xBC000000 + d_field (compare_code code)) / 2 ^ 21 % 2 ^ 5) a w ≡ Some (CompareImmediate code (a_of w) (i_of w))
compare_immediate_first Eq w m l b a = refl
compare_immediate_first _ w m l b a = refl

pub compare_fixed : (code : CompareCode) → (0xE4000000 + d_field (compare_code code)) ≡ (0xE4000000 + d_field (compare_code code)) / 2 ^ 26 % 2 ^ 6 * 2 ^ 26 + (0xE4000000 + d_field (compare_code code)) / 2 ^ 21 % 2 ^ 5 * 2 ^ 21 + (0xE4000000 + d_field (compare_code code)) / 2 ^ 6 % 2 ^ 5 * 2 ^ 6 + (0xE4000000 + d_field (compare_code code)) % 2 ^ 6
compare_fixed Eq = refl
compare_fixed _ = refl

pub compare_first : (code : CompareCode) (w b a : ℕ) → first_by_parts table ((0xE4000000 + d_field (compare_code code)) / 2 ^ 26 % 2 ^ 6) ((0xE4000000 + d_field (compare_code code)) / 2 ^ 6 % 2 ^ 5) ((0xE4000000 + d_field (compare_code code)) % 2 ^ 6) b ((0xE4000000 + d_field (compare_code code)) / 2 ^ 21 % 2 ^ 5) a w ≡ Some (Compare code (a_of w) (b_of w))
compare_first Eq w b a = refl
compare_first _ w b a = refl

pub accumulate_fixed : (kind : MacKind) → accumulate_code kind ≡ accumulate_code kind / 2 ^ 26 % 2 ^ 6 * 2 ^ 26 + accumulate_code kind / 2 ^ 21 % 2 ^ 5 * 2 ^ 21 + accumulate_code kind / 2 ^ 6 % 2 ^ 5 * 2 ^ 6 + accumulate_code kind % 2 ^ 6
accumulate_fixed Plus = refl
accumulate_fixed _ = refl

pub accumulate_first : (kind : MacKind) (w b a : ℕ) → first_by_parts table (accumulate_code kind / 2 ^ 26 % 2 ^ 6) (accumulate_code kind / 2 ^ 6 % 2 ^ 5) (accumulate_code kind % 2 ^ 6) b (accumulate_code kind / 2 ^ 21 % 2 ^ 5) a w ≡ Some (Accumulate kind (a_of w) (b_of w))
accumulate_first Plus w b a = refl
accumulate_first _ w b a = refl

pub arithmetic_fixed : (kind : ArithmeticKind) → (0xE0000000 + arithmetic_code kind) ≡ (0xE0000000 + arithmetic_code kind) / 2 ^ 26 % 2 ^ 6 * 2 ^ 26 + (0xE0000000 + arithmetic_code kind) / 2 ^ 6 % 2 ^ 5 * 2 ^ 6 + (0xE0000000 + arithmetic_code kind) % 2 ^ 6
arithmetic_fixed arithmetic.Add = refl
arithmetic_fixed _ = refl

pub arithmetic_first : (kind : ArithmeticKind) (w b d a : ℕ) → first_by_parts table ((0xE0000000 + arithmetic_code kind) / 2 ^ 26 % 2 ^ 6) ((0xE0000000 + arithmetic_code kind) / 2 ^ 6 % 2 ^ 5) ((0xE0000000 + arithmetic_code kind) % 2 ^ 6) b d a w ≡ Some (Arithmetic kind (d_of w) (a_of w) (b_of w))
arithmetic_first arithmetic.Add w b d a = refl
arithmetic_first _ w b d a = refl

pub extend_fixed : (width : Width) (extended : Bool) → (0xE0000000 + extend_code width extended) ≡ (0xE0000000 + extend_code width extended) / 2 ^ 26 % 2 ^ 6 * 2 ^ 26 + (0xE0000000 + extend_code width extended) / 2 ^ 11 % 2 ^ 5 * 2 ^ 11 + (0xE0000000 + extend_code width extended) / 2 ^ 6 % 2 ^ 5 * 2 ^ 6 + (0xE0000000 + extend_code width extended) % 2 ^ 6
extend_fixed Word false = refl
extend_fixed Word true = refl
extend_fixed Byte false = refl
extend_fixed Byte true = refl
extend_fixed Half false = refl
extend_fixed Half true = refl

pub extend_first : (width : Width) (extended : Bool) (w d a : ℕ) → first_by_parts table ((0xE0000000 + extend_code width extended) / 2 ^ 26 % 2 ^ 6) ((0xE0000000 + extend_code width extended) / 2 ^ 6 % 2 ^ 5) ((0xE0000000 + extend_code width extended) % 2 ^ 6) ((0xE0000000 + extend_code width extended) / 2 ^ 11 % 2 ^ 5) d a w ≡ Some (Extend width extended (d_of w) (a_of w))
extend_first Word false w d a = refl
extend_first Word true w d a = refl
extend_first Byte false w d a = refl
extend_first Byte true w d a = refl
extend_first Half false w d a = refl
extend_first Half true w d a = refl
