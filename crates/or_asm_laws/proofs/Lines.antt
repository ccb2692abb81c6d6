-- Lines of marks, commas and blanks.
use Rattle.std.proofs.Common.{◌≡◌, ◌∙◌, refl, sym, ap, ℕ, ◌<◌, ℤ, pos, negsuc, Bool, true, false, cond, ◌&&◌, ◌||◌, List, [], ◌∷◌, ◌++◌, length, drop, append_assoc, subst, arith}
use Rattle.std.specs.Prelude.{not, ◌==◌}
use Rattle.std.specs.List.{list_all, onto_first}
use Rattle.std.specs.Fmt.{signed_decimal}
use Rattle.std.proofs.lemmas.Bool.Decides.{nat_tests}
use Rattle.std.proofs.lemmas.List.{length-append}
use Rattle.std.proofs.lemmas.Fmt.{decimal_is_IsNumeral}
use Rattle.or_isa.specs.declared.Insn.{Insn}
use Rattle.or_isa.specs.Fits.{Fits, IsSigned}
use Rattle.or_asm_text.specs.declared.operands.Operands.{Operands}
use Rattle.or_asm_text.specs.declared.operands.Slot.{Slot}
use Rattle.or_asm_text.specs.declared.operands.Slot.TheVariants.{D, A, B, Signed, Half, OptionalHalf, HighHalf, LowHalf, Shift, Page, Target, Memory}
use Rattle.or_asm_text.specs.Parts.{operands_of}
use Rattle.or_asm_text.specs.Names.{name_of}
use Rattle.or_asm_text.specs.Slots.{slots_of}
use Rattle.or_asm_text.specs.Texts.{slot_text, further_text, slots_text, text_of}
use Rattle.or_asm_read.specs.Cuts.{is_blank, is_allowed, before, after, has, trimmed_start, trimmed_end, trimmed, body_of, is_clean, has_label, is_label, statement_of}
use Rattle.or_asm.specs.Lines.{lines_of}
use Rattle.or_asm_laws.proofs.SlotFits.{IsNatural, SlotFits, SlotsFit}
use Rattle.or_asm_laws.proofs.Spelled.{and_true, not_true, or_left, is_mark, all_append, all_of, none_such, no_blanks, before_none, none_any, skipped_first, ended_same, ended_behind}
use Rattle.or_asm_laws.proofs.Operands.{all_shown, operands_marks, append_none}
use Rattle.or_asm_laws.proofs.Names.{spelling}

-- the bytes of a line that is printed
abbrev pub is_line : ℕ → Bool
is_line b = is_mark b || b == 44 || b == 32

line_allowed : (b : ℕ) → is_line b ≡ true → is_allowed b ≡ true
line_allowed b e = grind (arith, nat_tests)

-- a line that is its own statement
pub record Clear (line : List ℕ) : Type 0 where
  pub clean : is_clean line ≡ true
  pub unlabelled : has_label line ≡ false
  pub whole : statement_of line ≡ line

pub clear : (x : ℕ) (xs : List ℕ) → list_all is_line (x ∷ xs) ≡ true → is_blank x ≡ false → trimmed_end (x ∷ xs) ≡ x ∷ xs → Clear (x ∷ xs)
unfolding is_clean has_label statement_of body_of
clear x xs f first last =
    let line = x ∷ xs in
    let cut : before 35 line ≡ line = before_none (λ b. b == 35) line (none_such is_line 35 refl line f) in
    let body : trimmed_start (before 35 line) ≡ line = ap trimmed_start cut ∙ skipped_first x xs first in
    let no_colon : has 58 line ≡ false = none_any (λ b. b == 58) line (none_such is_line 58 refl line f) in
    let no_label : (has 58 (trimmed_start (before 35 line)) && is_label (before 58 (trimmed_start (before 35 line)))) ≡ false =
    ap (λ l. has 58 l && is_label (before 58 l)) body ∙ ap (λ t. t && is_label (before 58 line)) no_colon in
    record {
      clean = ap (list_all is_allowed) cut ∙ all_of is_line is_allowed line_allowed line f;
      unlabelled = no_label;
      whole = ap (λ t. trimmed (cond t (after 58 (trimmed_start (before 35 line))) (trimmed_start (before 35 line)))) no_label
          ∙ ap trimmed body ∙ ap trimmed_end (skipped_first x xs first) ∙ last;
    }

-- lines
pub lines_at : (xs ys : List ℕ) → list_all (λ b. not (b == 10)) xs ≡ true → lines_of (xs ++ 10 ∷ ys) ≡ xs ∷ lines_of ys
lines_at [] ys f = refl
lines_at (x ∷ xs) ys f =
    let parts = and_true (not (x == 10)) (list_all (λ b. not (b == 10)) xs) f in
    ap (λ t. cond t ([] ∷ lines_of (xs ++ 10 ∷ ys)) (onto_first x (lines_of (xs ++ 10 ∷ ys)))) (not_true (x == 10) parts.0)
    ∙ ap (onto_first x) (lines_at xs ys parts.1)

pub lines_one : (x : ℕ) (xs : List ℕ) → list_all (λ b. not (b == 10)) (x ∷ xs) ≡ true → lines_of (x ∷ xs) ≡ (x ∷ xs) ∷ []
lines_one x [] f =
    let parts = and_true (not (x == 10)) true f in
    ap (λ t. cond t ([] ∷ []) (onto_first x [])) (not_true (x == 10) parts.0)
lines_one x (y ∷ ys) f =
    let parts = and_true (not (x == 10)) (list_all (λ b. not (b == 10)) (y ∷ ys)) f in
    ap (λ t. cond t ([] ∷ lines_of (y ∷ ys)) (onto_first x (lines_of (y ∷ ys)))) (not_true (x == 10) parts.0)
    ∙ ap (onto_first x) (lines_one y ys parts.1)

-- each place shows something
signed_some : (z : ℤ) → IsSigned 25 z → 0 < length (signed_decimal z)
signed_some (pos n) h = (decimal_is_IsNumeral n (omega arith)).0.0
signed_some (negsuc n) h = omega arith

from_15 : (z : ℤ) → IsSigned 15 z → IsSigned 25 z
from_15 (pos n) h = omega arith
from_15 (negsuc n) h = omega arith

from_20 : (z : ℤ) → IsSigned 20 z → IsSigned 25 z
from_20 (pos n) h = omega arith
from_20 (negsuc n) h = omega arith

from_6 : (z : ℤ) → IsNatural 6 z → IsSigned 25 z
from_6 (pos n) h = omega arith
from_6 (negsuc n) h = absurd h

slot_some : (pc : ℕ) (slot : Slot) (o : Operands) → SlotFits slot o → 0 < length (slot_text pc slot o)
slot_some pc D o h = omega arith
slot_some pc A o h = omega arith
slot_some pc B o h = omega arith
slot_some pc Signed o h = signed_some o.value (from_15 o.value h)
slot_some pc Half o h = omega arith
slot_some pc OptionalHalf o h = omega arith
slot_some pc HighHalf o h = omega arith
slot_some pc LowHalf o h = omega arith
slot_some pc Shift o h = signed_some o.value (from_6 o.value h)
slot_some pc Page o h = signed_some o.value (from_20 o.value h)
slot_some pc Target o h = omega arith
slot_some pc Memory o h =
    let number = signed_decimal o.value in
    let some = signed_some o.value (from_15 o.value h.1) in
    simp length-append (omega arith)

-- operands have no blanks
comma_blank : (b : ℕ) → (is_mark b || b == 44) ≡ true → is_blank b ≡ false
comma_blank b e = grind (arith, nat_tests)

no_blank_in : (xs : List ℕ) → list_all (λ b. is_mark b || b == 44) xs ≡ true → list_all (λ b. not (is_blank b)) xs ≡ true
no_blank_in [] f = refl
no_blank_in (x ∷ xs) f =
    let parts = and_true (is_mark x || x == 44) (list_all (λ b. is_mark b || b == 44) xs) f in
    ap (λ t. not t && list_all (λ b. not (is_blank b)) xs) (comma_blank x parts.0) ∙ no_blank_in xs parts.1

-- an end without blanks
ended_some : (xs ys : List ℕ) → 0 < length ys → list_all (λ b. not (is_blank b)) ys ≡ true → trimmed_end (xs ++ ys) ≡ xs ++ ys
ended_some xs [] some f = absurd (omega arith)
ended_some xs (y ∷ ys) some f = ended_behind xs y ys f

-- what is printed, as a name and what stands behind it
printed_parts : (pc : ℕ) (m : Insn) (slots : List Slot) (o : Operands) → SlotsFit slots o →
    (list_all is_line (name_of m ++ slots_text pc o slots) ≡ true) × (trimmed_end (name_of m ++ slots_text pc o slots) ≡ name_of m ++ slots_text pc o slots)
printed_parts pc m [] o h =
    let marks = (spelling m).marks in
    let label_pair = all_of is_mark is_line (λ b e. or_left (is_mark b || b == 44) (b == 32) (or_left (is_mark b) (b == 44) e)) (name_of m) marks in (
      ap (list_all is_line) (append_none (name_of m)) ∙ label_pair,
      ap trimmed_end (append_none (name_of m)) ∙ ended_same (name_of m) (no_blanks (name_of m) marks) ∙ sym (append_none (name_of m)),
    )
printed_parts pc m (slot ∷ slots) o h =
    let marks = (spelling m).marks in
    let label_pair = all_of is_mark is_line (λ b e. or_left (is_mark b || b == 44) (b == 32) (or_left (is_mark b) (b == 44) e)) (name_of m) marks in
    let text = slot_text pc slot o ++ further_text pc o slots in
    let commas = operands_marks pc slot slots o h in
    let shown = all_of (λ b. is_mark b || b == 44) is_line (λ b e. or_left (is_mark b || b == 44) (b == 32) e) text commas in
    let some : 0 < length text = simp length-append (omega (arith, slot_some pc slot o h.0)) in
    let whole : name_of m ++ 32 ∷ text ≡ (name_of m ++ 32 ∷ []) ++ text = sym (append_assoc (name_of m) (32 ∷ []) text) in (
      all_append is_line (name_of m) (32 ∷ text) label_pair shown,
      ap trimmed_end whole ∙ ended_some (name_of m ++ 32 ∷ []) text some (no_blank_in text commas) ∙ sym whole,
    )

clear_at : (line : List ℕ) (x : ℕ) (xs : List ℕ) → line ≡ x ∷ xs → list_all is_line line ≡ true → is_blank x ≡ false → trimmed_end line ≡ line → Clear line
clear_at line x xs e f first last =
    let P : List ℕ → Type 0 = λ l. list_all is_line l ≡ true in
    let Q : List ℕ → Type 0 = λ l. trimmed_end l ≡ l in
    let C : List ℕ → Type 0 = Clear in
    subst C (sym e) (clear x xs (subst P e f) first (subst Q e last))

pub text_first : (pc : ℕ) (i : Insn) → (rest : List ℕ) × (text_of pc i ≡ 108 ∷ rest)
unfolding text_of
text_first pc i =
    let behind = slots_text pc (operands_of i) (slots_of i) in
    (drop 1 (name_of i) ++ behind, ap (λ n. n ++ behind) (spelling i).first)

pub text_line : (pc : ℕ) (i : Insn) → Fits i → list_all is_line (text_of pc i) ≡ true
unfolding text_of
text_line pc i fit = (printed_parts pc i (slots_of i) (operands_of i) (all_shown i fit)).0

text_ended : (pc : ℕ) (i : Insn) → Fits i → trimmed_end (text_of pc i) ≡ text_of pc i
unfolding text_of
text_ended pc i fit = (printed_parts pc i (slots_of i) (operands_of i) (all_shown i fit)).1

pub text_clear : (pc : ℕ) (i : Insn) → Fits i → Clear (text_of pc i)
text_clear pc i fit =
    let first = text_first pc i in
    clear_at (text_of pc i) 108 first.0 first.1 (text_line pc i fit) refl (text_ended pc i fit)
