-- What is printed is a statement that puts the instruction's word.
use Rattle.std.proofs.Common.{◌≡◌, ◌∙◌, refl, sym, ap, ℕ, ◌%◌, ◌^◌, ◌<◌, false, cond, List, [], ◌∷◌, ◌++◌, codes, Result, Ok, Err}
use Rattle.std.specs.List.{before_first, after_first}
use Rattle.std.specs.Str.{bytes_eq}
use Rattle.or_isa.specs.declared.Insn.{Insn}
use Rattle.or_isa.specs.Fits.{Fits}
use Rattle.or_isa.specs.Word.{word_of}
use Rattle.or_asm_text.specs.declared.operands.Operands.{Operands}
use Rattle.or_asm_text.specs.declared.operands.Slot.{Slot}
use Rattle.or_asm_text.specs.Parts.{operands_of, with_operands, bare}
use Rattle.or_asm_text.specs.Names.{name_of, insn_named}
use Rattle.or_asm_text.specs.Ranges.{filled}
use Rattle.or_asm_text.specs.Slots.{slots_of}
use Rattle.or_asm_text.specs.Texts.{slot_text, further_text, slots_text, text_of}
use Rattle.or_asm_text.proofs.Parts.{whole, bare_with, bare_slots, all_filled}
use Rattle.or_asm_text.proofs.Named.{each_named}
use Rattle.or_asm_laws.proofs.Names.{spelling}
use Rattle.or_asm_read.specs.declared.fault.Fault.{Fault}
use Rattle.or_asm_read.specs.declared.statements.Statement.TheVariants.{Nothing, Word}
use Rattle.or_asm_read.specs.Cuts.{is_blank, trimmed, name_part, operands_part}
use Rattle.or_asm_read.specs.Numbers.{number_of}
use Rattle.or_asm_read.specs.Operands.{is_empty, value_at, bits_of, operands_at}
use Rattle.or_asm_read.specs.Labels.{Labels}
use Rattle.or_asm_read.specs.Statements.{org_at, word_at, made_of, insn_at, named_at, statement_at}
use Rattle.or_asm_laws.proofs.SlotFits.{SlotsFit}
use Rattle.or_asm_laws.proofs.Spelled.{no_blanks, before_at, after_at, before_none, after_none}
use Rattle.or_asm_laws.proofs.Operands.{all_shown, operands_again, append_none}

-- an instruction without operands takes the same operands
made_bare : (i : Insn) (r : Result Operands Fault) → made_of (bare i) r ≡ made_of i r
made_bare i (Ok o) = ap (λ j. Ok (Word (word_of j))) (bare_with i o)
made_bare i (Err e) = refl

named_again : (labels : Labels) (pc : ℕ) (i : Insn) (text : List ℕ) → named_at labels pc (name_of i) text ≡ made_of i (operands_at labels pc (slots_of i) text)
unfolding named_at
named_again labels pc i text =
    let s = spelling i in
    let org = org_at (number_of (trimmed text)) in
    let word = word_at (bits_of (value_at labels (trimmed text))) in
    let other = insn_at labels pc (insn_named (name_of i)) text in
    ap (λ t. cond t org (cond (bytes_eq (name_of i) (codes ".word")) word other)) s.not_org
    ∙ ap (λ t. cond t word other) s.not_word
    ∙ ap (λ x. insn_at labels pc x text) (each_named i)
    ∙ ap (λ slots. made_of (bare i) (operands_at labels pc slots text)) (bare_slots i)
    ∙ made_bare i (operands_at labels pc (slots_of i) text)

-- a name and what stands behind it
split_again : (labels : Labels) (pc : ℕ) (m : Insn) (behind text : List ℕ) → name_part (name_of m ++ behind) ≡ name_of m → operands_part (name_of m ++ behind) ≡ text
    → statement_at labels pc (name_of m ++ behind) ≡ made_of m (operands_at labels pc (slots_of m) text)
unfolding statement_at
split_again labels pc m behind text front back =
    let s = name_of m ++ behind in
    let some : is_empty s ≡ false = ap (λ n. is_empty (n ++ behind)) (spelling m).first in
    ap (λ t. cond t (Ok Nothing) (named_at labels pc (name_part s) (operands_part s))) some
    ∙ ap (λ n. named_at labels pc n (operands_part s)) front
    ∙ ap (λ t. named_at labels pc (name_of m) t) back
    ∙ named_again labels pc m text

-- for any places among the operands
slots_again : (labels : Labels) (pc : ℕ) (m : Insn) (slots : List Slot) (o : Operands) → slots ≡ slots_of m → pc < 2 ^ 28 → pc % 4 ≡ 0 → SlotsFit slots o
    → statement_at labels pc (name_of m ++ slots_text pc o slots) ≡ made_of m (Ok (filled slots o))
unfolding name_part operands_part
slots_again labels pc m [] o e small aligned h =
    let clear = no_blanks (name_of m) (spelling m).marks in
    let same : name_of m ++ [] ≡ name_of m = append_none (name_of m) in
    split_again labels pc m [] [] (ap (before_first is_blank) same ∙ before_none is_blank (name_of m) clear) (ap (after_first is_blank) same ∙ after_none is_blank (name_of m) clear)
    ∙ ap (λ x. made_of m (operands_at labels pc x [])) (sym e)
slots_again labels pc m (slot ∷ slots) o e small aligned h =
    let clear = no_blanks (name_of m) (spelling m).marks in
    let text = slot_text pc slot o ++ further_text pc o slots in
    split_again labels pc m (32 ∷ text) text (before_at is_blank (name_of m) 32 text clear refl) (after_at is_blank (name_of m) 32 text clear refl)
    ∙ ap (λ x. made_of m (operands_at labels pc x text)) (sym e)
    ∙ ap (made_of m) (operands_again labels pc slot slots o small aligned h)

again : (i : Insn) → with_operands i (operands_of i) ≡ i
again i = sym (bare_with i (operands_of i)) ∙ whole i

pub statement_again : (labels : Labels) (pc : ℕ) (i : Insn) → Fits i → pc < 2 ^ 28 → pc % 4 ≡ 0 → statement_at labels pc (text_of pc i) ≡ Ok (Word (word_of i))
unfolding text_of
statement_again labels pc i fit small aligned =
    slots_again labels pc i (slots_of i) (operands_of i) refl small aligned (all_shown i fit)
    ∙ ap (λ o. made_of i (Ok o)) (all_filled i)
    ∙ ap (λ j. Ok (Word (word_of j))) (again i)
