-- What stands beside the lines once one is filled or dropped.
use Rattle.std.proofs.Common.{◌≡◌, ◌≢◌, ℕ, ◌+◌, ◌*◌, ◌/◌, ◌%◌, ◌<◌, Bool, true, false, List, Option, Some, None, length, arith, refl, ap, sym, ◌∙◌, subst, replicate}
use Rattle.std.specs.Prelude.{slice_index_or, slice_set, ◌==◌}
use Rattle.std.proofs.lemmas.Bool.Decides.{nat_tests}
use Rattle.std.proofs.lemmas.List.{get_or-set_same, get_or-set_other, get_or-replicate}
use Rattle.or_isa.specs.declared.Insn.{Insn}
use Rattle.or_parts.specs.declared.Line.{Line}
use Rattle.or_parts.specs.Lines.{index_of, line_at_index}
use Rattle.or_icache.specs.Decoded.{IsDecoded, AreDecoded}

none_is_some : {X : Type 0} {x : X} → None ≡ Some x → ⊥
none_is_some e = cc

-- no line is held at first
pub no_line : (place : ℕ) (line : Line) → place < 1024 → slice_index_or (replicate 128 None) (place / 8) None ≡ Some line → ⊥
no_line place line inside is = none_is_some (sym (get_or-replicate 128 (place / 8) None None (omega arith)) ∙ is)

-- one instruction more beside the words of a line
pub decoded-more : (insns : List (Option Insn)) (bytes : List ℕ) (index k : ℕ) (insn : Option Insn) → index * 8 + k < length insns → IsDecoded bytes (k * 4) insn
    → ((j : ℕ) → j < k → IsDecoded bytes (j * 4) (slice_index_or insns (index * 8 + j) None))
    → (j : ℕ) → j < k + 1 → IsDecoded bytes (j * 4) (slice_index_or (slice_set insns (index * 8 + k) insn) (index * 8 + j) None)
decoded-more insns bytes index k insn within this before j below = by_place (j == k) refl
  where
    by_place : (here : Bool) → (j == k) ≡ here → IsDecoded bytes (j * 4) (slice_index_or (slice_set insns (index * 8 + k) insn) (index * 8 + j) None)
    by_place true test =
        let same : j ≡ k = grind (arith, nat_tests) in
        let read : slice_index_or (slice_set insns (index * 8 + k) insn) (index * 8 + j) None ≡ insn =
        ap (λ n. slice_index_or (slice_set insns (index * 8 + k) insn) (index * 8 + n) None) same ∙ get_or-set_same insns (index * 8 + k) insn None within in
        rw (read, same) this
    by_place false test =
        let other : j ≢ k = grind (arith, nat_tests) in
        let read : slice_index_or (slice_set insns (index * 8 + k) insn) (index * 8 + j) None ≡ slice_index_or insns (index * 8 + j) None =
        get_or-set_other insns (index * 8 + k) (index * 8 + j) insn None (omega arith) in
        rw read (before j (omega arith))

-- a line less
pub decoded-dropped : (lines : List (Option Line)) (insns : List (Option Insn)) (index : ℕ) → index < length lines → AreDecoded lines insns → AreDecoded (slice_set lines index None) insns
decoded-dropped lines insns index within decoded place line inside is = by_place (place / 8 == index) refl
  where
    by_place : (here : Bool) → (place / 8 == index) ≡ here → IsDecoded line.bytes (place % 8 * 4) (slice_index_or insns place None)
    by_place true test =
        let same : place / 8 ≡ index = grind (arith, nat_tests) in
        absurd (none_is_some (sym (ap (λ j. slice_index_or (slice_set lines index None) j None) same ∙ get_or-set_same lines index None None within) ∙ is))
    by_place false test =
        let other : place / 8 ≢ index = grind (arith, nat_tests) in
        decoded place line inside (sym (get_or-set_other lines index (place / 8) None None other) ∙ is)

-- a line more, with its instructions
pub decoded-filled : (lines : List (Option Line)) (old new : List (Option Insn)) (index : ℕ) (line : Line) → index < length lines → AreDecoded lines old
    → ((k : ℕ) → k < 8 → IsDecoded line.bytes (k * 4) (slice_index_or new (index * 8 + k) None))
    → ((place : ℕ) → place / 8 ≢ index → slice_index_or new place None ≡ slice_index_or old place None)
    → AreDecoded (slice_set lines index (Some line)) new
decoded-filled lines old new index line within decoded beside elsewhere place there inside is = by_place (place / 8 == index) refl
  where
    same_line : {x y : Line} → Some x ≡ Some y → x ≡ y
    same_line e = cc

    by_place : (here : Bool) → (place / 8 == index) ≡ here → IsDecoded there.bytes (place % 8 * 4) (slice_index_or new place None)
    by_place true test =
        let same : place / 8 ≡ index = grind (arith, nat_tests) in
        let at : index * 8 + place % 8 ≡ place = omega arith in
        let that : line ≡ there = same_line (sym (ap (λ j. slice_index_or (slice_set lines index (Some line)) j None) same ∙ get_or-set_same lines index (Some line) None within) ∙ is) in
        subst (λ l. IsDecoded l.bytes (place % 8 * 4) (slice_index_or new place None)) that
        (subst (λ p. IsDecoded line.bytes (place % 8 * 4) (slice_index_or new p None)) at (beside (place % 8) (omega arith)))
    by_place false test =
        let other : place / 8 ≢ index = grind (arith, nat_tests) in
        let before : IsDecoded there.bytes (place % 8 * 4) (slice_index_or old place None) =
        decoded place there inside (sym (get_or-set_other lines index (place / 8) (Some line) None other) ∙ is) in
        subst (λ i. IsDecoded there.bytes (place % 8 * 4) i) (sym (elsewhere place other)) before

-- what stands beside a word of a held line
pub decoded-held : (lines : List (Option Line)) (insns : List (Option Insn)) (pa : ℕ) (line : Line) → AreDecoded lines insns → pa % 4 ≡ 0
    → line_at_index lines (index_of pa) ≡ Some line → IsDecoded line.bytes (pa % 32) (slice_index_or insns (pa / 4 % 1024) None)
decoded-held lines insns pa line decoded aligned is =
    let index : pa / 4 % 1024 / 8 ≡ index_of pa = omega arith in
    let place : pa / 4 % 1024 % 8 * 4 ≡ pa % 32 = omega arith in
    subst (λ at. IsDecoded line.bytes at (slice_index_or insns (pa / 4 % 1024) None)) place
    (decoded (pa / 4 % 1024) line (omega arith) (ap (line_at_index lines) index ∙ is))
