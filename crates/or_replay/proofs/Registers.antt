-- One register more.
use Rattle.std.proofs.Common.{◌≡◌, ℕ, zero, suc, ◌+◌, ◌<◌, ◌≤◌, List, [], ◌++◌, length, length-append, ap, sym, ◌∙◌, inl, inr, add-one, append_assoc, refl, arith}
use Rattle.std.proofs.lemmas.Bool.{cases_lt}
use Rattle.or_text.specs.Hexadecimal.{word_text}
use Rattle.or_model.specs.Core.{Core, register}
use Rattle.or_replay.specs.Report.{registers_text, behind_register}

pub registers-none : (core : Core) → registers_text core 0 ≡ []
unfolding registers_text
registers-none core = refl

registers-more : (core : Core) (n : ℕ) → registers_text core (n + 1) ≡ registers_text core n ++ word_text (register core n) ++ behind_register n
unfolding registers_text
registers-more core n = ap (registers_text core) (add-one n)

-- a register and what stands behind it, after those before
pub one_register_more : (core : Core) (n word : ℕ) (old start mid new : List ℕ) → start ≡ old ++ registers_text core n → word ≡ register core n
    → mid ≡ start ++ word_text word → new ≡ mid ++ behind_register n → new ≡ old ++ registers_text core (n + 1)
one_register_more core n word old start mid new led is appended last =
    let w = word_text (register core n) in
    let shown : mid ≡ old ++ registers_text core n ++ w = appended ∙ ap (λ k. start ++ word_text k) is ∙ ap (λ l. l ++ w) led in
    last ∙ ap (λ l. l ++ behind_register n) (shown ∙ append_assoc old (registers_text core n) w)
    ∙ append_assoc old (registers_text core n ++ w) (behind_register n) ∙ ap (λ l. old ++ l) (sym (registers-more core n))

-- a register and what stands behind it end within the text of more registers
pub register_fits : (core : Core) (n many : ℕ) → n < many → length (registers_text core n) + length (word_text (register core n)) + length (behind_register n) ≤ length (registers_text core many)
register_fits core n zero inside = absurd (omega arith)
register_fits core n (suc many) inside =
    let word = word_text (register core many) in
    let next = ap (λ k. length (registers_text core k)) (add-one many) in
    let all = ap length (registers-more core many) ∙ length-append (registers_text core many ++ word) (behind_register many) in
    let parts = length-append (registers_text core many) word in
    elim (cases_lt n many) [
      | inl below ↦ omega (arith, next, all, parts, register_fits core n many below)
      | inr last ↦
          let same : n ≡ many = omega arith in
          let here = ap (λ k. length (registers_text core k) + length (word_text (register core k)) + length (behind_register k)) same in
          omega (arith, next, all, parts, here)
    ]

pub ruleset registers = (registers-none)
