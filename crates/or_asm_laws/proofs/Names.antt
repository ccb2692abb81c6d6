-- What the names of the instructions are made of.
use Rattle.std.proofs.Common.{◌≡◌, ◌∙◌, refl, sym, ap, ℕ, Bool, true, false, cond, ◌&&◌, List, [], ◌∷◌, drop, codes, Some, None, inl, inr}
use Rattle.std.specs.Prelude.{not, ◌==◌, ◌⊎◌, bit_and}
use Rattle.std.specs.List.{list_all}
use Rattle.std.specs.Str.{bytes_eq}
use Rattle.std.proofs.lemmas.Bool.{eqb-true, false≢true}
use Rattle.or_isa.specs.declared.Insn.{Insn}
use Rattle.or_isa.specs.Word.{word_of}
use Rattle.or_asm_text.specs.Parts.{bare}
use Rattle.or_asm_text.specs.Names.{rows, name_in, name_of, insn_named}
use Rattle.or_asm_text.proofs.Named.{each_named}
use Rattle.or_asm_laws.proofs.Spelled.{and_true, not_true, is_mark}

-- what a name is made of
pub record Spelling (name : List ℕ) : Type 0 where
  pub marks : list_all is_mark name ≡ true
  pub first : name ≡ 108 ∷ drop 1 name
  pub not_org : bytes_eq name (codes ".org") ≡ false
  pub not_word : bytes_eq name (codes ".word") ≡ false

abbrev begins : List ℕ → Bool
begins [] = false
begins (x ∷ xs) = x == 108

abbrev is_spelled : List ℕ → Bool
is_spelled name = list_all is_mark name && (begins name && (not (bytes_eq name (codes ".org")) && not (bytes_eq name (codes ".word"))))

begun : (name : List ℕ) → begins name ≡ true → name ≡ 108 ∷ drop 1 name
begun [] e = absurd (false≢true e)
begun (x ∷ xs) e = ap (λ b. b ∷ xs) (eqb-true x 108 e)

spelled : (name : List ℕ) → is_spelled name ≡ true → Spelling name
spelled name e =
    let marks = and_true _ _ e in
    let first = and_true _ _ marks.1 in
    let others = and_true _ _ first.1 in
    record { marks = marks.0; first = begun name first.0; not_org = not_true _ others.0; not_word = not_true _ others.1 }

-- each name of the table is spelled so
all_spelled : list_all (λ (row : ℕ × ℕ × List ℕ). is_spelled row.2) rows ≡ true
unfolding rows
all_spelled = refl

spelled_in : (rs : List (ℕ × ℕ × List ℕ)) (w : ℕ) → list_all (λ (row : ℕ × ℕ × List ℕ). is_spelled row.2) rs ≡ true → (name_in rs w ≡ []) ⊎ (is_spelled (name_in rs w) ≡ true)
spelled_in [] w e = inl refl
spelled_in ((mask, value, name) ∷ rs) w e =
    let parts = and_true _ _ e in
    elim (bit_and w mask == value) as (λ b. (cond b name (name_in rs w) ≡ []) ⊎ (is_spelled (cond b name (name_in rs w)) ≡ true))
    [ true ↦ inr parts.0 | false ↦ spelled_in rs w parts.1 ]

-- no instruction is without a name
no_name : insn_named [] ≡ None
unfolding insn_named rows
no_name = refl

none_some : (i : Insn) → None ≡ Some i → ⊥
none_some i e = cc

named : (i : Insn) → name_of i ≡ [] → ⊥
named i e = none_some (bare i) (sym no_name ∙ ap insn_named (sym e) ∙ each_named i)

pub spelling : (i : Insn) → Spelling (name_of i)
unfolding name_of
spelling i = elim (spelled_in rows (word_of (bare i)) all_spelled) [
  | inl none ↦ absurd (named i none)
  | inr ok ↦ spelled (name_in rows (word_of (bare i))) ok
]
