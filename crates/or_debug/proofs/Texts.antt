-- Texts that grow by a part.
use Rattle.std.proofs.Common.{◌≡◌, ◌∙◌, refl, sym, ap, ℕ, zero, suc, ◌+◌, ◌-◌, ◌≤◌, ◌<◌, inl, inr, List, [], ◌∷◌, ◌++◌, drop, Some, None, length, length-append, append_assoc, add-one, arith}
use Rattle.std.proofs.lemmas.Bool.{cases_lt}
use Rattle.std.specs.Prelude.{slice_get}
use Rattle.or_bus.specs.Answers.{word_shown}
use Rattle.or_parts.specs.Bits.{plus}
use Rattle.or_model.specs.World.{Access}
use Rattle.or_debug.specs.declared.turns.MadeTurn.{MadeTurn}
use Rattle.or_debug.specs.BoardText.{memory_text, word_line, index_lines, index_line, held_at, made_line, made_text}

-- one word more
pub memory_more : (ram : List ℕ) (place left : ℕ) → 0 < left → memory_text ram place left ≡ word_line place (word_shown ram place) ++ memory_text ram (plus place 4) (left - 1)
memory_more ram place zero some = absurd (omega arith)
memory_more ram place (suc left) some =
    let e : suc left - 1 ≡ left = omega arith in
    ap (λ n. word_line place (word_shown ram place) ++ memory_text ram (plus place 4) n) (sym e)

pub word_more : (ram : List ℕ) (place next left : ℕ) (old new whole : List ℕ) → 0 < left → old ++ memory_text ram place left ≡ whole → new ≡ old ++ word_line place (word_shown ram place)
    → next ≡ plus place 4 → new ++ memory_text ram next (left - 1) ≡ whole
word_more ram place next left old new whole some before added moved =
    ap (λ l. l ++ memory_text ram next (left - 1)) added ∙ ap (λ p. (old ++ word_line place (word_shown ram place)) ++ memory_text ram p (left - 1)) moved
    ∙ append_assoc old (word_line place (word_shown ram place)) (memory_text ram (plus place 4) (left - 1)) ∙ ap (λ l. old ++ l) (sym (memory_more ram place left some)) ∙ before

-- the next word ends within the text
pub word_fits : (ram : List ℕ) (place left : ℕ) (old whole : List ℕ) → 0 < left → old ++ memory_text ram place left ≡ whole
    → length old + length (word_line place (word_shown ram place)) ≤ length whole
word_fits ram place left old whole some text =
    let line = word_line place (word_shown ram place) in
    let later = memory_text ram (plus place 4) (left - 1) in
    let long = ap length text in
    let parts = length-append old (memory_text ram place left) in
    let more = ap length (memory_more ram place left some) in
    let first = length-append line later in
    omega (arith, long, parts, more, first)

pub indexes_none : (accesses : List Access) (c : ℕ) → index_lines accesses c 0 ≡ []
unfolding index_lines
indexes_none accesses c = refl

-- one index more
pub index_more : (accesses : List Access) (c n : ℕ) → index_lines accesses c (n + 1) ≡ index_lines accesses c n ++ index_line n (held_at accesses c n)
unfolding index_lines
index_more accesses c n = ap (index_lines accesses c) (add-one n)

-- the line of an index ends within those of more indexes
pub index_fits : (accesses : List Access) (c n many : ℕ) → n < many → length (index_lines accesses c n) + length (index_line n (held_at accesses c n)) ≤ length (index_lines accesses c many)
unfolding index_lines
index_fits accesses c n zero inside = absurd (omega arith)
index_fits accesses c n (suc many) inside =
    let parts : length (index_lines accesses c (suc many)) ≡ length (index_lines accesses c many) + length (index_line many (held_at accesses c many)) =
    length-append (index_lines accesses c many) (index_line many (held_at accesses c many)) in
    elim (cases_lt n many) [
      | inl below ↦ omega (arith, parts, index_fits accesses c n many below)
      | inr last ↦
          let same : n ≡ many = omega arith in
          let here = ap (λ k. length (index_lines accesses c k) + length (index_line k (held_at accesses c k))) same in
          omega (arith, parts, here)
    ]

pub index_added : (accesses : List Access) (c n : ℕ) (start old new : List ℕ) → old ≡ start ++ index_lines accesses c n → new ≡ old ++ index_line n (held_at accesses c n)
    → new ≡ start ++ index_lines accesses c (n + 1)
index_added accesses c n start old new before added =
    added ∙ ap (λ l. l ++ index_line n (held_at accesses c n)) before ∙ append_assoc start (index_lines accesses c n) (index_line n (held_at accesses c n))
    ∙ ap (λ l. start ++ l) (sym (index_more accesses c n))

-- the item at a place, and those behind it
got_suc : (xs : List MadeTurn) (i : ℕ) (x : MadeTurn) → slice_get xs i ≡ Some x → drop i xs ≡ x ∷ drop (suc i) xs
got_suc [] i x at = absurd (let b : ⊥ = cc in b)
got_suc (y ∷ xs) zero x at = let same : y ≡ x = cc in ap (λ z. z ∷ xs) same
got_suc (y ∷ xs) (suc i) x at = got_suc xs i x at

drop_got : (xs : List MadeTurn) (i : ℕ) (x : MadeTurn) → slice_get xs i ≡ Some x → drop i xs ≡ x ∷ drop (i + 1) xs
drop_got xs i x at = got_suc xs i x at ∙ ap (λ n. x ∷ drop n xs) (sym (add-one i))

none_suc : (xs : List MadeTurn) (i : ℕ) → slice_get xs i ≡ None → drop (suc i) xs ≡ drop i xs
none_suc [] zero at = refl
none_suc [] (suc i) at = refl
none_suc (y ∷ xs) zero at = absurd (let b : ⊥ = cc in b)
none_suc (y ∷ xs) (suc i) at = none_suc xs i at

drop_none : (xs : List MadeTurn) (i : ℕ) → slice_get xs i ≡ None → drop (i + 1) xs ≡ drop i xs
drop_none xs i at = ap (λ n. drop n xs) (add-one i) ∙ none_suc xs i at

pub made_none : (xs : List MadeTurn) (i : ℕ) (text : List ℕ) → slice_get xs i ≡ None → text ++ made_text (drop (i + 1) xs) ≡ text ++ made_text (drop i xs)
made_none xs i text at = ap (λ l. text ++ made_text l) (drop_none xs i at)

pub made_more : (xs : List MadeTurn) (i : ℕ) (x : MadeTurn) (old new : List ℕ) → slice_get xs i ≡ Some x → new ≡ old ++ made_line x
    → new ++ made_text (drop (i + 1) xs) ≡ old ++ made_text (drop i xs)
made_more xs i x old new at added =
    ap (λ l. l ++ made_text (drop (i + 1) xs)) added ∙ append_assoc old (made_line x) (made_text (drop (i + 1) xs)) ∙ ap (λ l. old ++ made_text l) (sym (drop_got xs i x at))

-- the line of the turn at a place ends within those from there on
pub made_fits : (xs : List MadeTurn) (i : ℕ) (x : MadeTurn) → slice_get xs i ≡ Some x → length (made_line x) ≤ length (made_text (drop i xs))
made_fits xs i x at =
    let parts : length (made_text (drop i xs)) ≡ length (made_line x ++ made_text (drop (i + 1) xs)) = ap (λ l. length (made_text l)) (drop_got xs i x at) in
    omega (arith, parts, length-append (made_line x) (made_text (drop (i + 1) xs)))

pub ruleset texts = (index_added, made_more, made_none, made_fits)
