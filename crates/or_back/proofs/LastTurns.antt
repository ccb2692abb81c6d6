-- The last turns, as they are made once more.
use Rattle.std.proofs.Common.{◌≡◌, ◌∙◌, refl, sym, ap, ℕ, zero, suc, ◌+◌, ◌-◌, ◌≤◌, List, [], ◌∷◌, ◌++◌, length, drop, length-append, append-nil, add-one, arith}
use Rattle.std.proofs.lemmas.List.{drop-append-le, drop_all, flat_map_more}
use Rattle.or_model.specs.Turn.{Board}
use Rattle.or_debug.specs.declared.turns.MadeTurn.{MadeTurn}
use Rattle.or_debug.specs.Turns.{turn_made, turns_made, last_of}
use Rattle.or_debug.specs.BoardText.{made_line, made_text}
use Rattle.or_debug.proofs.Following.{turns_longer}

length_made : (start : Board) (turns : List ℕ) (n : ℕ) → length (turns_made start turns n) ≡ n
length_made start turns zero = refl
length_made start turns (suc n) = length-append (turns_made start turns n) (turn_made start turns n ∷ []) ∙ ap (λ m. m + 1) (length_made start turns n) ∙ add-one n

-- none of them so far
pub last_none : (start : Board) (turns : List ℕ) (from place : ℕ) (text : List ℕ) → place ≡ from → text ≡ text ++ made_text (drop from (turns_made start turns place))
last_none start turns from place text here =
    let long = length_made start turns place in
    sym (ap (λ (l : List MadeTurn). text ++ made_text l) (drop_all from (turns_made start turns place) (omega (arith, long, here))) ∙ append-nil text)

-- one more
pub last_more : (start : Board) (turns : List ℕ) (from place : ℕ) (text old new : List ℕ) → from ≤ place → old ≡ text ++ made_text (drop from (turns_made start turns place))
    → new ≡ old ++ made_line (turn_made start turns place) → new ≡ text ++ made_text (drop from (turns_made start turns (place + 1)))
last_more start turns from place text old new within before added =
    let xs = turns_made start turns place in
    let x = turn_made start turns place in
    let long = length_made start turns place in
    added ∙ ap (λ (l : List ℕ). l ++ made_line x) before ∙ flat_map_more made_line text (drop from xs) x
    ∙ ap (λ (l : List MadeTurn). text ++ made_text l) (sym (drop-append-le from xs (x ∷ []) (omega (arith, long, within))) ∙ ap (drop from) (sym (turns_longer start turns place)))

-- all of them
pub last_all : (start : Board) (turns : List ℕ) (at count from place : ℕ) (text new : List ℕ) → from ≡ at - count → place ≡ at
    → new ≡ text ++ made_text (drop from (turns_made start turns place)) → new ≡ text ++ made_text (last_of count (turns_made start turns at))
last_all start turns at count from place text new begins ends is =
    let long = length_made start turns at in
    is ∙ ap (λ (n : ℕ). text ++ made_text (drop from (turns_made start turns n))) ends
    ∙ ap (λ (n : ℕ). text ++ made_text (drop n (turns_made start turns at))) (begins ∙ ap (λ (n : ℕ). n - count) (sym long))
