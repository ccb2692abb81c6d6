-- Places in a text, and the blanks at its end.
use Rattle.std.proofs.Common.{◌≡◌, ◌∙◌, refl, sym, ap, ℕ, ◌+◌, ◌≤◌, Bool, true, false, cond, ltb, List, [], ◌∷◌, ◌++◌, length, drop, Some, None, arith}
use Rattle.std.specs.List.{position, position_or_len}
use Rattle.std.proofs.lemmas.List.{drop_all}
use Rattle.std.proofs.lemmas.List.Sums.{prefix_len-le-length}
use Rattle.std.proofs.lemmas.Bool.Decides.{nat_tests}
use Rattle.std.specs.Prelude.{not}
use Rattle.or_asm_read.specs.Cuts.{is_blank, onto, trimmed_end}

pub place_within : {X : Type 0} (p : X → Bool) (xs : List X) → position_or_len p xs ≤ length xs
place_within p xs = prefix_len-le-length (λ x. not (p x)) xs

at_some : (t : Bool) (n i : ℕ) → cond t (Some n) None ≡ Some i → i ≡ n
at_some true n i e = cc
at_some false n i e = cc

at_none : (n m : ℕ) → n ≤ m → cond (ltb n m) (Some n) None ≡ None → m ≡ n
at_none n m within e = grind (arith, nat_tests)

pub some_place : {X : Type 0} (p : X → Bool) (xs : List X) (i : ℕ) → position p xs ≡ Some i → i ≡ position_or_len p xs
some_place p xs i e = at_some (ltb (position_or_len p xs) (length xs)) (position_or_len p xs) i e

pub none_place : {X : Type 0} (p : X → Bool) (xs : List X) → position p xs ≡ None → length xs ≡ position_or_len p xs
none_place p xs e = at_none (position_or_len p xs) (length xs) (place_within p xs) e

pub drop_past : {X : Type 0} (xs : List X) (i : ℕ) → length xs ≤ i → drop i xs ≡ drop (i + 1) xs
drop_past xs i past = drop_all i xs past ∙ sym (drop_all (i + 1) xs (omega arith))

pub ruleset places = (place_within, some_place, none_place, drop_past)

pub ended_blank : (xs : List ℕ) (b : ℕ) → is_blank b ≡ true → trimmed_end (xs ++ b ∷ []) ≡ trimmed_end xs
ended_blank [] b blank = ap (λ t. cond t [] (b ∷ [])) blank
ended_blank (x ∷ xs) b blank = ap (onto x) (ended_blank xs b blank)

onto_more : (x : ℕ) (xs : List ℕ) (b : ℕ) → onto x (xs ++ b ∷ []) ≡ x ∷ (xs ++ b ∷ [])
onto_more x [] b = refl
onto_more x (y ∷ ys) b = refl

pub ended_other : (xs : List ℕ) (b : ℕ) → is_blank b ≡ false → trimmed_end (xs ++ b ∷ []) ≡ xs ++ b ∷ []
ended_other [] b other = ap (λ t. cond t [] (b ∷ [])) other
ended_other (x ∷ xs) b other = ap (onto x) (ended_other xs b other) ∙ onto_more x xs b

pub ruleset ends = (ended_blank, ended_other)
