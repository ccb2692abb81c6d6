-- A text that is cut at the first byte of a kind.
use Rattle.std.proofs.Common.{◌≡◌, ◌∙◌, refl, sym, ap, ℕ, ◌+◌, ◌<◌, ◌≤◌, Bool, true, false, cond, ltb, List, [], ◌∷◌, length, take, drop, Some, None, Err, arith}
use Rattle.std.specs.Prelude.{not, ◌==◌}
use Rattle.std.specs.List.{position, position_or_len, slice_split, onto_first}
use Rattle.std.proofs.lemmas.List.Sums.{prefix_len-le-length, fails_before_first}
use Rattle.std.proofs.lemmas.List.Splits.{slice_split_first, slice_split_none}
use Rattle.std.proofs.lemmas.Bool.Decides.{nat_tests}
use Rattle.or_words.specs.declared.Config.{Config}
use Rattle.or_script.specs.declared.command.LineFault.TheVariants.{BadCommand}
use Rattle.or_script.specs.Command.{form_of, words_of}

within : (p : ℕ → Bool) (xs : List ℕ) → position_or_len p xs ≤ length xs
within p xs = prefix_len-le-length (λ x. not (p x)) xs

at_some : (t : Bool) (n i : ℕ) → cond t (Some n) None ≡ Some i → i ≡ n
at_some true n i e = cc
at_some false n i e = cc

at_none : (n m : ℕ) → n ≤ m → cond (ltb n m) (Some n) None ≡ None → m ≡ n
at_none n m within e = grind (arith, nat_tests)

-- at the first such byte
pub cut_some : (p : ℕ → Bool) (xs : List ℕ) (i : ℕ) → position p xs ≡ Some i → i < length xs
    → slice_split p xs ≡ take i xs ∷ slice_split p (drop (i + 1) xs)
cut_some p xs i e inside =
    let is : i ≡ position_or_len p xs = at_some (ltb (position_or_len p xs) (length xs)) (position_or_len p xs) i e in
    let less : position_or_len p xs < length xs = omega (arith, is, inside) in
    slice_split_first p xs 0 less ∙ ap (λ n. take n xs ∷ slice_split p (drop (n + 1) xs)) (sym is)

-- where there is none
pub cut_none : (p : ℕ → Bool) (xs : List ℕ) → position p xs ≡ None → slice_split p xs ≡ xs ∷ []
cut_none p xs e =
    let all : length xs ≡ position_or_len p xs = at_none (position_or_len p xs) (length xs) (within p xs) e in
    slice_split_none p xs (λ k d lt. fails_before_first p xs k d (omega (arith, all, lt)))

pub ruleset cuts = (cut_some, cut_none)

put_first : (config : Config) (name first second : List ℕ) (x : ℕ) (parts : List (List ℕ)) → form_of config (name ∷ first ∷ second ∷ onto_first x parts) ≡ Err BadCommand
put_first config name first second x [] = refl
put_first config name first second x (part ∷ parts) = refl

by_byte : (config : Config) (name first second : List ℕ) (t : Bool) (x : ℕ) (parts : List (List ℕ)) → form_of config (name ∷ first ∷ second ∷ cond t ([] ∷ parts) (onto_first x parts)) ≡ Err BadCommand
by_byte config name first second true x parts = refl
by_byte config name first second false x parts = put_first config name first second x parts

-- no form has four words
pub four_words : (config : Config) (name first second : List ℕ) (text : List ℕ) → form_of config (name ∷ first ∷ second ∷ words_of text) ≡ Err BadCommand
four_words config name first second [] = refl
four_words config name first second (x ∷ xs) = by_byte config name first second (x == 32) x (slice_split (λ b. b == 32) xs)
