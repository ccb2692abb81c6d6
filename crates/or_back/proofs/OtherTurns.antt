-- Lines that go to another turn.
use Rattle.std.proofs.Common.{◌≡◌, refl, ℕ, Bool, true, false, cond, List, [], ◌∷◌, None}
use Rattle.std.specs.Prelude.{◌==◌}
use Rattle.std.specs.List.{slice_split, onto_first}
use Rattle.or_script.specs.Command.{words_of}
use Rattle.or_back.specs.Lines.{move_of}

put_first : (name first : List ℕ) (x : ℕ) (parts : List (List ℕ)) → move_of (name ∷ first ∷ onto_first x parts) ≡ None
put_first name first x [] = refl
put_first name first x (part ∷ parts) = refl

by_byte : (name first : List ℕ) (t : Bool) (x : ℕ) (parts : List (List ℕ)) → move_of (name ∷ first ∷ cond t ([] ∷ parts) (onto_first x parts)) ≡ None
by_byte name first true x parts = refl
by_byte name first false x parts = put_first name first x parts

-- no such line has three words
pub three_words : (name first : List ℕ) (text : List ℕ) → move_of (name ∷ first ∷ words_of text) ≡ None
three_words name first [] = refl
three_words name first (x ∷ xs) = by_byte name first (x == 32) x (slice_split (λ b. b == 32) xs)
