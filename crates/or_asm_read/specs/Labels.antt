-- The labels of a source.
use Rattle.std.specs.Prelude.{◌≡◌, ℕ, if◌then◌else◌, List, [], ◌∷◌, Option, Some, None, ◌+◌, option_map, bytes_eq}
use Rattle.std.specs.Borrow.{Bor}
use Rattle.std.specs.HashMap.{HashMap, get_by}
use Rattle.std.specs.declared.hash.FoldHasher.{FoldHasher}
use Rattle.std.specs.declared.hash.BuildHasherDefault.{BuildHasherDefault}

-- labels with their places, in the order of their lines
abbrev pub Labels : Type 0
Labels = List (List ℕ × ℕ)

-- the place of the first label of a name
abbrev pub place_of : Labels → List ℕ → Option ℕ
place_of [] name = None
place_of (label ∷ labels) name = if bytes_eq label.0 name then Some label.1 else place_of labels name

-- the number of the first label of a name, from 0
abbrev pub first_number_of : Labels → List ℕ → Option ℕ
first_number_of [] name = None
first_number_of (label ∷ labels) name = if bytes_eq label.0 name then Some 0 else option_map (λ n. n + 1) (first_number_of labels name)

-- an index of labels, by name
abbrev pub Index : Type 0
Index = HashMap (Bor (List ℕ)) ℕ (BuildHasherDefault FoldHasher)

-- the number at a name
abbrev pub number_in : Index → List ℕ → Option ℕ
number_in index name = get_by (λ k. bytes_eq name k.now) index

-- an index that has the number of the first label of each name
abbrev pub IsIndex : Index → Labels → Type 0
IsIndex index labels = (name : List ℕ) → number_in index name ≡ first_number_of labels name

-- the first of two numbers that there is
abbrev pub or_else : Option ℕ → Option ℕ → Option ℕ
or_else None d = d
or_else (Some n) d = Some n

-- an index with the number of a further label, where its name is new
abbrev pub HasFurther : Index → Index → List ℕ → ℕ → Type 0
HasFurther old new name n = (other : List ℕ) → number_in new other ≡ or_else (number_in old other) (if bytes_eq name other then Some n else None)
