-- Pairs of names that lead to one file, in a list.
use Rattle.std.specs.Prelude.{ℕ, List, [], ◌∷◌, Bool, false, ◌&&◌, ◌||◌, String, string_bytes}
use Rattle.std.specs.declared.alloc.Global.{Global}
use Rattle.std.specs.Str.{bytes_eq}

-- a pair is of these two names
abbrev pub is_link : String Global × String Global → List ℕ → List ℕ → Bool
is_link link one other = bytes_eq (string_bytes link.0) one && bytes_eq (string_bytes link.1) other

-- one of the pairs is of the two names, in either order
abbrev pub are_linked : List (String Global × String Global) → List ℕ → List ℕ → Bool
are_linked [] one other = false
are_linked (link ∷ links) one other = is_link link one other || (is_link link other one || are_linked links one other)
