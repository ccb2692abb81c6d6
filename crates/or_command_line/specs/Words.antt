-- Words of a command line as texts, and which of them are names of files.
use Rattle.std.specs.Prelude.{ℕ, List, [], ◌∷◌, Bool, false, not, ◌==◌, ◌&&◌, ◌||◌, ◌≤◌, ◌≡◌, ◌≢◌, nat_le, length, map, codes, String, string_bytes}
use Rattle.std.specs.declared.alloc.Global.{Global}
use Rattle.std.specs.Str.{bytes_eq}
use Rattle.or_words.specs.declared.limits.TheConstants.{NAME_LIMIT}

-- the words as texts
abbrev pub texts : List (String Global) → List (List ℕ)
texts words = map string_bytes words

-- a name is not empty, does not begin with `-`, and has at most 4095 bytes
abbrev pub is_name : List ℕ → Bool
is_name [] = false
is_name (first ∷ others) = not (first == 45) && nat_le (length (first ∷ others)) NAME_LIMIT

-- `-` alone stands for no file
abbrev pub is_no_file : List ℕ → Bool
is_no_file name = bytes_eq name (codes "-")

-- a name, or `-`
abbrev pub is_optional : List ℕ → Bool
is_optional name = is_no_file name || is_name name

-- two names differ as texts; `-` is no name, and equals none
abbrev pub differ : List ℕ → List ℕ → Bool
differ one other = is_no_file one || not (bytes_eq one other)

-- what a name is to a host
pub record IsFileName (name : List ℕ) : Type 0 where
  pub short : length name ≤ NAME_LIMIT
  pub no_dash : name ≢ codes "-"

-- where it is not `-`
abbrev pub IsOptionalName : List ℕ → Type 0
IsOptionalName name = is_no_file name ≡ false → IsFileName name

-- two names, of which the first may be `-`
abbrev pub AreDifferent : List ℕ → List ℕ → Type 0
AreDifferent one other = is_no_file one ≡ false → one ≢ other
