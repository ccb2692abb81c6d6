-- Files by name, after a name is taken out.
use Rattle.std.proofs.Common.{◌≡◌, ◌≢◌, ℕ, List, true, false, None, ap, arith, not}
use Rattle.std.specs.Prelude.{Bool, Vec, String, string_bytes}
use Rattle.std.specs.declared.alloc.Global.{Global}
use Rattle.std.specs.Option.{option_map}
use Rattle.std.specs.List.{filter}
use Rattle.std.specs.Str.{bytes_eq}
use Rattle.std.proofs.lemmas.Map.Entries.{lookup-filter-keys}
use Rattle.std.proofs.lemmas.Slice.Eq.{bytes_eq-Decides}
use Rattle.or_host.specs.Given.{given}

-- the name is not this one
abbrev pub is_other : List ℕ → String Global → Bool
is_other name key = not (bytes_eq (string_bytes key) name)

pub given_none : (files : List (String Global × Vec ℕ Global)) (name : List ℕ) → given (filter (λ file. is_other name file.0) files) name ≡ None
given_none files name =
    ap (λ found. option_map (λ bytes. bytes.items) found)
    (lookup-filter-keys (λ key. bytes_eq (string_bytes key) name) (is_other name) false (λ key e. ap not e) files)

pub given_other : (files : List (String Global × Vec ℕ Global)) (name other : List ℕ) → other ≢ name → given (filter (λ file. is_other name file.0) files) other ≡ given files other
given_other files name other ne =
    ap (λ found. option_map (λ bytes. bytes.items) found)
    (lookup-filter-keys (λ key. bytes_eq (string_bytes key) other) (is_other name) true (λ key e. grind (arith, bytes_eq-Decides (string_bytes key) other, bytes_eq-Decides (string_bytes key) name)) files)
