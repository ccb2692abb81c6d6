-- The numbers of labels.
use Rattle.std.proofs.Common.{◌≡◌, ◌∙◌, refl, sym, ap, ℕ, zero, suc, ◌+◌, ◌<◌, Bool, true, false, cond, ltb, List, [], ◌∷◌, ◌++◌, length, take, map, get_or, Bor, Option, Some, None, option_map, bytes_eq, arith}
use Rattle.std.specs.Prelude.{is_some, nat_lt}
use Rattle.std.proofs.lemmas.Bool.Decides.{nat_tests}
use Rattle.std.specs.HashMap.{UpdatesBy}
use Rattle.std.specs.Cmp.Lexicographic.{bytes_decides}
use Rattle.std.proofs.lemmas.List.{length-map}
use Rattle.std.proofs.lemmas.Map.Text.{hash_map_updates_str}
use Rattle.or_asm_read.specs.Labels.{Labels, place_of, first_number_of, number_in, Index, HasFurther, or_else}

-- labels as the code holds them
abbrev pub pair_of : Bor (List ℕ) × ℕ → List ℕ × ℕ
pair_of label = (label.0.now, label.1)

at_step : (l : Bor (List ℕ) × ℕ) (ls : List (Bor (List ℕ) × ℕ)) (d : Bor (List ℕ) × ℕ) (t : Bool) (r rest : Option ℕ) (n : ℕ) → ((m : ℕ) → r ≡ Some m → rest ≡ Some (get_or ls m d).1)
    → cond t (Some 0) (option_map (λ n. n + 1) r) ≡ Some n → cond t (Some l.1) rest ≡ Some (get_or (l ∷ ls) n d).1
at_step l ls d true r rest n h e = let z : 0 ≡ n = cc in ap (λ m. Some (get_or (l ∷ ls) m d).1) z
at_step l ls d false None rest n h e = absurd cc
at_step l ls d false (Some m) rest n h e = let z : m + 1 ≡ n = cc in let s : suc m ≡ n = omega arith in h m refl ∙ ap (λ m. Some (get_or (l ∷ ls) m d).1) s

pub place_at_number : (ls : List (Bor (List ℕ) × ℕ)) (name : List ℕ) (n : ℕ) (d : Bor (List ℕ) × ℕ) → first_number_of (map pair_of ls) name ≡ Some n → place_of (map pair_of ls) name ≡ Some (get_or ls n d).1
place_at_number [] name n d e = absurd cc
place_at_number (l ∷ ls) name n d e = at_step l ls d (bytes_eq l.0.now name) (first_number_of (map pair_of ls) name) (place_of (map pair_of ls) name) n (λ m. place_at_number ls name m d) e

none_step : (p : ℕ) (t : Bool) (r rest : Option ℕ) → (r ≡ None → rest ≡ None) → cond t (Some 0) (option_map (λ n. n + 1) r) ≡ None → cond t (Some p) rest ≡ None
none_step p true r rest h e = absurd cc
none_step p false None rest h e = h refl
none_step p false (Some n) rest h e = absurd cc

pub no_place : (ls : Labels) (name : List ℕ) → first_number_of ls name ≡ None → place_of ls name ≡ None
no_place [] name e = refl
no_place (l ∷ ls) name e = none_step l.1 (bytes_eq l.0 name) (first_number_of ls name) (place_of ls name) (no_place ls name) e

below_step : (ls : Labels) (t : Bool) (r : Option ℕ) (n : ℕ) → ((m : ℕ) → r ≡ Some m → m < length ls) → cond t (Some 0) (option_map (λ n. n + 1) r) ≡ Some n → n < suc (length ls)
below_step ls true r n h e = let z : 0 ≡ n = cc in omega arith
below_step ls false None n h e = absurd cc
below_step ls false (Some m) n h e = let z : m + 1 ≡ n = cc in omega (arith, h m refl)

number_below : (ls : Labels) (name : List ℕ) (n : ℕ) → first_number_of ls name ≡ Some n → n < length ls
number_below [] name n e = absurd cc
number_below (l ∷ ls) name n e = below_step ls (bytes_eq l.0 name) (first_number_of ls name) n (number_below ls name) e

pub number_within : (ls : List (Bor (List ℕ) × ℕ)) (name : List ℕ) (n : ℕ) → first_number_of (map pair_of ls) name ≡ Some n → n < length ls
number_within ls name n e = omega (arith, number_below (map pair_of ls) name n e, length-map ls pair_of)

-- whether a number is below a bound
abbrev pub is_below : ℕ → Option ℕ → Bool
is_below c None = false
is_below c (Some n) = nat_lt n c

among_step : (c p : ℕ) (t : Bool) (r rest : Option ℕ) → is_some rest ≡ is_below c r → is_some (cond t (Some p) rest) ≡ is_below (suc c) (cond t (Some 0) (option_map (λ n. n + 1) r))
among_step c p true r rest h = grind (arith, nat_tests)
among_step c p false None rest h = h
among_step c p false (Some n) rest h = let e : ltb n c ≡ ltb (n + 1) (suc c) = grind (arith, nat_tests) in h ∙ e

none_below : (r : Option ℕ) → false ≡ is_below 0 r
none_below None = refl
none_below (Some n) = grind (arith, nat_tests)

pub among_first : (c : ℕ) (ls : Labels) (name : List ℕ) → is_some (place_of (take c ls) name) ≡ is_below c (first_number_of ls name)
among_first zero ls name = none_below (first_number_of ls name)
among_first (suc c) [] name = refl
among_first (suc c) (l ∷ ls) name = among_step c l.1 (bytes_eq l.0 name) (first_number_of ls name) (place_of (take c ls) name) (among_first c ls name)

-- a label behind the others
more_step : (t : Bool) (r s : Option ℕ) (c : Bool) (k : ℕ) → s ≡ or_else r (cond c (Some k) None) → cond t (Some 0) (option_map (λ n. n + 1) s) ≡ or_else (cond t (Some 0) (option_map (λ n. n + 1) r)) (cond c (Some (suc k)) None)
more_step true r s c k h = refl
more_step false (Some n) s c k h = ap (option_map (λ n. n + 1)) h
more_step false None s true k h = let e : k + 1 ≡ suc k = omega arith in ap (option_map (λ n. n + 1)) h ∙ ap (λ n. Some n) e
more_step false None s false k h = ap (option_map (λ n. n + 1)) h

pub number_append : (ls : Labels) (l : List ℕ × ℕ) (name : List ℕ) → first_number_of (ls ++ l ∷ []) name ≡ or_else (first_number_of ls name) (cond (bytes_eq l.0 name) (Some (length ls)) None)
number_append [] l name = refl
number_append (x ∷ xs) l name = more_step (bytes_eq x.0 name) (first_number_of xs name) (first_number_of (xs ++ l ∷ []) name) (bytes_eq l.0 name) (length xs) (number_append xs l name)

-- a name that is known stays as it is
keeps : (r : Option ℕ) (t : Bool) (n : ℕ) → (t ≡ true → is_some r ≡ true) → r ≡ or_else r (cond t (Some n) None)
keeps (Some m) t n h = refl
keeps None true n h = let e : false ≡ true = h refl in absurd cc
keeps None false n h = refl

pub known_further : (index : Index) (name : List ℕ) (n : ℕ) → is_some (number_in index name) ≡ true → HasFurther index index name n
known_further index name n known other = keeps (number_in index other) (bytes_eq name other) n (λ t. let same : name ≡ other = (bytes_decides name other).0 t in ap (λ m. is_some (number_in index m)) (sym same) ∙ known)

puts : (r s : Option ℕ) (t : Bool) (n : ℕ) → (t ≡ true → is_some r ≡ false) → s ≡ cond t (Some n) r → s ≡ or_else r (cond t (Some n) None)
puts None s true n h e = e
puts (Some m) s true n h e = let z : true ≡ false = h refl in absurd cc
puts None s false n h e = e
puts (Some m) s false n h e = e

pub new_further : (old new : Index) (name : List ℕ) (n : ℕ) → is_some (number_in old name) ≡ false → UpdatesBy (λ x y. bytes_eq x.now y.now) (λ k. bytes_eq name k.now) old new (Some n) → HasFurther old new name n
new_further old new name n unknown updates other =
    puts (number_in old other) (number_in new other) (bytes_eq name other) n
    (λ t. let same : name ≡ other = (bytes_decides name other).0 t in ap (λ m. is_some (number_in old m)) (sym same) ∙ unknown)
    (hash_map_updates_str name old new (Some n) updates other)

pub ruleset numbers = (place_at_number, no_place, number_within, among_first, known_further, new_further)
