-- What each access does to the lines that Held names, and to Hits and Misses.
use Rattle.std.proofs.Common.{◌≡◌, ℕ, ◌+◌, ◌%◌, min, Bool, true, false, List, ◌∷◌, Some, None, length, ◌≢◌, refl, ap, sym, ◌∙◌, arith}
use Rattle.std.specs.Prelude.{Option, is_some, slice_index_or, ◌==◌, if◌then◌else◌}
use Rattle.std.proofs.lemmas.Bool.Decides.{nat_tests}
use Rattle.or_words.specs.declared.Width.{Width}
use Rattle.or_words.specs.declared.Width.TheVariants.{Word}
use Rattle.or_parts.specs.declared.Line.{Line}
use Rattle.or_parts.specs.Memory.{value_at}
use Rattle.or_parts.specs.Lines.{index_of, line_of, line_at_index, word_of_line, held_word, line_filled, line_dropped}
use Rattle.or_model.specs.declared.Counts.{Counts}
use Rattle.or_model.specs.World.{Access}
use Rattle.or_model.specs.World.Kind.{Loads, Stores, Drops}
use Rattle.or_model.specs.Caches.{held, hits, misses, is_cached_load}
use Rattle.or_mem.specs.Memory.{last_count}
use Rattle.or_mem.specs.Caches.{line_updated}
use Rattle.or_bus.specs.State.{with_hit, with_miss}
use Rattle.or_bus.specs.Lines.{is_line, holds}
use Rattle.or_bus.specs.Coherence.{IsLineOf, IsCoherent}
use Rattle.or_bus.proofs.Ranges.{word_in_range}
use Rattle.or_bus.proofs.Caches.{index_of_line, holds_one, holds-filled, holds-dropped, holds-updated}

-- a cached load by core c of a line
abbrev pub load_of : ℕ → ℕ → Access
load_of c line = record { core = c; kind = Loads; line = line; cached = true }

-- a store by core d in a line
abbrev pub store_of : ℕ → ℕ → Bool → Access
store_of d line cached = record { core = d; kind = Stores; line = line; cached = cached }

-- a drop by core d
abbrev pub drop_of : ℕ → ℕ → Access
drop_of d line = record { core = d; kind = Drops; line = line; cached = false }

-- core c's cache holds what the accesses say
abbrev pub IsAsTold : List Access → ℕ → List (Option Line) → Type 0
IsAsTold accesses c lines = (line : ℕ) → line % 32 ≡ 0 → holds lines line ≡ held accesses c line

-- another core's load changes nothing
pub told-other_load : (accesses : List Access) (c d at : ℕ) (lines : List (Option Line)) → c ≢ d → IsAsTold accesses c lines → IsAsTold (load_of d at ∷ accesses) c lines
told-other_load accesses c d at lines apart told line base = told line base ∙ grind (arith, nat_tests)

-- a load that hits changes nothing
pub told-hit : (accesses : List Access) (c at : ℕ) (lines : List (Option Line)) → holds lines at ≡ true → IsAsTold accesses c lines → IsAsTold (load_of c at ∷ accesses) c lines
told-hit accesses c at lines hit told line base = grind (arith, nat_tests, told line base, holds_one lines at line)

-- a load that misses fills
pub told-miss : (accesses : List Access) (c pa : ℕ) (bytes : List ℕ) (lines : List (Option Line)) → length lines ≡ 128 → IsAsTold accesses c lines → IsAsTold (load_of c (line_of pa) ∷ accesses) c (line_filled lines pa bytes)
told-miss accesses c pa bytes lines len told line base = holds-filled lines pa line bytes len ∙ grind (arith, nat_tests, told line base, index_of_line pa)

-- a cached store of its own core updates the line where it is
pub told-own_store : (accesses : List Access) (c pa v : ℕ) (width : Width) (lines : List (Option Line)) → length lines ≡ 128 → IsAsTold accesses c lines → IsAsTold (store_of c (line_of pa) true ∷ accesses) c (line_updated lines pa width v)
told-own_store accesses c pa v width lines len told line base = holds-updated lines pa v line width len ∙ told line base ∙ grind (arith, nat_tests)

-- any other store drops it
pub told-other_store : (accesses : List Access) (c d pa : ℕ) (cached : Bool) (lines : List (Option Line)) → length lines ≡ 128 → (cached ≡ true → c ≢ d) → IsAsTold accesses c lines → IsAsTold (store_of d (line_of pa) cached ∷ accesses) c (line_dropped lines pa)
told-other_store accesses c d pa cached lines len other told line base = holds-dropped lines pa line len base ∙ grind (arith, nat_tests, told line base)

-- a core drops its own lines alone
pub told-own_drop : (accesses : List Access) (c pa : ℕ) (lines : List (Option Line)) → length lines ≡ 128 → IsAsTold accesses c lines → IsAsTold (drop_of c (line_of pa) ∷ accesses) c (line_dropped lines pa)
told-own_drop accesses c pa lines len told line base = holds-dropped lines pa line len base ∙ grind (arith, nat_tests, told line base)

pub told-other_drop : (accesses : List Access) (c d at : ℕ) (lines : List (Option Line)) → c ≢ d → IsAsTold accesses c lines → IsAsTold (drop_of d at ∷ accesses) c lines
told-other_drop accesses c d at lines apart told line base = told line base ∙ grind (arith, nat_tests)

-- THE WORD OF A HELD LINE

word_when : (ram : List ℕ) (line : Line) (pa word : ℕ) (here : Bool) → pa % 4 ≡ 0 → IsLineOf ram (index_of pa) line → (line.address == line_of pa) ≡ here → (if here then Some (value_at line.bytes (pa % 32) Word) else None) ≡ Some word → word ≡ value_at ram pa Word
word_when ram line pa word true aligned known test is =
    let here : line.address ≡ line_of pa = grind (arith, nat_tests) in
    let at : line.address + pa % 32 ≡ pa = omega arith in
    let read : value_at line.bytes (pa % 32) Word ≡ word = cc in
    sym read
    ∙ ap (λ bs. value_at bs (pa % 32) Word) known.same
    ∙ word_in_range ram line.address (pa % 32) (omega arith)
    ∙ ap (λ n. value_at ram n Word) at
word_when ram line pa word false aligned known test is = grind arith

word_is : (ram : List ℕ) (here : Option Line) (pa word : ℕ) → pa % 4 ≡ 0 → ((line : Line) → here ≡ Some line → IsLineOf ram (index_of pa) line) → word_of_line here pa ≡ Some word → word ≡ value_at ram pa Word
word_is ram None pa word aligned known is = grind arith
word_is ram (Some line) pa word aligned known is = word_when ram line pa word (line.address == line_of pa) aligned (known line refl) refl is

-- it is that of RAM
pub held_word_is : (ram : List ℕ) (lines : List (Option Line)) (pa word : ℕ) → pa % 4 ≡ 0 → IsCoherent ram lines → held_word lines pa ≡ Some word → word ≡ value_at ram pa Word
unfolding held_word
held_word_is ram lines pa word aligned coherent is = word_is ram (line_at_index lines (index_of pa)) pa word aligned (λ line e. coherent (index_of pa) line (omega arith) e) is

holds_by_word : (here : Option Line) (pa : ℕ) → is_some (word_of_line here pa) ≡ is_line (line_of pa) here
holds_by_word None pa = refl
holds_by_word (Some line) pa = grind (arith, nat_tests)

pub holds-held_word : (lines : List (Option Line)) (pa : ℕ) → holds lines (line_of pa) ≡ is_some (held_word lines pa)
unfolding holds held_word
holds-held_word lines pa = ap (λ i. is_line (line_of pa) (slice_index_or lines i None)) (index_of_line pa) ∙ sym (holds_by_word (line_at_index lines (index_of pa)) pa)

-- THE COUNTS

hits-hit : (accesses : List Access) (c at : ℕ) → held accesses c at ≡ true → (hits (load_of c at ∷ accesses) c ≡ hits accesses c + 1) × (misses (load_of c at ∷ accesses) c ≡ misses accesses c)
hits-hit accesses c at h = (grind (arith, nat_tests), grind (arith, nat_tests))

hits-miss : (accesses : List Access) (c at : ℕ) → held accesses c at ≡ false → (hits (load_of c at ∷ accesses) c ≡ hits accesses c) × (misses (load_of c at ∷ accesses) c ≡ misses accesses c + 1)
hits-miss accesses c at h = (grind (arith, nat_tests), grind (arith, nat_tests))

hits-other : (accesses : List Access) (c d at : ℕ) → c ≢ d → (hits (load_of d at ∷ accesses) c ≡ hits accesses c) × (misses (load_of d at ∷ accesses) c ≡ misses accesses c)
hits-other accesses c d at apart = (grind (arith, nat_tests), grind (arith, nat_tests))

-- the counts of a core are those of the accesses
abbrev pub IsCount : List Access → ℕ → Counts → Type 0
IsCount accesses c counts = counts ≡ record { hits = min (hits accesses c) last_count; misses = min (misses accesses c) last_count }

same_counts : (a b x y : ℕ) → a ≡ x → b ≡ y → (let left : Counts = record { hits = a; misses = b } in let right : Counts = record { hits = x; misses = y } in left ≡ right)
same_counts a b x y p q = cc

pub count-hit : (accesses : List Access) (c at : ℕ) (counts : Counts) → held accesses c at ≡ true → IsCount accesses c counts → IsCount (load_of c at ∷ accesses) c (with_hit counts)
count-hit accesses c at counts h is =
    ap with_hit is ∙ same_counts _ _ _ _ (omega (arith, (hits-hit accesses c at h).0)) (omega (arith, (hits-hit accesses c at h).1))

pub count-miss : (accesses : List Access) (c at : ℕ) (counts : Counts) → held accesses c at ≡ false → IsCount accesses c counts → IsCount (load_of c at ∷ accesses) c (with_miss counts)
count-miss accesses c at counts h is =
    ap with_miss is ∙ same_counts _ _ _ _ (omega (arith, (hits-miss accesses c at h).0)) (omega (arith, (hits-miss accesses c at h).1))

pub count-other : (accesses : List Access) (c d at : ℕ) (counts : Counts) → c ≢ d → IsCount accesses c counts → IsCount (load_of d at ∷ accesses) c counts
count-other accesses c d at counts apart is =
    is ∙ same_counts _ _ _ _ (omega (arith, (hits-other accesses c d at apart).0)) (omega (arith, (hits-other accesses c d at apart).1))

-- an access that is no cached load counts for nobody
pub count-same : (accesses : List Access) (access : Access) (c : ℕ) (counts : Counts) → is_cached_load access c ≡ false → IsCount accesses c counts → IsCount (access ∷ accesses) c counts
count-same accesses access c counts other is = is ∙ same_counts _ _ _ _ (grind (arith, nat_tests)) (grind (arith, nat_tests))
