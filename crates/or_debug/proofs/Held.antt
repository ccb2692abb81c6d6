-- The line that a data cache holds at an index, told by the accesses.
use Rattle.std.proofs.Common.{◌≡◌, ◌∙◌, refl, sym, ap, ℕ, ◌%◌, Bool, true, false, cond, eqb, ◌&&◌, List, [], ◌∷◌, Some, None, arith}
use Rattle.std.specs.Prelude.{Option}
use Rattle.std.proofs.lemmas.Bool.Decides.{nat_tests}
use Rattle.or_parts.specs.Lines.{index_of, line_of}
use Rattle.or_model.specs.World.{World, Access, Kind}
use Rattle.or_model.specs.World.Kind.{Loads, Stores, Drops}
use Rattle.or_model.specs.Caches.{held, brings, brings_by, ends, ends_by, is_cached_load, is_cached_load_by}
use Rattle.or_bus.specs.Lines.{IsLineTold}
use Rattle.or_debug.specs.BoardText.{last_loaded, where_held, held_at}

-- an address at which a line begins
line_itself : (line : ℕ) → line % 32 ≡ 0 → line_of line ≡ line
line_itself line begins = omega arith

line_begins : (pa : ℕ) → line_of pa % 32 ≡ 0
line_begins pa = omega arith

same_index : (pa : ℕ) → index_of (line_of pa) ≡ index_of pa
same_index pa = omega arith

all_true : (cached : Bool) (x c y line : ℕ) → cached && eqb x c && eqb y line ≡ true → (y ≡ line) × (cached && eqb x c && eqb (index_of y) (index_of line) ≡ true)
all_true cached x c y line e =
    let same : y ≡ line = grind (arith, nat_tests, e) in
    let first : cached && eqb x c ≡ true = grind (arith, nat_tests, e) in
    let second : eqb (index_of y) (index_of line) ≡ true = rw same (grind (arith, nat_tests)) in
    (same, ap (λ t. t && eqb (index_of y) (index_of line)) first ∙ second)

-- an access that brings a line is a cached load with its index
brought_by : (kind : Kind) (access : Access) (c line : ℕ) → line % 32 ≡ 0 → brings_by kind access c line ≡ true
    → (is_cached_load_by kind access c && eqb (index_of access.line) (index_of line) ≡ true) × (Some (line_of access.line) ≡ Some line)
brought_by Loads access c line begins is =
    let h = all_true access.cached access.core c access.line line is in
    (h.1, ap (λ l. Some (line_of l)) h.0 ∙ ap Some (line_itself line begins))
brought_by Stores access c line begins is = absurd (let b : ⊥ = cc in b)
brought_by Drops access c line begins is = absurd (let b : ⊥ = cc in b)

-- one that does not end it is no cached load with its index
not_ended_by : (kind : Kind) (access : Access) (c line : ℕ) → ends_by kind access c line ≡ false → is_cached_load_by kind access c && eqb (index_of access.line) (index_of line) ≡ false
not_ended_by Loads access c line is = is
not_ended_by Stores access c line is = refl
not_ended_by Drops access c line is = refl

-- the access that decides whether a line is held, by the outcomes of the tests
by_tests : (b e l : Bool) (rest : Bool) (found later : Option ℕ) (line : ℕ)
    → cond b true (cond e false rest) ≡ true → (b ≡ true → (l ≡ true) × (found ≡ Some line)) → (e ≡ false → l ≡ false) → (rest ≡ true → later ≡ Some line)
    → cond l found later ≡ Some line
by_tests true e l rest found later line is brought not_ended earlier = let h = brought refl in ap (λ t. cond t found later) h.0 ∙ h.1
by_tests false true l rest found later line is brought not_ended earlier = absurd (let b : ⊥ = cc in b)
by_tests false false l rest found later line is brought not_ended earlier = ap (λ t. cond t found later) (not_ended refl) ∙ earlier is

-- a line that is held was loaded last of those with its index
held_loaded : (accesses : List Access) (c line : ℕ) → line % 32 ≡ 0 → held accesses c line ≡ true → last_loaded accesses c (index_of line) ≡ Some line
held_loaded [] c line begins is = absurd (let b : ⊥ = cc in b)
held_loaded (access ∷ earlier) c line begins is =
    by_tests (brings access c line) (ends access c line) (is_cached_load access c && eqb (index_of access.line) (index_of line)) (held earlier c line)
    (Some (line_of access.line)) (last_loaded earlier c (index_of line)) line is
    (brought_by access.kind access c line begins) (not_ended_by access.kind access c line) (held_loaded earlier c line begins)

loaded_by : (test : Bool) (pa index line : ℕ) (later : Option ℕ) → (test ≡ true → index_of pa ≡ index) → (later ≡ Some line → (line % 32 ≡ 0) × (index_of line ≡ index))
    → cond test (Some (line_of pa)) later ≡ Some line → (line % 32 ≡ 0) × (index_of line ≡ index)
loaded_by true pa index line later with_index earlier is =
    let same : line_of pa ≡ line = cc in
    (ap (λ l. l % 32) (sym same) ∙ line_begins pa, ap index_of (sym same) ∙ same_index pa ∙ with_index refl)
loaded_by false pa index line later with_index earlier is = earlier is

and_index : (t : Bool) (x index : ℕ) → t && eqb x index ≡ true → x ≡ index
and_index t x index e = grind (arith, nat_tests, e)

-- what was loaded last is a line with the index
loaded_is : (accesses : List Access) (c index line : ℕ) → last_loaded accesses c index ≡ Some line → (line % 32 ≡ 0) × (index_of line ≡ index)
loaded_is [] c index line is = absurd (let b : ⊥ = cc in b)
loaded_is (access ∷ earlier) c index line is =
    loaded_by (is_cached_load access c && eqb (index_of access.line) index) access.line index line (last_loaded earlier c index)
    (and_index (is_cached_load access c) (index_of access.line) index) (loaded_is earlier c index line) is

pub told_line : (world : World) (c index : ℕ) (line : ℕ × List ℕ) → IsLineTold world c index (Some line) → Some line.0 ≡ held_at world.accesses c index
unfolding held_at
told_line world c index line told =
    let loaded : last_loaded world.accesses c index ≡ Some line.0 = ap (last_loaded world.accesses c) (sym told.1) ∙ held_loaded world.accesses c line.0 told.0 told.2 in
    sym (ap (where_held world.accesses c) loaded ∙ ap (λ t. cond t (Some line.0) None) told.2)

none_held : (accesses : List Access) (c index : ℕ) (found : Option ℕ) → last_loaded accesses c index ≡ found
    → ((line : ℕ) → line % 32 ≡ 0 → index_of line ≡ index → held accesses c line ≡ false) → None ≡ where_held accesses c found
none_held accesses c index None is none = refl
none_held accesses c index (Some line) is none =
    let h = loaded_is accesses c index line is in
    sym (ap (λ t. cond t (Some line) None) (none line h.0 h.1))

pub told_none : (world : World) (c index : ℕ) → IsLineTold world c index None → None ≡ held_at world.accesses c index
unfolding held_at
told_none world c index told = none_held world.accesses c index (last_loaded world.accesses c index) refl told
