-- What calls in memory leave is what any host may leave.
use Rattle.std.proofs.Common.{◌≡◌, ◌∙◌, sym, ap, subst, refl, inl, inr, ℕ, List, [], ◌+◌, ◌≤◌, ◌/◌, min, length, take, drop, Bool, true, false, Option, Some, None, Ok, Err, arith, append-nil}
use Rattle.std.specs.Prelude.{Result}
use Rattle.std.specs.Option.{option_map}
use Rattle.std.proofs.lemmas.List.{take-append-drop, length-take, length-take-le}
use Rattle.or_host.specs.declared.host.LoadFail.{LoadFail}
use Rattle.or_host.specs.declared.host.LoadFail.TheVariants.{Failed, TooLong, NoMemory}
use Rattle.or_host.specs.Bytes.{IsPrefix, AddsPrefix, AddsWhereRoom, half_of}
use Rattle.or_host.specs.Told.{Content, AddsPrefixToFile}
use Rattle.or_host.specs.Calls.{Takes}
use Rattle.or_host.specs.Failing.{LoadsBytes, LoadsListed, GrowsListed, AppendsListed, failed_part}

take_is_prefix : (n : ℕ) (bytes : List ℕ) → IsPrefix (take n bytes) bytes
take_is_prefix n bytes = record { rest = drop n bytes; parts = sym (take-append-drop n bytes) }

is_prefix_as : (first into whole : List ℕ) → into ≡ first → IsPrefix first whole → IsPrefix into whole
is_prefix_as first into whole e = subst (λ (x : List ℕ). IsPrefix x whole) (sym e)

nothing_added : (bytes old new : List ℕ) → new ≡ old → AddsPrefix bytes old new
nothing_added bytes old new e = record { first = []; is_prefix = record { rest = bytes; parts = refl }; added = e ∙ sym (append-nil old) }

where_room : (room : ℕ) (piece bytes old new : List ℕ) → IsPrefix piece bytes → AddsWhereRoom room piece old new → AddsPrefix bytes old new
where_room room piece bytes old new is (inl e) = record { first = piece; is_prefix = is; added = e }
where_room room piece bytes old new is (inr short) = nothing_added bytes old new short.1

-- a write that failed added a prefix of its bytes
pub failed_grows : (listed : Bool) (room : ℕ) (bytes old new : List ℕ) → GrowsListed listed room bytes false old new → AddsPrefix bytes old new
failed_grows true room bytes old new h = where_room room (half_of bytes) bytes old new (take_is_prefix (length bytes / 2) bytes) h.1
failed_grows false room bytes old new h = nothing_added bytes old new h.1

-- so did an append that failed
pub failed_appends : (listed : Bool) (room : ℕ) (bytes : List ℕ) (old new : Content) → AppendsListed listed room bytes false old new → AddsPrefixToFile bytes old new
failed_appends listed room bytes None None h = tt
failed_appends listed room bytes None (Some new) h = absurd h
failed_appends listed room bytes (Some old) None h = absurd h
failed_appends listed room bytes (Some old) (Some new) h = failed_grows listed room bytes old new h

short_part : (file into : List ℕ) (max n : ℕ) → n ≤ max → into ≡ take n file → length into ≤ max
short_part file into max n small e = omega (arith, ap length e, length-take n file)

takes_nothing : (file into : List ℕ) (max : ℕ) → into ≡ [] → (length into ≤ max) × IsPrefix into file
takes_nothing file into max e =
    let none : length into ≡ 0 = ap length e in
    (omega arith, is_prefix_as [] into file e (record { rest = file; parts = refl }))

takes_half : (file into : List ℕ) (max room : ℕ) → AddsWhereRoom room (failed_part file max) [] into → (length into ≤ max) × IsPrefix into file
takes_half file into max room (inl e) =
    let n = min max (length file / 2) in
    let taken : into ≡ take n file = e in
    let small : n ≤ max = omega arith in
    (short_part file into max n small taken, is_prefix_as (take n file) into file taken (take_is_prefix n file))
takes_half file into max room (inr short) = takes_nothing file into max short.1

-- a file in memory is taken as any file is
pub takes_bytes : {U : Type 0} (file : List ℕ) (max room : ℕ) (result : Result U LoadFail) (into : List ℕ) → LoadsBytes file max room result into
    → Takes result (let c : Content = Some file in Some c) max into
takes_bytes file max room (Ok u) into h = (omega (arith, ap length h.1, h.0), ap (λ (x : List ℕ). let c : Content = Some x in c) (sym h.1))
takes_bytes file max room (Err TooLong) into h =
    let over : max + 1 ≤ length file = omega (arith, h.0) in
    (ap length h.1 ∙ length-take-le (max + 1) file over, is_prefix_as (take (max + 1) file) into file h.1 (take_is_prefix (max + 1) file))
takes_bytes file max room (Err NoMemory) into h = takes_nothing file into max h.1
takes_bytes file max room (Err Failed) into h = absurd h

-- so it is where calls are listed to fail
pub takes_listed : {U : Type 0} (listed : Bool) (file : Content) (max room : ℕ) (result : Result U LoadFail) (into : List ℕ) → LoadsListed listed file max room result into
    → Takes result (Some file) max into
takes_listed listed None max room result into h =
    let none : length into ≡ 0 = ap length h.1 in
    subst (λ r. Takes r (let c : Content = None in Some c) max into) (sym h.0) (omega arith, h.1)
takes_listed true (Some file) max room result into h =
    subst (λ r. Takes r (let c : Content = Some file in Some c) max into) (sym h.0) (takes_half file into max room h.1)
takes_listed false (Some file) max room result into h = takes_bytes file max room result into h

-- a file that is given is taken as any file is
pub takes_given : {U : Type 0} (told : Option (List ℕ)) (file : List ℕ) (max room : ℕ) (result : Result U LoadFail) (into : List ℕ) → told ≡ Some file
    → LoadsBytes file max room result into → Takes result (option_map (λ x. let c : Content = Some x in c) told) max into
takes_given None file max room result into e h = cc
takes_given (Some given) file max room result into e h =
    let same : given ≡ file = cc in
    subst (λ (x : List ℕ). Takes result (let c : Content = Some x in Some c) max into) (sym same) (takes_bytes file max room result into h)

-- an absent name of which nothing is told is taken as an empty file
pub takes_absent : (told : Option (List ℕ)) (max : ℕ) (into : List ℕ) → told ≡ None → into ≡ []
    → Takes {U = Unit {0}} (Ok tt) (option_map (λ x. let c : Content = Some x in c) told) max into
takes_absent None max into e none =
    let zero : length into ≡ 0 = ap length none in
    (omega arith, tt)
takes_absent (Some given) max into e none = cc
