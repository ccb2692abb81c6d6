use Rattle.std.proofs.Common.{◌≡◌, ℕ, ◌+◌, ◌-◌, ◌%◌, ◌<◌, ◌≤◌, ◌⊎◌, inl, inr, List, get_or, set, take, drop, refl, ap, sym, ◌∙◌, arith}
use Rattle.std.specs.Prelude.{slice_range}
use Rattle.std.proofs.lemmas.List.{get_or-take, get_or-drop, drop-set-lt, drop-set-add, take-set-le}
use Rattle.std.proofs.Math.Seq.{take-set-lt}
use Rattle.or_words.specs.declared.Width.{Width}
use Rattle.or_words.specs.declared.Width.TheVariants.{Byte, Half, Word}
use Rattle.or_bus.specs.Narrow.{narrowed}
use Rattle.std.specs.Prelude.{zero, suc}
use Rattle.or_parts.specs.Lines.{line_of}
use Rattle.std.proofs.Common.{Bool, ◌∷◌}
use Rattle.or_model.specs.World.{World, Access, after_load}
use Rattle.or_model.specs.World.Kind.{Loads}
use Rattle.or_parts.specs.Memory.{value_at, stored, bytes_of}

-- a byte of a range
pub byte_in_range : (xs : List ℕ) (a k : ℕ) → k < 32 → get_or (slice_range xs a (a + 32)) k 0 ≡ get_or xs (a + k) 0
byte_in_range xs a k h =
    let len : a + 32 - a ≡ 32 = omega arith in
    ap (λ n. get_or (take n (drop a xs)) k 0) len ∙ get_or-take 32 (drop a xs) k 0 h ∙ get_or-drop a xs k 0

-- a word of a range
pub word_in_range : (xs : List ℕ) (a k : ℕ) → k + 4 ≤ 32 → value_at (slice_range xs a (a + 32)) k Word ≡ value_at xs (a + k) Word
word_in_range xs a k h =
    let b0 = byte_in_range xs a k (omega arith) in
    let b1 = byte_in_range xs a (k + 1) (omega arith) in
    let b2 = byte_in_range xs a (k + 2) (omega arith) in
    let b3 = byte_in_range xs a (k + 3) (omega arith) in
    let e1 : get_or xs (a + (k + 1)) 0 ≡ get_or xs (a + k + 1) 0 = ap (λ n. get_or xs n 0) (omega arith) in
    let e2 : get_or xs (a + (k + 2)) 0 ≡ get_or xs (a + k + 2) 0 = ap (λ n. get_or xs n 0) (omega arith) in
    let e3 : get_or xs (a + (k + 3)) 0 ≡ get_or xs (a + k + 3) 0 = ap (λ n. get_or xs n 0) (omega arith) in
    omega (arith, b0, b1, b2, b3, e1, e2, e3)

-- a write in a range
set_in_range : (xs : List ℕ) (a k v at : ℕ) → at ≡ a + k → k < 32 → set (slice_range xs a (a + 32)) k v ≡ slice_range (set xs at v) a (a + 32)
set_in_range xs a k v at same h =
    let len : a + 32 - a ≡ 32 = omega arith in
    ap (λ n. set (take n (drop a xs)) k v) len
    ∙ sym (take-set-lt 32 (drop a xs) k v h)
    ∙ ap (take 32) (sym (drop-set-add a xs k v))
    ∙ ap (λ n. take 32 (drop a (set xs n v))) (sym same)
    ∙ ap (λ n. take n (drop a (set xs at v))) (sym len)

-- a write outside a range
set_outside : (xs : List ℕ) (a k v : ℕ) → (k < a) ⊎ (a + 32 ≤ k) → slice_range (set xs k v) a (a + 32) ≡ slice_range xs a (a + 32)
set_outside xs a k v (inl h) = ap (take (a + 32 - a)) (drop-set-lt a xs k v h)
set_outside xs a k v (inr h) =
    let at : k ≡ a + (k - a) = omega arith in
    let len : a + 32 - a ≤ k - a = omega arith in
    ap (λ n. take (a + 32 - a) (drop a (set xs n v))) at
    ∙ ap (take (a + 32 - a)) (drop-set-add a xs (k - a) v)
    ∙ take-set-le (a + 32 - a) (drop a xs) (k - a) v len

set_two : (xs : List ℕ) (a k v w : ℕ) → k + 2 ≤ 32 → set (set (slice_range xs a (a + 32)) k v) (k + 1) w ≡ slice_range (set (set xs (a + k) v) (a + k + 1) w) a (a + 32)
set_two xs a k v w h =
    ap (λ s. set s (k + 1) w) (set_in_range xs a k v (a + k) refl (omega arith)) ∙ set_in_range (set xs (a + k) v) a (k + 1) w (a + k + 1) (omega arith) (omega arith)

set_four : (xs : List ℕ) (a k v w x y : ℕ) → k + 4 ≤ 32 → set (set (set (set (slice_range xs a (a + 32)) k v) (k + 1) w) (k + 2) x) (k + 3) y ≡ slice_range (set (set (set (set xs (a + k) v) (a + k + 1) w) (a + k + 2) x) (a + k + 3) y) a (a + 32)
set_four xs a k v w x y h =
    ap (λ s. set (set s (k + 2) x) (k + 3) y) (set_two xs a k v w (omega arith))
    ∙ ap (λ s. set s (k + 3) y) (set_in_range (set (set xs (a + k) v) (a + k + 1) w) a (k + 2) x (a + k + 2) (omega arith) (omega arith))
    ∙ set_in_range (set (set (set xs (a + k) v) (a + k + 1) w) (a + k + 2) x) a (k + 3) y (a + k + 3) (omega arith) (omega arith)

-- a store in a range
pub stored_in_range : (width : Width) (xs : List ℕ) (a k v : ℕ) → k + bytes_of width ≤ 32 → stored (slice_range xs a (a + 32)) k width v ≡ slice_range (stored xs (a + k) width v) a (a + 32)
stored_in_range Byte xs a k v h = set_in_range xs a k _ (a + k) refl (omega arith)
stored_in_range Half xs a k v h = set_two xs a k _ _ h
stored_in_range Word xs a k v h = set_four xs a k _ _ _ _ h

-- a store outside a range
pub stored_outside : (width : Width) (xs : List ℕ) (a pa v : ℕ) → (pa + bytes_of width ≤ a) ⊎ (a + 32 ≤ pa) → slice_range (stored xs pa width v) a (a + 32) ≡ slice_range xs a (a + 32)
stored_outside Byte xs a pa v (inl h) = set_outside xs a pa _ (inl (omega arith))
stored_outside Byte xs a pa v (inr h) = set_outside xs a pa _ (inr h)
stored_outside Half xs a pa v (inl h) = set_outside _ a (pa + 1) _ (inl (omega arith)) ∙ set_outside xs a pa _ (inl (omega arith))
stored_outside Half xs a pa v (inr h) = set_outside _ a (pa + 1) _ (inr (omega arith)) ∙ set_outside xs a pa _ (inr h)
stored_outside Word xs a pa v (inl h) = set_outside _ a (pa + 3) _ (inl (omega arith)) ∙ set_outside _ a (pa + 2) _ (inl (omega arith)) ∙ set_outside _ a (pa + 1) _ (inl (omega arith)) ∙ set_outside xs a pa _ (inl (omega arith))
stored_outside Word xs a pa v (inr h) = set_outside _ a (pa + 3) _ (inr (omega arith)) ∙ set_outside _ a (pa + 2) _ (inr (omega arith)) ∙ set_outside _ a (pa + 1) _ (inr (omega arith)) ∙ set_outside xs a pa _ (inr h)

-- the word of the line of an address
pub word_of_line_at : (ram : List ℕ) (pa : ℕ) → pa % 4 ≡ 0 → value_at (slice_range ram (line_of pa) (line_of pa + 32)) (pa % 32) Word ≡ value_at ram pa Word
word_of_line_at ram pa aligned =
    let at : line_of pa + pa % 32 ≡ pa = omega arith in
    word_in_range ram (line_of pa) (pa % 32) (omega arith) ∙ ap (λ n. value_at ram n Word) at

-- the part of a word of RAM at each of its bytes
byte_at : (ram : List ℕ) (w k : ℕ) → ((i : ℕ) → get_or ram i 0 < 256) → k < 4 → narrowed (value_at ram w Word) k Byte ≡ get_or ram (w + k) 0
byte_at ram w zero fits h = let same : get_or ram (w + 0) 0 ≡ get_or ram w 0 = ap (λ n. get_or ram n 0) (omega arith) in omega (arith, same, fits w, fits (w + 1), fits (w + 2), fits (w + 3))
byte_at ram w (suc zero) fits h = omega (arith, fits w, fits (w + 1), fits (w + 2), fits (w + 3))
byte_at ram w (suc (suc zero)) fits h = omega (arith, fits w, fits (w + 1), fits (w + 2), fits (w + 3))
byte_at ram w (suc (suc (suc zero))) fits h = omega (arith, fits w, fits (w + 1), fits (w + 2), fits (w + 3))
byte_at ram w (suc (suc (suc (suc k)))) fits h = absurd (omega arith)

half_at : (ram : List ℕ) (w k : ℕ) → ((i : ℕ) → get_or ram i 0 < 256) → k < 4 → k % 2 ≡ 0 → narrowed (value_at ram w Word) k Half ≡ value_at ram (w + k) Half
half_at ram w zero fits h even =
    let same : get_or ram (w + 0) 0 ≡ get_or ram w 0 = ap (λ n. get_or ram n 0) (omega arith) in
    let next : get_or ram (w + 0 + 1) 0 ≡ get_or ram (w + 1) 0 = ap (λ n. get_or ram n 0) (omega arith) in
    omega (arith, fits w, fits (w + 1), fits (w + 2), fits (w + 3))
half_at ram w (suc zero) fits h even = absurd (omega arith)
half_at ram w (suc (suc zero)) fits h even =
    let next : get_or ram (w + 2 + 1) 0 ≡ get_or ram (w + 3) 0 = ap (λ n. get_or ram n 0) (omega arith) in
    omega (arith, fits w, fits (w + 1), fits (w + 2), fits (w + 3))
half_at ram w (suc (suc (suc k))) fits h even = absurd (omega arith)

pub narrowed-value : (width : Width) (ram : List ℕ) (pa : ℕ) → ((i : ℕ) → get_or ram i 0 < 256) → pa % bytes_of width ≡ 0 → narrowed (value_at ram (pa - pa % 4) Word) (pa % 4) width ≡ value_at ram pa width
narrowed-value Byte ram pa fits aligned = byte_at ram (pa - pa % 4) (pa % 4) fits (omega arith) ∙ ap (λ n. get_or ram n 0) (omega arith)
narrowed-value Half ram pa fits aligned = half_at ram (pa - pa % 4) (pa % 4) fits (omega arith) (omega arith) ∙ ap (λ n. value_at ram n Half) (omega arith)
narrowed-value Word ram pa fits aligned = ap (λ n. value_at ram n Word) (omega arith)

-- a load goes to the line of its word
pub after_load-word : (world : World) (c pa : ℕ) (cached : Bool) → after_load world c (pa - pa % 4) cached ≡ after_load world c pa cached
unfolding after_load
after_load-word world c pa cached =
    let same : line_of (pa - pa % 4) ≡ line_of pa = omega arith in
    ap (λ l. let w : World = record world { accesses = (let a : Access = record { core = c; kind = Loads; line = l; cached = cached } in a) ∷ world.accesses } in w) same

pub line_of-word : (pa : ℕ) → line_of (pa - pa % 4) ≡ line_of pa
line_of-word pa = omega arith

pub ruleset parts = (narrowed-value, after_load-word, line_of-word)
