-- How marks and writes move the reservations.
use Rattle.std.proofs.Common.{◌≡◌, ℕ, zero, suc, ◌≤◌, Bool, true, false, List, [], ◌∷◌, ◌++◌, Some, None, length, drop, refl, ap, sym, ◌∙◌, arith, replicate, length-append}
use Rattle.std.specs.Prelude.{Option, slice_index_or, ◌==◌, ◌&&◌, ◌||◌, not, map}
use Rattle.std.specs.List.{list_any}
use Rattle.std.proofs.lemmas.Bool.Decides.{nat_tests}
use Rattle.std.proofs.lemmas.List.{drop-append-le, drop_all, get_or-map}
use Rattle.std.proofs.lemmas.List.Folds.{list_any-append}
use Rattle.or_parts.specs.Reservation.{ReservationMark, is_unwritten_since, stands_by}
use Rattle.or_reservations.specs.Slots.{is_for, after_write}
use Rattle.or_reservations.specs.Tracks.{Tracks, mark_of}

-- a slot is for the words that the mark stands for
abbrev pub IsSlotOf : List (ℕ × ℕ) → Option ReservationMark → Option ℕ → Type 0
IsSlotOf writes mark slot = (word : ℕ) → is_for word slot ≡ stands_by writes word mark

-- a mark behind all writes stands for its word alone
pub slot-marked : (writes : List (ℕ × ℕ)) (word : ℕ) → IsSlotOf writes (Some (word, length writes)) (Some word)
slot-marked writes word other = rw (drop_all (length writes) writes (omega arith)) (grind (arith, nat_tests))

any_more : (writes : List (ℕ × ℕ)) (c at k word : ℕ) → k ≤ length writes → list_any (λ write. write.1 == word) (drop k (writes ++ (c, at) ∷ [])) ≡ (list_any (λ write. write.1 == word) (drop k writes) || (at == word || false))
any_more writes c at k word h = ap (list_any (λ write. write.1 == word)) (drop-append-le k writes ((c, at) ∷ []) h) ∙ list_any-append (λ write. write.1 == word) (drop k writes) ((c, at) ∷ [])

is_for-after_write : (word at : ℕ) (slot : Option ℕ) → is_for word (after_write at slot) ≡ (is_for word slot && not (at == word))
is_for-after_write word at None = refl
is_for-after_write word at (Some reserved) = grind (arith, nat_tests)

both_not : (a x t : Bool) → (a && not (x || (t || false))) ≡ ((a && not x) && not t)
both_not true true true = refl
both_not true true false = refl
both_not true false true = refl
both_not true false false = refl
both_not false true true = refl
both_not false true false = refl
both_not false false true = refl
both_not false false false = refl

unwritten_more : (writes : List (ℕ × ℕ)) (c at word : ℕ) (mark : ReservationMark) → mark.1 ≤ length writes → is_unwritten_since (writes ++ (c, at) ∷ []) word mark ≡ (is_unwritten_since writes word mark && not (at == word))
unwritten_more writes c at word mark h =
    ap (λ b. mark.0 == word && not b) (any_more writes c at mark.1 word h)
    ∙ both_not (mark.0 == word) (list_any (λ write. write.1 == word) (drop mark.1 writes)) (at == word)

-- a write ends the reservations of its word, and no other
pub slot-wrote : (writes : List (ℕ × ℕ)) (c at : ℕ) (mark : Option ReservationMark) (slot : Option ℕ) → ((word k : ℕ) → mark ≡ Some (word, k) → k ≤ length writes) → IsSlotOf writes mark slot → IsSlotOf (writes ++ (c, at) ∷ []) mark (after_write at slot)
slot-wrote writes c at None slot reached is word = is_for-after_write word at slot ∙ ap (λ b. b && not (at == word)) (is word)
slot-wrote writes c at (Some mark) slot reached is word =
    is_for-after_write word at slot ∙ ap (λ b. b && not (at == word)) (is word) ∙ sym (unwritten_more writes c at word mark (reached mark.0 mark.1 refl))

none_at : {X : Type 0} (n place : ℕ) → slice_index_or {A = Option X} (replicate n None) place None ≡ None
none_at zero place = refl
none_at (suc n) zero = refl
none_at (suc n) (suc place) = none_at n place

-- no slot is for a word, and no core has a mark
pub tracks-none : (writes : List (ℕ × ℕ)) (cores : ℕ) → Tracks (replicate 8 None) writes (replicate cores None)
tracks-none writes cores = record {
  reached = λ c word k is. absurd (none_is_some (sym (none_at cores c) ∙ is));
  stands = λ c word h. ap (is_for word) (none_at 8 c) ∙ sym (ap (stands_by writes word) (none_at cores c));
}
  where
    none_is_some : {X : Type 0} {x : X} → None ≡ Some x → ⊥
    none_is_some e = cc

-- a word is written
pub tracks-write : (slots : List (Option ℕ)) (writes : List (ℕ × ℕ)) (marks : List (Option ReservationMark)) (core word : ℕ) → length slots ≡ 8 → Tracks slots writes marks → Tracks (map (after_write word) slots) (writes ++ (core, word) ∷ []) marks
tracks-write slots writes marks core word len is = record {
  reached = λ c at k e. omega (arith, is.reached c at k e, length-append writes ((core, word) ∷ []));
  stands = λ c at h.
      ap (is_for at) (get_or-map (after_write word) slots c None None (omega arith))
      ∙ slot-wrote writes core word (mark_of marks c) (slice_index_or slots c None) (is.reached c) (λ w. is.stands c w h) at;
}

-- where no slot is for a word, a write changes none
pub map-none : (word : ℕ) (slots : List (Option ℕ)) → ((core : ℕ) → slice_index_or slots core None ≡ None) → map (after_write word) slots ≡ slots
map-none word [] none = refl
map-none word (slot ∷ slots) none =
    let first : after_write word slot ≡ slot = rw (none 0) refl in
    rw (first, map-none word slots (λ core. none (suc core))) refl
