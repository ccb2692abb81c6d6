-- What holds of each element of a list, as the list changes, and of boards that are copied.
use Rattle.std.proofs.Common.{◌≡◌, ℕ, zero, suc, ◌⊎◌, List, [], ◌∷◌, ◌++◌, Bool, true, false, cond, slice_get, slice_set, Some, remove, sym, subst, inl, inr}
use Rattle.or_model.specs.Turn.{Board}
use Rattle.or_replay.specs.Board.{BoardState, IsBoard}
use Rattle.or_debug.specs.Standing.{IsAfter}
use Rattle.or_debug.proofs.Seen.{still_after}

module _ {A : Type 0} (P : A → Type 0) where
  abbrev pub AllAt : List A → Type 0
  AllAt xs = (i : ℕ) (x : A) → slice_get xs i ≡ Some x → P x

  pub all_removed : (xs : List A) → AllAt xs → AllAt (remove xs 0)
  all_removed [] h i x e = cc
  all_removed (y ∷ ys) h i x e = h (suc i) x e

  pub all_more : (xs : List A) (y : A) → AllAt xs → P y → AllAt (xs ++ y ∷ [])
  all_more [] y h p zero x e = let is : y ≡ x = cc in subst P is p
  all_more [] y h p (suc i) x e = cc
  all_more (z ∷ zs) y h p zero x e = h zero x e
  all_more (z ∷ zs) y h p (suc i) x e = all_more zs y (λ j. h (suc j)) p i x e

  pub all_pushed : (b : Bool) (xs new : List A) (y : A) → new ≡ cond b (xs ++ y ∷ []) xs → AllAt xs → P y → AllAt new
  all_pushed true xs new y e h p = subst AllAt (sym e) (all_more xs y h p)
  all_pushed false xs new y e h p = subst AllAt (sym e) h

  pub all_room : (xs new : List A) → (new ≡ xs) ⊎ (new ≡ remove xs 0) → AllAt xs → AllAt new
  all_room xs new (inl e) h = subst AllAt (sym e) h
  all_room xs new (inr e) h = subst AllAt (sym e) (all_removed xs h)

  pub all_set : (xs : List A) (i : ℕ) (y : A) → AllAt xs → P y → AllAt (slice_set xs i y)
  all_set [] i y h p j x e = cc
  all_set (z ∷ zs) zero y h p zero x e = let is : y ≡ x = cc in subst P is p
  all_set (z ∷ zs) zero y h p (suc j) x e = h (suc j) x e
  all_set (z ∷ zs) (suc i) y h p zero x e = h zero x e
  all_set (z ∷ zs) (suc i) y h p (suc j) x e = all_set zs i y (λ k. h (suc k)) p j x e

  pub all_none : (xs : List A) → xs ≡ [] → AllAt xs
  all_none [] e i x d = cc
  all_none (y ∷ ys) e i x d = cc

-- a board that was copied stands where it stood
pub same_after : (start : Board) (turns : List ℕ) (turn : ℕ) (old new : BoardState) → ((now : Board) → IsBoard old.cores old.bus now → IsBoard new.cores new.bus now)
    → IsAfter start turns turn old.cores old.bus → IsAfter start turns turn new.cores new.bus
same_after start turns turn old new same is = still_after start turns turn old.cores new.cores old.bus new.bus is same

-- and so does its copy
pub copy_after : (start : Board) (turns : List ℕ) (turn : ℕ) (old new copy : BoardState) → ((now : Board) → IsBoard old.cores old.bus now → IsBoard new.cores new.bus now) → copy ≡ new
    → IsAfter start turns turn old.cores old.bus → IsAfter start turns turn copy.cores copy.bus
copy_after start turns turn old new copy same is after =
    subst (λ (b : BoardState). IsAfter start turns turn b.cores b.bus) (sym is) (same_after start turns turn old new same after)
