-- Lists of core numbers: how often each stands in them, and at which place.
use Rattle.std.proofs.Common.{◌≡◌, ◌⊎◌, ℕ, zero, suc, ◌+◌, ◌<◌, ◌≤◌, List, [], ◌∷◌, ◌++◌, length, drop, refl, sym, ap, ◌∙◌, subst, inl, inr, ⊎_elim, arith, append_assoc}
use mathlib.Core.Logic.{dite}
use mathlib.Core.Option.{some, some-injective, some-ne-none}
use native.Mathlib.Decide.{ℕ_discrete}
use lib.ListN.{get_elem?}
use Rattle.or_turn.specs.declared.view.Settings.{Settings}
use Rattle.or_turn.specs.Schedules.{IsDefined, count, core_at, board_of}
use Rattle.or_turn.proofs.Replays.{count_none, count_append, count_same, count_other, count_cons, prefix_core}
use Rattle.or_turn.proofs.Lengths.{AllBelow}
use Rattle.or_turn.specs.Rule.{Begins}

pub begins_all : (xs : List ℕ) → Begins xs xs
begins_all xs = ([], sym (mathlib.Core.List.append-nil xs))

pub begins_more : (xs ys zs : List ℕ) → Begins xs ys → Begins xs (ys ++ zs)
begins_more xs ys zs b = (b.0 ++ zs, ap (λ (l : List ℕ). l ++ zs) b.1 ∙ append_assoc xs b.0 zs)

pub count_begins : (c : ℕ) (xs ys : List ℕ) → Begins xs ys → count c xs ≤ count c ys
count_begins c xs ys b = let e : count c ys ≡ count c xs + count c b.0 = ap (count c) b.1 ∙ count_append c xs b.0 in omega arith

pub count_one : (c x : ℕ) → 0 < count c (x ∷ []) → x ≡ c
count_one c x h = dite (ℕ_discrete x c) (λ e. e) (λ other. let none : count c (x ∷ []) ≡ 0 = count_other c x other in absurd (omega arith))

pub count_one_most : (c x : ℕ) → count c (x ∷ []) ≤ 1
count_one_most c x = dite (ℕ_discrete x c) (λ e. let one : count c (x ∷ []) ≡ 1 = ap (λ (y : ℕ). count c (y ∷ [])) e ∙ count_same c in omega arith) (λ other. let none : count c (x ∷ []) ≡ 0 = count_other c x other in omega arith)

pub count_zero : (c : ℕ) → 0 < count c [] → ⊥
count_zero c h = let e = count_none c in omega arith

pub count_snoc : (c x : ℕ) (xs : List ℕ) → count c (xs ++ x ∷ []) ≡ count c xs + count c (x ∷ [])
count_snoc c x xs = count_append c xs (x ∷ [])

-- what is counted stands somewhere
pub count_at : (c : ℕ) (xs : List ℕ) → 0 < count c xs → (i : ℕ) × (get_elem? xs i ≡ some c)
count_at c [] h = absurd (count_zero c h)
count_at c (x ∷ xs) h = dite (ℕ_discrete x c) (λ e. (0, ap some e))
    (λ other. let none : count c (x ∷ []) ≡ 0 = count_other c x other in let more = count_cons c x xs in let r = count_at c xs (omega arith) in (suc r.0, r.1))

pub at_count : (c : ℕ) (xs : List ℕ) (i : ℕ) → get_elem? xs i ≡ some c → 0 < count c xs
at_count c [] i e = absurd (some-ne-none c (sym e))
at_count c (x ∷ xs) zero e = let same : count c (x ∷ []) ≡ 1 = ap (λ (y : ℕ). count c (y ∷ [])) (some-injective x c e) ∙ count_same c in let more = count_cons c x xs in omega arith
at_count c (x ∷ xs) (suc i) e = let h = at_count c xs i e in let more = count_cons c x xs in omega arith

-- where an element of a longer list stands
pub snoc_at : (xs : List ℕ) (a : ℕ) (i b : ℕ) → get_elem? (xs ++ a ∷ []) i ≡ some b → (get_elem? xs i ≡ some b) ⊎ ((i ≡ length xs) × (a ≡ b))
snoc_at [] a zero b e = inr (refl, some-injective a b e)
snoc_at [] a (suc i) b e = absurd (some-ne-none b (sym e))
snoc_at (x ∷ xs) a zero b e = inl e
snoc_at (x ∷ xs) a (suc i) b e = ⊎_elim (λ (t : get_elem? xs i ≡ some b). inl t) (λ (t : (i ≡ length xs) × (a ≡ b)). inr (ap suc t.0, t.1)) (snoc_at xs a i b e)

pub first_drop : (xs : List ℕ) (c : ℕ) → get_elem? xs 0 ≡ some c → xs ≡ c ∷ drop 1 xs
first_drop [] c e = absurd (some-ne-none c (sym e))
first_drop (x ∷ xs) c e = ap (λ (y : ℕ). y ∷ xs) (some-injective x c e)

pub drop_at_suc : (xs : List ℕ) (i : ℕ) → get_elem? (drop 1 xs) i ≡ get_elem? xs (suc i)
drop_at_suc [] i = refl
drop_at_suc (x ∷ xs) i = refl

pub below_at : (n : ℕ) (xs : List ℕ) → ((i c : ℕ) → get_elem? xs i ≡ some c → c < n) → AllBelow n xs
below_at n [] h = tt
below_at n (x ∷ xs) h = (h 0 x refl, below_at n xs (λ i c e. h (suc i) c e))

pub below_counts : (n : ℕ) (xs : List ℕ) → ((c : ℕ) → n ≤ c → count c xs ≡ 0) → AllBelow n xs
below_counts n xs h = below_at n xs (λ i c e. let p = at_count c xs i e in dite (native.Mathlib.Decide.dec_lt c n) (λ l. l) (λ not. let z = h c (omega arith) in absurd (omega arith)))

pub below_append : (n : ℕ) (xs ys : List ℕ) → AllBelow n xs → AllBelow n ys → AllBelow n (xs ++ ys)
below_append n [] ys a b = b
below_append n (x ∷ xs) ys a b = (a.0, below_append n xs ys a.1 b)

pub below_weaken : (m n : ℕ) (xs : List ℕ) → m ≤ n → AllBelow m xs → AllBelow n xs
below_weaken m n [] le a = tt
below_weaken m n (x ∷ xs) le a = ((let l = a.0 in omega arith), below_weaken m n xs le a.1)

-- the core that a view knows is the core of the whole schedule
pub core_told : (st : Settings) (xs ys : List ℕ) (c : ℕ) → IsDefined st ys → Begins xs ys → count c xs ≡ count c ys → core_at (board_of st xs).cores c ≡ core_at (board_of st ys).cores c
core_told st xs ys c defined b same = prefix_core st xs b.0 c (subst (IsDefined st) b.1 defined) (same ∙ ap (count c) b.1) ∙ ap (λ (l : List ℕ). core_at (board_of st l).cores c) (sym b.1)
