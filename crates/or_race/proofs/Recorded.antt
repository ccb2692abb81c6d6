-- One more event, as what is kept takes it.
use Rattle.std.proofs.Common.{◌≡◌, ◌≢◌, ℕ, ◌<◌, List, [], ◌∷◌, ◌++◌, length, slice_get, slice_index_or, slice_set, Some, Bool, false, nat_cmp, is_eq, Ordering, Less, Equal, Greater, length-set, get_or-set_same, get_or-set_other, refl, sym, ◌∙◌, subst, ⊎_elim, arith}
use Rattle.std.specs.BTreeMap.{is_at}
use Rattle.std.proofs.lemmas.Map.Lookups.{exact_unsigned}
use Rattle.or_race.specs.declared.races.Races.{Races}
use Rattle.or_race.specs.declared.word.Word.{Word}
use Rattle.or_race.specs.Event.{Event}
use Rattle.or_race.specs.Kept.{Reaches, Covers, OfCore, IsLatest, WordOk, NextClock, NextWord}
use Rattle.or_race.specs.Records.{IsSchedule, Records, kept_of, clock_of}
use Rattle.or_race.proofs.Places.{within, at_which, at_below}
use Rattle.or_race.proofs.Clocks.{AllBelow, same_or_not, own_clock, clock_stays, as_reached}
use Rattle.or_race.proofs.Latest.{latest_new}
use Rattle.or_race.proofs.Found.{word_stays, word_next}

-- a schedule goes on by an event of a later turn
schedule_next : (cores : ℕ) (es : List Event) (e : Event) → IsSchedule cores es → AllBelow es e.turn → 0 < e.turn → e.core < cores → IsSchedule cores (es ++ e ∷ [])
schedule_next cores es e s below first core = record {
  begun = λ i f at. ⊎_elim
      (λ (t : slice_get es i ≡ Some f). s.begun i f t)
      (λ (t : (i ≡ length es) × (f ≡ e)). subst (λ (x : Event). 0 < x.turn) (sym t.1) first)
      (at_which es e i f at);
  rising = λ i j f g at_i at_j h. ⊎_elim
      (λ (t : slice_get es j ≡ Some g). s.rising i j f g (at_below es e i f (let l = within es j g t in omega arith) at_i) t h)
      (λ (t : (j ≡ length es) × (g ≡ e)). let z = t.0 in let b = below i f (at_below es e i f (omega arith) at_i) in subst (λ (x : Event). f.turn < x.turn) (sym t.1) b)
      (at_which es e j g at_j);
  in_cores = λ i f at. ⊎_elim
      (λ (t : slice_get es i ≡ Some f). s.in_cores i f t)
      (λ (t : (i ≡ length es) × (f ≡ e)). subst (λ (x : Event). x.core < cores) (sym t.1) core)
      (at_which es e i f at);
}

pub added : (locks : Bool) (old new : Races) (e : Event) (es : List Event) (clock : List ℕ) (word : Word) → e.core < old.cores → old.last < e.turn
    → NextClock e (clock_of old e.core) (kept_of old e.word).released clock → NextWord old.locks old.cores e clock (kept_of old e.word) word
    → new.locks ≡ old.locks → new.cores ≡ old.cores → new.last ≡ e.turn → clock_of new e.core ≡ clock → ((core : ℕ) → core ≢ e.core → clock_of new core ≡ clock_of old core)
    → kept_of new e.word ≡ word → ((w : ℕ) → w ≢ e.word → kept_of new w ≡ kept_of old w)
    → Records locks old es → Records locks new (es ++ e ∷ [])
added locks old new e es clock word in_cores later next_clock next_word same cores last own others here apart r =
    let below : AllBelow es e.turn = λ i f at. (let m = r.last.most i f at tt in omega arith) in
    let covers = own_clock es e old.last (clock_of old e.core) (kept_of old e.word).released clock later below (r.clocks e.core in_cores) (r.words e.word).released next_clock in
    record {
      locks_are = same ∙ r.locks_are;
      schedule = subst (λ (n : ℕ). IsSchedule n (es ++ e ∷ [])) (sym cores) (schedule_next old.cores es e r.schedule below (omega arith) in_cores);
      last = subst (IsLatest (es ++ e ∷ []) (λ _. Unit {0})) (sym last) (latest_new es e (λ _. Unit {0}) below tt);
      clocks = λ core h. subst (λ (n : ℕ). Covers (es ++ e ∷ []) n (clock_of new core) (Reaches locks (es ++ e ∷ []) (OfCore core))) (sym last) (⊎_elim
          (λ (t : core ≡ e.core). subst (λ (c : ℕ). Covers (es ++ e ∷ []) e.turn (clock_of new c) (Reaches locks (es ++ e ∷ []) (OfCore c))) (sym t) (subst (λ (x : List ℕ). Covers (es ++ e ∷ []) e.turn x (Reaches locks (es ++ e ∷ []) (OfCore e.core))) (sym own) (as_reached es e e.turn clock covers)))
          (λ (t : core ≢ e.core). subst (λ (x : List ℕ). Covers (es ++ e ∷ []) e.turn x (Reaches locks (es ++ e ∷ []) (OfCore core))) (sym (others core t)) (clock_stays es e old.last (clock_of old core) (OfCore core) later (λ z. t (sym z)) (r.clocks core (omega arith))))
          (same_or_not core e.core));
      words = λ w. subst (λ (n : ℕ). WordOk locks (es ++ e ∷ []) n w (kept_of new w)) (sym last) (⊎_elim
          (λ (t : w ≡ e.word). subst (λ (x : ℕ). WordOk locks (es ++ e ∷ []) e.turn x (kept_of new x)) (sym t) (subst (WordOk locks (es ++ e ∷ []) e.turn e.word) (sym here) (word_next es e old.last old.cores clock (kept_of old e.word) r.schedule below later covers (r.words e.word) word (subst (λ (x : Bool). NextWord x old.cores e clock (kept_of old e.word) word) r.locks_are next_word))))
          (λ (t : w ≢ e.word). subst (WordOk locks (es ++ e ∷ []) e.turn w) (sym (apart w t)) (word_stays es e old.last w (kept_of old w) later t (r.words w)))
          (same_or_not w e.word));
    }

-- ---- the same, by the steps of the code
pub set_here : (xs : List (List ℕ)) (i : ℕ) (a b : List ℕ) → i < length xs → slice_index_or (slice_set (slice_set xs i a) i b) i [] ≡ b
set_here xs i a b h = get_or-set_same (slice_set xs i a) i b [] (simp length-set h)

pub set_else : (xs : List (List ℕ)) (i : ℕ) (a b : List ℕ) (j : ℕ) → j ≢ i → slice_index_or (slice_set (slice_set xs i a) i b) j [] ≡ slice_index_or xs j []
set_else xs i a b j h = get_or-set_other (slice_set xs i a) i j b [] h ∙ get_or-set_other xs i j a [] h

-- another key is not found
pub not_at : (k w : ℕ) → w ≢ k → is_at (nat_cmp k) w ≡ false
not_at k w h = by_test (nat_cmp k w) refl
  where
    by_test : (o : Ordering) → nat_cmp k w ≡ o → is_eq o ≡ false
    by_test Less e = refl
    by_test Equal e = absurd (h (sym (exact_unsigned k w e)))
    by_test Greater e = refl
