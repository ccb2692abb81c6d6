-- What one more event does to what is kept of a word.
use Rattle.std.proofs.Common.{◌≡◌, ◌≢◌, ℕ, ◌<◌, ◌≤◌, ◌⊎◌, List, [], ◌∷◌, ◌++◌, length, slice_get, slice_index, slice_index_or, Option, Some, None, Bool, true, false, IsTrue, refl, sym, ap, ◌∙◌, subst, ⊎_elim, inl, inr, arith}
use Rattle.or_bus.specs.declared.access.AccessKind.{AccessKind}
use Rattle.or_bus.specs.declared.access.AccessKind.TheVariants.{Load, Store, Linked, Conditional}
use Rattle.or_race.specs.declared.line.Line.{Line}
use Rattle.or_race.specs.declared.word.Last.{Last}
use Rattle.or_race.specs.declared.word.Word.{Word}
use Rattle.or_race.specs.Event.{Event, is_release, Before}
use Rattle.or_race.specs.Records.{IsSchedule}
use Rattle.or_race.specs.Race.{is_plain, kinds_conflict, Race, IsFirst}
use Rattle.or_race.specs.Kept.{Reaches, Covers, Releases, Witness, IsLatest, IsOf, no_last, last_at, last_of_event, conflicting_of, FoundOk, SynchronizesOk, WordOk, NoRace, IsLatestRace, NextWord}
use Rattle.or_race.proofs.Places.{within, at_old, at_new, at_which, at_below, same_at}
use Rattle.or_race.proofs.Order.{still, already}
use Rattle.or_race.proofs.Clocks.{Past, AllBelow, le_or_lt, same_or_not, clock_stays, released_clock}
use Rattle.or_race.proofs.Latest.{Conflicting, latest_new, latest_stays, last_conflicting, conflicting_placed}

true_or_false : (b : Bool) → IsTrue b ⊎ (b ≡ false)
true_or_false true = inl refl
true_or_false false = inr refl

kept_apart : {b : Bool} → b ≡ false → IsTrue b → ⊥
kept_apart e h = cc

kinds_same : (j k : AccessKind) → (j ≡ k) ⊎ (j ≢ k)
kinds_same Load Load = inl refl
kinds_same Store Store = inl refl
kinds_same Linked Linked = inl refl
kinds_same Conditional Conditional = inl refl
kinds_same Load Store = inr (λ z. cc)
kinds_same Load Linked = inr (λ z. cc)
kinds_same Load Conditional = inr (λ z. cc)
kinds_same Store Load = inr (λ z. cc)
kinds_same Store Linked = inr (λ z. cc)
kinds_same Store Conditional = inr (λ z. cc)
kinds_same Linked Load = inr (λ z. cc)
kinds_same Linked Store = inr (λ z. cc)
kinds_same Linked Conditional = inr (λ z. cc)
kinds_same Conditional Load = inr (λ z. cc)
kinds_same Conditional Store = inr (λ z. cc)
kinds_same Conditional Linked = inr (λ z. cc)

-- a synchronization word stays one, and another word too unless the new event makes it one
synchronizes_stays : (es : List Event) (e : Event) (word : ℕ) (b : Bool) → (e.word ≡ word → is_plain e.kind ≡ false → ⊥) → SynchronizesOk es word b → SynchronizesOk (es ++ e ∷ []) word b
synchronizes_stays es e word true other s = record { i = s.i; e = s.e; at = at_old es e s.i s.e s.at; word_is = s.word_is; kind = s.kind }
synchronizes_stays es e word false other s = λ w. ⊎_elim
    (λ (t : slice_get es w.i ≡ Some w.e). s (record { i = w.i; e = w.e; at = t; word_is = w.word_is; kind = w.kind }))
    (λ (t : (w.i ≡ length es) × (w.e ≡ e)). other (subst (λ (x : Event). x.word ≡ word) t.1 w.word_is) (subst (λ (x : Event). is_plain x.kind ≡ false) t.1 w.kind))
    (at_which es e w.i w.e w.at)

module _ {locks : Bool} where
  -- a race stays one
  race_still : (es : List Event) (e : Event) {word i j : ℕ} → Race locks es word i j → Race locks (es ++ e ∷ []) word i j
  race_still es e {i = i} {j = j} r = record {
    first = r.first;
    second = r.second;
    at_first = at_old es e i r.first r.at_first;
    at_second = at_old es e j r.second r.at_second;
    later = r.later;
    word_is = r.word_is;
    conflict = r.conflict;
    unordered = λ b. r.unordered (already es e b (within es j r.second r.at_second));
  }

  -- a race of old events was one
  race_back : (es : List Event) (e : Event) {word i j : ℕ} → Race locks (es ++ e ∷ []) word i j → j < length es → Race locks es word i j
  race_back es e {i = i} {j = j} r h = record {
    first = r.first;
    second = r.second;
    at_first = at_below es e i r.first (let l = r.later in omega arith) r.at_first;
    at_second = at_below es e j r.second h r.at_second;
    later = r.later;
    word_is = r.word_is;
    conflict = r.conflict;
    unordered = λ b. r.unordered (still es e b);
  }

  -- or its second event is the new one
  race_place : (es : List Event) (e : Event) {word i j : ℕ} → Race locks (es ++ e ∷ []) word i j → (j < length es) ⊎ ((j ≡ length es) × (r : Race locks (es ++ e ∷ []) word i (length es)) × (r.second ≡ e))
  race_place es e {word = word} {i = i} {j = j} r = ⊎_elim
      (λ (t : slice_get es j ≡ Some r.second). inl (within es j r.second t))
      (λ (t : (j ≡ length es) × (r.second ≡ e)). let m = moved j r t.0 in inr (t.0, m.0, m.1))
      (at_which es e j r.second r.at_second)
    where
      moved : (k : ℕ) → Race locks (es ++ e ∷ []) word i k → k ≡ length es → (r : Race locks (es ++ e ∷ []) word i (length es)) × (r.second ≡ e)
      moved k r q = let s = subst (Race locks (es ++ e ∷ []) word i) q r in (s, same_at (es ++ e ∷ []) (length es) s.second e s.at_second (at_new es e))

  reported_still : (es : List Event) (e : Event) (line : Line) → IsFirst locks es line → IsFirst locks (es ++ e ∷ []) line
  unfolding race_still
  reported_still es e line p = record {
    i = p.i;
    j = p.j;
    race = race_still es e p.race;
    least = λ a b r. ⊎_elim
        (λ (t : b < length es). p.least a b (race_back es e r t))
        (λ (t : (b ≡ length es) × (r : Race locks (es ++ e ∷ []) line.word a (length es)) × (r.second ≡ e)). let w = within es p.j p.race.second p.race.at_second in let z = t.0 in omega arith)
        (race_place es e r);
    greatest = λ a r. p.greatest a (race_back es e r (within es p.j p.race.second p.race.at_second));
    first_turn = p.first_turn;
    first_core = p.first_core;
    second_turn = p.second_turn;
    second_core = p.second_core;
    first_pc = p.first_pc;
    second_pc = p.second_pc;
  }

  -- an event on another word
  pub word_stays : (es : List Event) (e : Event) (last word : ℕ) (s : Word) → last < e.turn → word ≢ e.word → WordOk locks es last word s → WordOk locks (es ++ e ∷ []) e.turn word s
  word_stays es e last word s later other ok = record {
    released = clock_stays es e last s.released (Releases locks word) later (λ h. other (sym h.same)) ok.released;
    lasts = λ core kind. latest_stays es e (IsOf word core kind) (last_at kind s core).turn (λ h. other (sym h.same_word)) (ok.lasts core kind);
    places = λ core kind i f at same_word same_core turn. ⊎_elim
        (λ (t : slice_get es i ≡ Some f). ok.places core kind i f t same_word same_core turn)
        (λ (t : (i ≡ length es) × (f ≡ e)). absurd (other (sym same_word ∙ ap (λ (x : Event). x.word) t.1)))
        (at_which es e i f at);
    found = found_stays s.found ok.found;
    synchronizes = synchronizes_stays es e word s.synchronizes (λ same k. other (sym same)) ok.synchronizes;
  }
    where
      found_stays : (found : Option Line) → FoundOk locks es word found → FoundOk locks (es ++ e ∷ []) word found
      found_stays None h = λ i j r. ⊎_elim
          (λ (t : j < length es). h i j (race_back es e r t))
          (λ (t : (j ≡ length es) × (r : Race locks (es ++ e ∷ []) word i (length es)) × (r.second ≡ e)). other (sym t.1.word_is ∙ ap (λ (x : Event). x.word) t.2))
          (race_place es e r)
      found_stays (Some line) h = (h.0, reported_still es e line h.1)

-- ---- an event on the word
module _ {locks : Bool} (es : List Event) (e : Event) (last cores : ℕ) (clock : List ℕ) (s : Word)
    (schedule : IsSchedule cores es) (below : AllBelow es e.turn) (later : last < e.turn)
    (covers : Covers (es ++ e ∷ []) e.turn clock (Past locks es e)) (ok : WordOk locks es last e.word s) where
  -- an old event that the new one races with is a conflicting that the clock does not cover
  conflicting : (i : ℕ) (r : Race locks (es ++ e ∷ []) e.word i (length es)) → r.second ≡ e → (slice_get es i ≡ Some r.first) × (r.first.core < cores) × (r.first.core ≢ e.core) × (slice_index clock r.first.core < r.first.turn) × (r.first.turn ≤ (conflicting_of e.kind s r.first.core).turn)
  conflicting i r q =
      let old : slice_get es i ≡ Some r.first = at_below es e i r.first r.later r.at_first in (
        old,
        schedule.in_cores i r.first old,
        (λ c. r.conflict.cores (c ∙ ap (λ (x : Event). x.core) (sym q))),
        ⊎_elim
            (λ (t : r.first.turn ≤ slice_index clock r.first.core). absurd (⊎_elim
            (λ (z : i ≡ length es). let l = r.later in omega arith)
            (λ (z : Before locks (es ++ e ∷ []) i (length es)). r.unordered z)
            (covers.told i r.first r.at_first t)))
            (λ (t : slice_index clock r.first.core < r.first.turn). t)
            (le_or_lt r.first.turn (slice_index clock r.first.core)),
        (last_conflicting es e.word r.first.core e.kind s (λ k. ok.lasts r.first.core k)).most i r.first old (record {
          same_word = r.conflict.words ∙ r.word_is;
          same_core = refl;
          kinds = subst (λ (x : Event). IsTrue (kinds_conflict r.first.kind x.kind)) q r.conflict.kinds;
        }),
      )

  -- where there is none, the new event races with none
  none_new : NoRace cores clock s e → (i : ℕ) (r : Race locks (es ++ e ∷ []) e.word i (length es)) → r.second ≡ e → ⊥
  none_new free i r q = let x = conflicting i r q in let le = free r.first.core x.1 x.2 in let a = x.3 in let b = x.4 in omega arith

  -- the best conflicting races with the new event, and is the greatest that does
  best_new : (line : Line) → IsLatestRace cores clock s e line → (i : ℕ) × (r : Race locks (es ++ e ∷ []) e.word i (length es)) × (r.second ≡ e) × (r.first.turn ≡ line.first_turn) × (r.first.core ≡ line.first_core) × (r.first.pc ≡ line.first_pc) × ((a : ℕ) → Race locks (es ++ e ∷ []) e.word a (length es) → a ≤ i)
  best_new line best =
      let ahead = best.ahead in let turn_is = best.turn in
      let w : Witness es (Conflicting e.word line.first_core e.kind) (conflicting_of e.kind s line.first_core).turn = (last_conflicting es e.word line.first_core e.kind s (λ k. ok.lasts line.first_core k)).some (omega arith) in
      let at : slice_get (es ++ e ∷ []) w.i ≡ Some w.e = at_old es e w.i w.e w.at in
      let turn : w.e.turn ≡ line.first_turn = w.turn_is ∙ sym turn_is in (
        w.i,
        record {
          first = w.e;
          second = e;
          at_first = at;
          at_second = at_new es e;
          later = within es w.i w.e w.at;
          word_is = refl;
          conflict = record { cores = λ c. best.other (sym w.holds.same_core ∙ c); words = w.holds.same_word; kinds = w.holds.kinds };
          unordered = λ b. let x = covers.counted w.i w.e at (inr b) in let y : slice_index clock w.e.core ≡ slice_index clock line.first_core = ap (slice_index clock) w.holds.same_core in omega arith;
        },
        refl,
        turn,
        w.holds.same_core,
        conflicting_placed es e.word line.first_core e.kind s (λ k. ok.places line.first_core k) w.i w.e w.at w.holds.same_word w.holds.same_core w.turn_is ∙ sym best.first_pc,
        λ a r. greatest w.i w.e w.at turn a r (same_at (es ++ e ∷ []) (length es) r.second e r.at_second (at_new es e)),
      )
    where
      greatest : (i : ℕ) (f : Event) → slice_get es i ≡ Some f → f.turn ≡ line.first_turn → (a : ℕ) (r : Race locks (es ++ e ∷ []) e.word a (length es)) → r.second ≡ e → a ≤ i
      greatest i f at turn a r q =
          let x = conflicting a r q in let old = x.0 in let up = x.3 in let le = x.4 in
          let most = best.most r.first.core x.1 x.2 (omega arith) in
          ⊎_elim (λ (t : a ≤ i). t) (λ (t : i < a). let z = schedule.rising i a f r.first at old t in absurd (omega arith)) (le_or_lt a i)

  found_next : (old new : Option Line) → FoundOk locks es e.word old → ((line : Line) → old ≡ Some line → new ≡ Some line) → (old ≡ None → new ≡ None → NoRace cores clock s e) → ((line : Line) → old ≡ None → new ≡ Some line → IsLatestRace cores clock s e line) → FoundOk locks (es ++ e ∷ []) e.word new
  found_next (Some line) new h kept none some = subst (FoundOk locks (es ++ e ∷ []) e.word) (sym (kept line refl)) (h.0, reported_still es e line h.1)
  found_next None None h kept none some = λ i j r. ⊎_elim
      (λ (t : j < length es). h i j (race_back es e r t))
      (λ (t : (j ≡ length es) × (r : Race locks (es ++ e ∷ []) e.word i (length es)) × (r.second ≡ e)). none_new (none refl refl) i t.1 t.2)
      (race_place es e r)
  found_next None (Some line) h kept none some =
      let best = some line refl refl in let b = best_new line best in
      (best.word, report line best b.0 b.1 b.2 b.3 b.4 b.5 b.6)
    where
      report : (line : Line) → IsLatestRace cores clock s e line → (i : ℕ) (r : Race locks (es ++ e ∷ []) e.word i (length es)) → r.second ≡ e → r.first.turn ≡ line.first_turn → r.first.core ≡ line.first_core → r.first.pc ≡ line.first_pc → ((a : ℕ) → Race locks (es ++ e ∷ []) e.word a (length es) → a ≤ i) → IsFirst locks (es ++ e ∷ []) line
      report line best i r q turn core pc greatest = let r' = subst (λ (x : ℕ). (q : Race locks (es ++ e ∷ []) x i (length es)) × (q.second ≡ e) × (q.first.turn ≡ line.first_turn) × (q.first.core ≡ line.first_core) × (q.first.pc ≡ line.first_pc)) (sym best.word) (r, q, turn, core, pc) in record {
        i = i;
        j = length es;
        race = r'.0;
        least = λ a b x. ⊎_elim
            (λ (t : b < length es). absurd (h a b (subst (λ (y : ℕ). Race locks es y a b) best.word (race_back es e x t))))
            (λ (t : (b ≡ length es) × (y : Race locks (es ++ e ∷ []) line.word a (length es)) × (y.second ≡ e)). let z = t.0 in omega arith)
            (race_place es e x);
        greatest = λ a x. greatest a (subst (λ (y : ℕ). Race locks (es ++ e ∷ []) y a (length es)) best.word x);
        first_turn = sym r'.2;
        first_core = sym r'.3;
        second_turn = best.second_turn ∙ ap (λ (x : Event). x.turn) (sym r'.1);
        second_core = best.second_core ∙ ap (λ (x : Event). x.core) (sym r'.1);
        first_pc = sym r'.4;
        second_pc = best.second_pc ∙ ap (λ (x : Event). x.pc) (sym r'.1);
      }

  -- of each core and kind the last access is the new event, or as before
  own_or_kept : (new : Word) → NextWord locks cores e clock s new → (core : ℕ) (kind : AccessKind)
      → ((last_at kind new core ≡ last_of_event e) × (kind ≡ e.kind) × (core ≡ e.core)) ⊎ ((last_at kind new core ≡ last_at kind s core) × ((kind ≡ e.kind) → (core ≡ e.core) → ⊥))
  own_or_kept new n core kind = ⊎_elim
      (λ (is : kind ≡ e.kind). ⊎_elim
      (λ (same : core ≡ e.core). inl (ap (λ (k : AccessKind). last_at k new core) is ∙ ap (last_at e.kind new) same ∙ n.last_is, is, same))
      (λ (apart : core ≢ e.core). inr (ap (λ (k : AccessKind). last_at k new core) is ∙ n.last_others core apart ∙ ap (λ (k : AccessKind). last_at k s core) (sym is), λ _ c. apart c))
      (same_or_not core e.core))
      (λ (apart : kind ≢ e.kind). inr (ap (λ (xs : List Last). slice_index_or xs core no_last) (n.kinds_kept kind apart), λ k _. apart k))
      (kinds_same kind e.kind)

  -- an old event is not made in the new turn
  old_placed : (new : Word) → NextWord locks cores e clock s new → (core : ℕ) (kind : AccessKind) (i : ℕ) (f : Event) → slice_get es i ≡ Some f → f.word ≡ e.word → f.core ≡ core
      → f.turn ≡ (last_at kind new core).turn → f.pc ≡ (last_at kind new core).pc
  old_placed new n core kind i f at same_word same_core turn = ⊎_elim
      (λ (t : (last_at kind new core ≡ last_of_event e) × (kind ≡ e.kind) × (core ≡ e.core)). let b = below i f at in let z : (last_at kind new core).turn ≡ e.turn = ap (λ (x : Last). x.turn) t.0 in absurd (omega arith))
      (λ (t : (last_at kind new core ≡ last_at kind s core) × ((kind ≡ e.kind) → (core ≡ e.core) → ⊥)).
      ok.places core kind i f at same_word same_core (turn ∙ ap (λ (x : Last). x.turn) t.0) ∙ sym (ap (λ (x : Last). x.pc) t.0))
      (own_or_kept new n core kind)

  -- the turn of a last access is below the new one
  last_below : (core : ℕ) (kind : AccessKind) → (last_at kind s core).turn < e.turn
  last_below core kind = ⊎_elim
      (λ (le : (last_at kind s core).turn ≤ 0). omega arith)
      (λ (some : 0 < (last_at kind s core).turn). let w = (ok.lasts core kind).some some in let b = below w.i w.e w.at in let z = w.turn_is in omega arith)
      (le_or_lt (last_at kind s core).turn 0)

  -- the new event is made in no old turn
  new_placed : (new : Word) → NextWord locks cores e clock s new → (core : ℕ) (kind : AccessKind) (f : Event) → f ≡ e
      → f.turn ≡ (last_at kind new core).turn → f.pc ≡ (last_at kind new core).pc
  new_placed new n core kind f is turn = ⊎_elim
      (λ (t : (last_at kind new core ≡ last_of_event e) × (kind ≡ e.kind) × (core ≡ e.core)). ap (λ (x : Event). x.pc) is ∙ sym (ap (λ (x : Last). x.pc) t.0))
      (λ (t : (last_at kind new core ≡ last_at kind s core) × ((kind ≡ e.kind) → (core ≡ e.core) → ⊥)).
      let b = last_below core kind in let y : f.turn ≡ e.turn = ap (λ (x : Event). x.turn) is in let z : (last_at kind new core).turn ≡ (last_at kind s core).turn = ap (λ (x : Last). x.turn) t.0 in absurd (omega arith))
      (own_or_kept new n core kind)

  pub word_next : (new : Word) → NextWord locks cores e clock s new → WordOk locks (es ++ e ∷ []) e.turn e.word new
  word_next new n = record {
    released = ⊎_elim
        (λ (is : IsTrue (is_release locks e.kind)). released_clock es e last s.released clock new.released later is ok.released covers (λ core. n.release_joined core is))
        (λ (other : is_release locks e.kind ≡ false). subst (λ (x : List ℕ). Covers (es ++ e ∷ []) e.turn x (Reaches locks (es ++ e ∷ []) (Releases locks e.word))) (sym (n.release_kept other)) (clock_stays es e last s.released (Releases locks e.word) later (λ h. kept_apart other h.kind) ok.released))
        (true_or_false (is_release locks e.kind));
    lasts = λ core kind. ⊎_elim
        (λ (t : (last_at kind new core ≡ last_of_event e) × (kind ≡ e.kind) × (core ≡ e.core)). subst (λ (x : Last). IsLatest (es ++ e ∷ []) (IsOf e.word core kind) x.turn) (sym t.0) (latest_new es e (IsOf e.word core kind) below (record { same_word = refl; same_core = sym t.2; same_kind = sym t.1 })))
        (λ (t : (last_at kind new core ≡ last_at kind s core) × ((kind ≡ e.kind) → (core ≡ e.core) → ⊥)). subst (λ (x : Last). IsLatest (es ++ e ∷ []) (IsOf e.word core kind) x.turn) (sym t.0) (latest_stays es e (IsOf e.word core kind) (last_at kind s core).turn (λ h. t.1 (sym h.same_kind) (sym h.same_core)) (ok.lasts core kind)))
        (own_or_kept new n core kind);
    places = λ core kind i f at same_word same_core turn. ⊎_elim
        (λ (t : slice_get es i ≡ Some f). old_placed new n core kind i f t same_word same_core turn)
        (λ (t : (i ≡ length es) × (f ≡ e)). new_placed new n core kind f t.1 turn)
        (at_which es e i f at);
    found = found_next s.found new.found ok.found n.found_kept n.found_none n.found_some;
    synchronizes = ⊎_elim
        (λ (plain : IsTrue (is_plain e.kind)). subst (SynchronizesOk (es ++ e ∷ []) e.word) (sym (n.plain plain)) (synchronizes_stays es e e.word s.synchronizes (λ _ k. kept_apart k plain) ok.synchronizes))
        (λ (other : is_plain e.kind ≡ false). subst (SynchronizesOk (es ++ e ∷ []) e.word) (sym (n.synchronizes other)) (record { i = length es; e = e; at = at_new es e; word_is = refl; kind = other }))
        (true_or_false (is_plain e.kind));
  }
