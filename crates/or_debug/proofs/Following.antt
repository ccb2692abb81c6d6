-- A schedule that is followed one turn further.
use Rattle.std.proofs.Common.{◌≡◌, ◌∙◌, refl, sym, ap, subst, ℕ, ◌+◌, ◌-◌, ◌<◌, List, [], ◌∷◌, ◌++◌, length, take, drop, get_or, Some, None, Result, Ok, Err, add-one, length-append, arith}
use Rattle.std.specs.Prelude.{Option, slice_get, slice_index, option_and_then}
use Rattle.std.proofs.Math.Seq.{take-suc}
use Rattle.std.proofs.lemmas.List.{take-append-drop, drop-append-le, drop-drop, length-drop}
use Rattle.circular_buffer.specs.Buffer.{Buffer, buffer, keep_last}
use Rattle.or_model.specs.Core.{Core}
use Rattle.or_model.specs.Turn.{Board, board_turned, and_then, replay}
use Rattle.or_bus.specs.State.{BusState}
use Rattle.or_bus.specs.declared.access.Access.{Access}
use Rattle.or_replay.specs.Board.{IsBoard, IsTurned}
use Rattle.or_replay.specs.Watching.{board_access, IsObserved}
use Rattle.or_replay.specs.declared.board.Refused.{Refused}
use Rattle.or_replay.proofs.Replaying.{replay_behind}
use Rattle.or_debug.specs.declared.turns.MadeTurn.{MadeTurn}
use Rattle.or_debug.specs.Turns.{after, pc_of, pc_in, access_made, word_stored, stored_in, turn_made, turns_made, last_of}
use Rattle.or_debug.specs.Standing.{CanFollow, IsAfter}

and_then_some : (first : Option Board) (next : Board → Option Board) (last : Board) → and_then first next ≡ Some last → (middle : Board) × (first ≡ Some middle)
and_then_some None next last is = absurd (let b : ⊥ = cc in b)
and_then_some (Some middle) next last is = (middle, refl)

-- a schedule in two parts
replay_parts_by : (first : Option Board) (xs ys : List ℕ) → ((next : Board) → replay next (xs ++ ys) ≡ and_then (replay next xs) (λ middle. replay middle ys))
    → and_then first (λ next. replay next (xs ++ ys)) ≡ and_then (and_then first (λ next. replay next xs)) (λ middle. replay middle ys)
replay_parts_by None xs ys later = refl
replay_parts_by (Some next) xs ys later = later next

replay_parts : (start : Board) (xs ys : List ℕ) → replay start (xs ++ ys) ≡ and_then (replay start xs) (λ middle. replay middle ys)
replay_parts start [] ys = refl
replay_parts start (c ∷ xs) ys = replay_parts_by (board_turned start c) xs ys (λ next. replay_parts next xs ys)

-- where all turns can be made, so can the first ones
front_follows : (start : Board) (turns : List ℕ) (n : ℕ) → CanFollow start turns → (now : Board) × (after start turns n ≡ Some now)
front_follows start turns n can =
    and_then_some (after start turns n) (λ middle. replay middle (drop n turns)) can.0
    (sym (replay_parts start (take n turns) (drop n turns)) ∙ ap (replay start) (take-append-drop n turns) ∙ can.1)

-- the turn behind the first so many
next_after : (start now : Board) (turns : List ℕ) (n : ℕ) → after start turns n ≡ Some now → n < length turns → after start turns (n + 1) ≡ board_turned now (slice_index turns n)
next_after start now turns n before inside =
    ap (after start turns) (add-one n) ∙ ap (replay start) (take-suc turns n 0 inside) ∙ replay_behind start (take n turns) (get_or turns n 0)
    ∙ ap (λ b. and_then b (λ last. board_turned last (get_or turns n 0))) before

turned_some : {T : Type 0} (turned : Option Board) (next : Board) (result : Result T Refused) (cores : List Core) (bus : BusState) → turned ≡ Some next → IsTurned turned result cores bus → IsBoard cores bus next
turned_some None next result cores bus is made = absurd (let b : ⊥ = cc in b)
turned_some (Some other) next (Err refused) cores bus is made = absurd made
turned_some (Some other) next (Ok done) cores bus is made = let same : other ≡ next = cc in subst (IsBoard cores bus) same made

pub one_further : {T : Type 0} (start : Board) (turns : List ℕ) (n : ℕ) (cores new_cores : List Core) (bus new_bus : BusState) (result : Result T Refused)
    → CanFollow start turns → IsAfter start turns n cores bus → n < length turns
    → ((board : Board) → IsBoard cores bus board → IsTurned (board_turned board (slice_index turns n)) result new_cores new_bus)
    → IsAfter start turns (n + 1) new_cores new_bus
one_further start turns n cores new_cores bus new_bus result can is inside turned =
    let next = front_follows start turns (n + 1) can in
    let made = sym (next_after start is.now turns n is.reached inside) ∙ next.1 in
    record {
      now = next.0;
      reached = next.1;
      is = turned_some (board_turned is.now (slice_index turns n)) next.0 result new_cores new_bus made (turned is.now is.is);
      within = omega arith;
    }

-- the last ones of a list that is one longer
last_longer : (k : ℕ) (xs : List MadeTurn) (x : MadeTurn) → last_of k (last_of k xs ++ x ∷ []) ≡ last_of k (xs ++ x ∷ [])
last_longer k xs x =
    let m = length xs - k in
    let inner : drop m xs ++ x ∷ [] ≡ drop m (xs ++ x ∷ []) = sym (drop-append-le m xs (x ∷ []) (omega arith)) in
    let long : length (drop m xs ++ x ∷ []) ≡ length xs - m + 1 = omega (arith, length-append (drop m xs) (x ∷ []), length-drop m xs) in
    let whole : length (xs ++ x ∷ []) ≡ length xs + 1 = length-append xs (x ∷ []) in
    let place : m + (length (drop m xs ++ x ∷ []) - k) ≡ length (xs ++ x ∷ []) - k = omega (arith, long, whole) in
    ap (drop (length (drop m xs ++ x ∷ []) - k)) inner ∙ drop-drop (length (drop m xs ++ x ∷ []) - k) m (xs ++ x ∷ []) ∙ ap (λ n. drop n (xs ++ x ∷ [])) place

pub turns_longer : (start : Board) (turns : List ℕ) (n : ℕ) → turns_made start turns (n + 1) ≡ turns_made start turns n ++ turn_made start turns n ∷ []
turns_longer start turns n = ap (turns_made start turns) (add-one n)

pub ring_further : (start : Board) (turns : List ℕ) (n : ℕ) (old new : Buffer MadeTurn) (made : MadeTurn) → old ≡ buffer (last_of 64 (turns_made start turns n)) 64
    → new ≡ buffer (keep_last old.capacity (old.items ++ made ∷ [])) old.capacity → made ≡ turn_made start turns n
    → new ≡ buffer (last_of 64 (turns_made start turns (n + 1))) 64
ring_further start turns n old new made before pushed is =
    pushed ∙ ap (λ (b : Buffer MadeTurn). buffer (keep_last b.capacity (b.items ++ made ∷ [])) b.capacity) before
    ∙ ap (λ l. buffer l 64) (last_longer 64 (turns_made start turns n) made)
    ∙ ap (λ (m : MadeTurn). buffer (last_of 64 (turns_made start turns n ++ m ∷ [])) 64) is
    ∙ ap (λ l. buffer (last_of 64 l) 64) (sym (turns_longer start turns n))

-- the word that a turn stored to, as it was observed
stored_some : (turned : Option Board) (next board : Board) (c : ℕ) (result : Result (Option Access) Refused) (cores : List Core) (bus : BusState) → turned ≡ Some next
    → IsTurned turned result cores bus → IsObserved board c result → stored_in result ≡ word_stored (board_access board c)
stored_some None next board c result cores bus is made observed = absurd (let b : ⊥ = cc in b)
stored_some (Some other) next board c (Err refused) cores bus is made observed = absurd made
stored_some (Some other) next board c (Ok access) cores bus is made observed = ap word_stored observed

pub stored_further : (start : Board) (turns : List ℕ) (n : ℕ) (cores new_cores : List Core) (bus new_bus : BusState) (result : Result (Option Access) Refused)
    → CanFollow start turns → IsAfter start turns n cores bus → n < length turns
    → ((board : Board) → IsBoard cores bus board → IsTurned (board_turned board (slice_index turns n)) result new_cores new_bus)
    → ((board : Board) → IsBoard cores bus board → IsObserved board (slice_index turns n) result)
    → stored_in result ≡ word_stored (access_made start turns n)
stored_further start turns n cores new_cores bus new_bus result can is inside turned observed =
    let c = slice_index turns n in
    let next = front_follows start turns (n + 1) can in
    let made = sym (next_after start is.now turns n is.reached inside) ∙ next.1 in
    stored_some (board_turned is.now c) next.0 is.now c result new_cores new_bus made (turned is.now is.is) (observed is.now is.is)
    ∙ ap (λ (o : Option Board). word_stored (option_and_then (λ board. board_access board c) o)) (sym is.reached)

-- the turn that was made, by the pc that it left and the word that it stored to
pub made_further : (start : Board) (turns : List ℕ) (n pc : ℕ) (stored : Option ℕ) (cores : List Core) (bus : BusState) → IsAfter start turns (n + 1) cores bus
    → pc ≡ pc_of (slice_get cores (slice_index turns n)) → stored ≡ word_stored (access_made start turns n)
    → record { turn = n + 1; core = slice_index turns n; pc = pc; stored = stored } ≡ turn_made start turns n
made_further start turns n pc stored cores bus is at was_stored =
    let core = slice_index turns n in
    let same : pc ≡ pc_in (after start turns (n + 1)) core =
    at ∙ ap (λ l. pc_of (slice_get l core)) is.is.same_cores ∙ sym (ap (λ o. pc_in o core) is.reached) in
    ap (λ p. record { turn = n + 1; core = core; pc = p; stored = stored }) same
    ∙ ap (λ s. record { turn = n + 1; core = core; pc = pc_in (after start turns (n + 1)) core; stored = s }) was_stored
