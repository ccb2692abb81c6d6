-- A schedule of which one turn more is seen, with its access.
use Rattle.std.proofs.Common.{Bool, true, false, inl, inr, ◌⊎◌, ◌≡◌, ◌∙◌, refl, sym, ap, subst, ℕ, ◌+◌, ◌<◌, ◌≤◌, List, [], ◌∷◌, ◌++◌, length, take, Some, None, Ok, add-one, append-nil, length-set, arith}
use Rattle.std.specs.Prelude.{Option, slice_get, slice_set, slice_index, option_and_then, option_map, option_to_list}
use Rattle.std.proofs.Math.Seq.{take-suc}
use Rattle.or_model.specs.Core.{Core}
use Rattle.or_model.specs.Turn.{Board, board_turned, board_turned_by, running, replay, turn}
use Rattle.or_bus.specs.State.{BusState}
use Rattle.or_replay.specs.declared.watching.Placed.{Placed}
use Rattle.or_replay.specs.Board.{IsBoard, IsTurned}
use Rattle.or_replay.specs.Watching.{board_placed}
use Rattle.or_words.specs.declared.Config.{Config}
use Rattle.or_replay.specs.Start.{start}
use Rattle.or_replay.proofs.Reset.{numbered-reset_cores, length-reset_cores}
use Rattle.or_replay.proofs.Replaying.{replay_one_more}
use Rattle.or_race.specs.declared.races.Races.{Races}
use Rattle.or_race.specs.Event.{Event}
use Rattle.or_race.specs.Records.{Records, cores_of, last_of}
use Rattle.or_recorded.specs.Events.{event_at, access_made, events_made}
use Rattle.or_recorded.specs.declared.racing.Accesses.{Accesses}
use Rattle.or_recorded.specs.Racing.{AreNumbered, AreRaces, SeesRaces}
use Rattle.or_recorded.proofs.Accesses.{turned-numbered, board_placed-core}

-- a turn that was made, as the definitions make it
pub made_next : {T : Type 0} (turned : Option Board) (done : T) (cores : List Core) (bus : BusState) → IsTurned turned (Ok done) cores bus
    → (board : Board) × (turned ≡ Some board) × IsBoard cores bus board
made_next None done cores bus is = absurd is
made_next (Some next) done cores bus is = (next, refl, is)

-- a turn keeps the number of cores
turned_by-length : (now next : Board) (c : ℕ) (core : Option Core) → board_turned_by now c core ≡ Some next → length next.cores ≡ length now.cores
turned_by-length now next c None is = absurd (let e : ⊥ = cc in e)
turned_by-length now next c (Some core) is =
    let made : Board = record { cores = slice_set now.cores c (turn core now.world).core; world = (turn core now.world).world } in
    let same : made ≡ next = cc in
    sym (ap (λ (b : Board). length b.cores) same) ∙ length-set now.cores c (turn core now.world).core

turned-length : (now next : Board) (c : ℕ) → board_turned now c ≡ Some next → length next.cores ≡ length now.cores
unfolding board_turned
turned-length now next c is = turned_by-length now next c (running (slice_get now.cores c)) is

-- the cores of the start are in order of number, as many as the settings say
start-numbered : (config : Config) (image input : List ℕ) → AreNumbered (start config image input).cores
unfolding start
start-numbered config image input = numbered-reset_cores config config.cores

pub start-length : (config : Config) (image input : List ℕ) → length (start config image input).cores ≡ config.cores
unfolding start
start-length config image input = length-reset_cores config config.cores

-- the events of one turn more
events_longer : (start now : Board) (turns : List ℕ) (n : ℕ) (found : Option Placed) → replay start (take n turns) ≡ Some now → found ≡ board_placed now (slice_index turns n)
    → events_made start turns (n + 1) ≡ events_made start turns n ++ option_to_list (option_map (event_at (n + 1)) found)
events_longer start now turns n found reached is =
    let made : access_made start turns n ≡ found = ap (option_and_then (λ board. board_placed board (slice_index turns n))) reached ∙ sym is in
    ap (events_made start turns) (add-one n) ∙ ap (λ a. events_made start turns n ++ option_to_list (option_map (event_at (n + 1)) a)) made

-- the access of a turn was added, or memory ran out
abbrev pub IsAdded : Accesses → Accesses → ℕ → Placed → Type 0
IsAdded old new turn a =
    (new.lost ≡ true) ⊎ (((locks : Bool) (es : List Event) → Records locks old.races es → Records locks new.races (es ++ event_at turn a ∷ [])) × (last_of new.races ≡ turn) × (cores_of new.races ≡ cores_of old.races))

module _ (locks : Bool) where
  -- the turn at a place is made, with this access or none, and it is recorded
  pub followed_on : (start : Board) (turns : List ℕ) (n : ℕ) (found : Option Placed) (old new : Races) (cores new_cores : List Core) (bus new_bus : BusState)
      → n < length turns → AreRaces locks start turns n old cores bus
      → ((board : Board) → IsBoard cores bus board → IsTurned (board_turned board (slice_index turns n)) (Ok found) new_cores new_bus)
      → ((board : Board) → IsBoard cores bus board → found ≡ board_placed board (slice_index turns n))
      → ((es : List Event) → Records locks old es → Records locks new (es ++ option_to_list (option_map (event_at (n + 1)) found)))
      → last_of new ≤ n + 1 → cores_of new ≡ cores_of old → AreRaces locks start turns (n + 1) new new_cores new_bus
  followed_on start turns n found old new cores new_cores bus new_bus inside is turned access records last many =
      let c = slice_index turns n in
      let made = made_next (board_turned is.now c) found new_cores new_bus (turned is.now is.is) in
      let next : Board = made.0 in
      record {
        now = next;
        reached = ap (λ k. replay start (take k turns)) (add-one n) ∙ ap (replay start) (take-suc turns n 0 inside)
            ∙ replay_one_more start is.now next (take n turns) c is.reached made.1;
        is = made.2;
        numbered = turned-numbered is.now next c is.numbered made.1;
        records = subst (Records locks new) (sym (events_longer start is.now turns n found is.reached (access is.now is.is))) (records (events_made start turns n) is.records);
        last = last;
        many = many ∙ is.many ∙ ap length is.is.same_cores ∙ sym (turned-length is.now next c made.1) ∙ sym (ap length made.2.same_cores);
      }

  -- an access is recorded, or none
  pub some_more : (n : ℕ) (found : Option Placed) (a : Placed) (old new : Races) → found ≡ Some a
      → ((es : List Event) → Records locks old es → Records locks new (es ++ event_at (n + 1) a ∷ [])) → (es : List Event) → Records locks old es → Records locks new (es ++ option_to_list (option_map (event_at (n + 1)) found))
  some_more n found a old new is more es records =
      subst (λ (f : Option Placed). Records locks new (es ++ option_to_list (option_map (event_at (n + 1)) f))) (sym is) (more es records)

  pub none_more : (n : ℕ) (found : Option Placed) (races : Races) → found ≡ None → (es : List Event) → Records locks races es → Records locks races (es ++ option_to_list (option_map (event_at (n + 1)) found))
  none_more n found races is es records =
      subst (λ (f : Option Placed). Records locks races (es ++ option_to_list (option_map (event_at (n + 1)) f))) (sym is) (subst (Records locks races) (sym (append-nil es)) records)

  -- the access is one of the board's cores
  pub access_within : (start : Board) (turns : List ℕ) (n : ℕ) (a : Placed) (races : Races) (cores : List Core) (bus : BusState) → AreRaces locks start turns n races cores bus
      → ((board : Board) → IsBoard cores bus board → Some a ≡ board_placed board (slice_index turns n)) → slice_index turns n < length cores → a.access.core < cores_of races
  access_within start turns n a races cores bus is access inside =
      let own : a.access.core ≡ slice_index turns n = board_placed-core is.now (slice_index turns n) a is.numbered (sym (access is.now is.is)) in
      omega (arith, own, inside, is.many)

  not_lost : (lost : Bool) → lost ≡ false → lost ≡ true → ⊥
  not_lost lost kept gone = let e : ⊥ = cc in e

  -- a watcher that has not lost its races
  pub races_of : (watch : Accesses) (start : Board) (turns : List ℕ) (n : ℕ) (cores : List Core) (bus : BusState) → watch.lost ≡ false → SeesRaces locks watch start turns n cores bus
      → AreRaces locks start turns n watch.races cores bus
  races_of watch start turns n cores bus kept (inl lost) = absurd (not_lost watch.lost kept lost)
  races_of watch start turns n cores bus kept (inr are) = are

  pub add_within : (watch : Accesses) → watch.lost ≡ false → (start : Board) (turns : List ℕ) (n : ℕ) (a : Placed) (cores : List Core) (bus : BusState)
      → SeesRaces locks watch start turns n cores bus → ((board : Board) → IsBoard cores bus board → Some a ≡ board_placed board (slice_index turns n))
      → slice_index turns n < length cores → a.access.core < cores_of watch.races
  add_within watch kept start turns n a cores bus seen access inside =
      access_within start turns n a watch.races cores bus (races_of watch start turns n cores bus kept seen) access inside

  pub seen_some : (start : Board) (turns : List ℕ) (n : ℕ) (found : Option Placed) (a : Placed) (old new : Accesses) (cores new_cores : List Core) (bus new_bus : BusState)
      → n < length turns → old.lost ≡ false → SeesRaces locks old start turns n cores bus
      → ((board : Board) → IsBoard cores bus board → IsTurned (board_turned board (slice_index turns n)) (Ok found) new_cores new_bus)
      → ((board : Board) → IsBoard cores bus board → found ≡ board_placed board (slice_index turns n)) → found ≡ Some a → IsAdded old new (n + 1) a
      → SeesRaces locks new start turns (n + 1) new_cores new_bus
  seen_some start turns n found a old new cores new_cores bus new_bus inside kept seen turned access is (inl lost) = inl lost
  seen_some start turns n found a old new cores new_cores bus new_bus inside kept seen turned access is (inr added) =
      let last : last_of new.races ≤ n + 1 = omega (arith, added.1) in
      inr (followed_on start turns n found old.races new.races cores new_cores bus new_bus inside (races_of old start turns n cores bus kept seen) turned access
      (some_more n found a old.races new.races is (added.0 locks)) last added.2)

  pub seen_none : (start : Board) (turns : List ℕ) (n : ℕ) (found : Option Placed) (watch : Accesses) (cores new_cores : List Core) (bus new_bus : BusState)
      → n < length turns → watch.lost ≡ false → SeesRaces locks watch start turns n cores bus
      → ((board : Board) → IsBoard cores bus board → IsTurned (board_turned board (slice_index turns n)) (Ok found) new_cores new_bus)
      → ((board : Board) → IsBoard cores bus board → found ≡ board_placed board (slice_index turns n)) → found ≡ None
      → SeesRaces locks watch start turns (n + 1) new_cores new_bus
  seen_none start turns n found watch cores new_cores bus new_bus inside kept seen turned access is =
      let are = races_of watch start turns n cores bus kept seen in
      let last : last_of watch.races ≤ n + 1 = omega (arith, are.last) in
      inr (followed_on start turns n found watch.races watch.races cores new_cores bus new_bus inside are turned access (none_more n found watch.races is) last refl)

  -- before the first turn
  pub none_seen : (config : Config) (image input turns : List ℕ) (races : Races) (cores : List Core) (bus : BusState) → IsBoard cores bus (start config image input)
      → Records locks races [] → last_of races ≡ 0 → cores_of races ≡ config.cores → AreRaces locks (start config image input) turns 0 races cores bus
  none_seen config image input turns races cores bus is records last many = record {
    now = start config image input;
    reached = refl;
    is = is;
    numbered = start-numbered config image input;
    records = records;
    last = omega (arith, last);
    many = many ∙ sym (start-length config image input) ∙ ap length (sym is.same_cores);
  }
