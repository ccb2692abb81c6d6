-- Watchpoints and store points that have seen RAM.
use Rattle.std.proofs.Common.{◌≡◌, ◌∙◌, refl, sym, ap, subst, ℕ, zero, suc, ◌+◌, ◌<◌, List, [], ◌∷◌, ◌++◌, length, length-append, take, drop, map, get_or, add-one, append_assoc, None, arith}
use Rattle.std.proofs.Math.ListN.{set}
use Rattle.std.proofs.lemmas.List.Folds.{flat_map-map}
use Rattle.std.proofs.lemmas.List.{map-append}
use Rattle.std.specs.List.{flat_map}
use Rattle.std.specs.Prelude.{Option, min}
use Rattle.or_model.specs.Core.{Core}
use Rattle.or_model.specs.Turn.{Board}
use Rattle.or_bus.specs.State.{BusState}
use Rattle.or_bus.specs.Answers.{word_shown}
use Rattle.or_replay.specs.Board.{IsBoard}
use Rattle.or_debug.specs.declared.turns.MadeTurn.{MadeTurn}
use Rattle.or_replay.specs.declared.stepping.Breakpoint.{Breakpoint}
use Rattle.or_debug.specs.declared.points.Watchpoint.{Watchpoint}
use Rattle.or_script.specs.declared.command.Command.TheVariants.{Turn}
use Rattle.or_debug.specs.declared.debugger.Debugger.{Debugger}
use Rattle.or_debug.specs.declared.stops.Stops.{Stops}
use Rattle.or_debug.specs.Turns.{after, turn_made}
use Rattle.or_debug.specs.Points.{Points}
use Rattle.or_debug.specs.Hits.{break_line, change_line, watch_line, store_words, store_line, hits_of, hit_lines, ram_in}
use Rattle.or_debug.specs.Session.{at_line}
use Rattle.or_debug.specs.Standing.{IsAfter, Reaches, IsMade, IsFollowed, IsAnswered, Stands, AllSeen, HasSeen, HasLooked, seen, seen_line, seen_store, addresses, points_of}

seen_suc : (f : Watchpoint → Watchpoint) (old : List Watchpoint) (i : ℕ) (d : Watchpoint) → i < length old
    → set (map f (take i old) ++ drop i old) i (f (get_or (map f (take i old) ++ drop i old) i d)) ≡ map f (take (suc i) old) ++ drop (suc i) old
seen_suc f [] i d inside = absurd (omega arith)
seen_suc f (point ∷ old) zero d inside = refl
seen_suc f (point ∷ old) (suc i) d inside = ap (λ l. f point ∷ l) (seen_suc f old i d (omega arith))

-- one watchpoint more has seen it
pub seen_more : (f : Watchpoint → Watchpoint) (old points : List Watchpoint) (i : ℕ) (d looked : Watchpoint) → points ≡ map f (take i old) ++ drop i old → i < length old
    → looked ≡ f (get_or points i d) → set points i looked ≡ map f (take (i + 1) old) ++ drop (i + 1) old
seen_more f old points i d looked before inside is =
    ap (set points i) is ∙ ap (λ l. set l i (f (get_or l i d))) before ∙ seen_suc f old i d inside
    ∙ ap (λ n. map f (take n old) ++ drop n old) (sym (add-one i))

-- what points write that had seen RAM
seen_lines : (lines : ℕ → Option ℕ → List ℕ) (before : List ℕ) (points : List Watchpoint) → AllSeen before points
    → flat_map (λ point. lines point.address point.word) points ≡ flat_map (λ address. lines address (word_shown before address)) (addresses points)
seen_lines lines before points are_seen =
    ap (flat_map (λ point. lines point.address point.word)) (sym are_seen) ∙ flat_map-map (λ point. lines point.address point.word) (seen before) points
    ∙ sym (flat_map-map (λ address. lines address (word_shown before address)) (λ point. point.address) points)

same_addresses : (ram : List ℕ) (points : List Watchpoint) → addresses (map (seen ram) points) ≡ addresses points
same_addresses ram [] = refl
same_addresses ram (point ∷ points) = ap (λ l. point.address ∷ l) (same_addresses ram points)

seen_twice : (ram : List ℕ) (points : List Watchpoint) → map (seen ram) (map (seen ram) points) ≡ map (seen ram) points
seen_twice ram [] = refl
seen_twice ram (point ∷ points) = ap (λ l. seen ram point ∷ l) (seen_twice ram points)

-- RAM of the board behind so many turns
pub ram_behind : (start : Board) (turns : List ℕ) (n : ℕ) (cores : List Core) (bus : BusState) (is : IsAfter start turns n cores bus) → ram_in (after start turns n) ≡ is.now.world.ram
ram_behind start turns n cores bus is = ap ram_in is.reached

-- points that look at RAM
pub looked_all : (ram : List ℕ) (old new : List Watchpoint) → new ≡ map (seen ram) old → AllSeen ram new
looked_all ram old new is = ap (map (seen ram)) is ∙ seen_twice ram old ∙ sym is

looked_same : (ram : List ℕ) (old new : List Watchpoint) → new ≡ map (seen ram) old → addresses new ≡ addresses old
looked_same ram old new is = ap addresses is ∙ same_addresses ram old

abbrev points_with : List Breakpoint → List Watchpoint → List Watchpoint → Points
points_with breaks watches stores = record { breaks = breaks; watches = addresses watches; stores = addresses stores }

pub looked_points : (ram : List ℕ) (breaks : List Breakpoint) (old_watches new_watches old_stores new_stores : List Watchpoint) → new_watches ≡ map (seen ram) old_watches
    → new_stores ≡ map (seen ram) old_stores → points_with breaks new_watches new_stores ≡ points_with breaks old_watches old_stores
looked_points ram breaks old_watches new_watches old_stores new_stores watches stores =
    ap (λ (w : List ℕ). record { breaks = breaks; watches = w; stores = addresses new_stores }) (looked_same ram old_watches new_watches watches)
    ∙ ap (λ (w : List ℕ). record { breaks = breaks; watches = addresses old_watches; stores = w }) (looked_same ram old_stores new_stores stores)

-- a point more, which has seen RAM
pub seen_added : (ram : List ℕ) (old new : List Watchpoint) (address : ℕ) → new ≡ old ++ seen ram (record { address = address; word = None }) ∷ [] → AllSeen ram old → AllSeen ram new
seen_added ram old new address added all =
    let point : Watchpoint = seen ram (record { address = address; word = None }) in
    ap (map (seen ram)) added ∙ map-append (seen ram) old (point ∷ []) ∙ ap (λ (l : List Watchpoint). l ++ point ∷ []) all ∙ sym added

pub address_added : (ram : List ℕ) (old new : List Watchpoint) (address : ℕ) → new ≡ old ++ seen ram (record { address = address; word = None }) ∷ [] → addresses new ≡ addresses old ++ address ∷ []
address_added ram old new address added = ap addresses added ∙ map-append (λ (p : Watchpoint). p.address) old (seen ram (record { address = address; word = None }) ∷ [])

-- what a turn hits, by points that had seen RAM before it
pub hits_written : (made : MadeTurn) (before later text one two three : List ℕ) (stops : Stops) → HasSeen before stops → one ≡ text ++ flat_map (break_line made) stops.breaks.items
    → two ≡ one ++ flat_map (seen_line made.turn later) stops.watches.items → three ≡ two ++ flat_map (seen_store made later) stops.stores.items
    → three ≡ text ++ hits_of made before later (points_of stops)
hits_written made before later text one two three stops is breaks watches stores =
    let b = flat_map (break_line made) stops.breaks.items in
    let w = flat_map (watch_line made.turn before later) (addresses stops.watches.items) in
    let s = flat_map (store_line made before later) (addresses stops.stores.items) in
    let same_watches : flat_map (seen_line made.turn later) stops.watches.items ≡ w =
    seen_lines (λ address word. change_line made.turn address word (word_shown later address)) before stops.watches.items is.watches in
    let same_stores : flat_map (seen_store made later) stops.stores.items ≡ s =
    seen_lines (λ address word. store_words made address word (word_shown later address)) before stops.stores.items is.stores in
    stores ∙ ap (λ l. l ++ flat_map (seen_store made later) stops.stores.items) watches
    ∙ ap (λ l. (one ++ flat_map (seen_line made.turn later) stops.watches.items) ++ l) same_stores
    ∙ ap (λ l. (one ++ l) ++ s) same_watches ∙ ap (λ l. (l ++ w) ++ s) breaks ∙ append_assoc (text ++ b) w s ∙ append_assoc text b (w ++ s)

-- those lines, kind by kind
pub hits_long : (made : MadeTurn) (before later : List ℕ) (stops : Stops) → HasSeen before stops
    → length (hits_of made before later (points_of stops)) ≡ length (flat_map (break_line made) stops.breaks.items)
    + (length (flat_map (seen_line made.turn later) stops.watches.items) + length (flat_map (seen_store made later) stops.stores.items))
hits_long made before later stops is =
    let b = flat_map (break_line made) stops.breaks.items in
    let w = flat_map (seen_line made.turn later) stops.watches.items in
    let s = flat_map (seen_store made later) stops.stores.items in
    let whole : (b ++ w) ++ s ≡ hits_of made before later (points_of stops) = hits_written made before later [] b (b ++ w) ((b ++ w) ++ s) stops is refl refl refl in
    let long = ap length whole in
    omega (arith, long, length-append (b ++ w) s, length-append b w)

-- the board stays what it is while it is looked at
pub still_after : (start : Board) (turns : List ℕ) (n : ℕ) (cores new_cores : List Core) (bus new_bus : BusState) → IsAfter start turns n cores bus
    → ((now : Board) → IsBoard cores bus now → IsBoard new_cores new_bus now) → IsAfter start turns n new_cores new_bus
still_after start turns n cores new_cores bus new_bus is same = record { now = is.now; reached = is.reached; is = same is.now is.is; within = is.within }

-- points that look at the board behind so many turns
pub seen_behind : (start : Board) (turns : List ℕ) (n : ℕ) (cores : List Core) (bus : BusState) (is : IsAfter start turns n cores bus) (stops : Stops)
    → HasSeen is.now.world.ram stops → HasSeen (ram_in (after start turns n)) stops
seen_behind start turns n cores bus is stops has = subst (λ ram. HasSeen ram stops) (sym (ram_behind start turns n cores bus is)) has

-- the lines of the turn that was made
pub lines_of_turn : (start : Board) (turns : List ℕ) (n : ℕ) (cores : List Core) (bus : BusState) (is : IsAfter start turns (n + 1) cores bus) (made : MadeTurn) (points : Points)
    → made ≡ turn_made start turns n → hits_of made (ram_in (after start turns n)) is.now.world.ram points ≡ hit_lines start turns points n
unfolding hit_lines
lines_of_turn start turns n cores bus is made points same =
    ap (λ (m : MadeTurn). hits_of m (ram_in (after start turns n)) is.now.world.ram points) same
    ∙ ap (λ ram. hits_of (turn_made start turns n) (ram_in (after start turns n)) ram points) (sym (ram_behind start turns (n + 1) cores bus is))

-- a turn that was made, once its hits are written
pub followed : (start : Board) (turns : List ℕ) (old new : Debugger) (before later : List ℕ) (made : MadeTurn) (old_cores cores new_cores : List Core) (old_bus bus new_bus : BusState)
    → Stands start turns old old_cores old_bus → IsMade start turns old.turn made new.last cores bus → new.turn ≡ old.turn + 1
    → ((now : Board) (ram : List ℕ) → IsBoard cores bus now → HasSeen ram old.stops → later ≡ before ++ hits_of made ram now.world.ram (points_of old.stops))
    → ((now : Board) → IsBoard cores bus now → HasLooked now.world.ram old.stops new.stops)
    → ((now : Board) → IsBoard cores bus now → IsBoard new_cores new_bus now)
    → IsFollowed start turns old before new later new_cores new_bus
followed start turns old new before later made old_cores cores new_cores old_bus bus new_bus stands is turn text looks same =
    let board = is.reaches.board in
    let now = board.now in
    let n = old.turn in
    let look = looks now board.is in
    let still = still_after start turns (n + 1) cores new_cores bus new_bus board same in
    let reaches : Reaches start turns (n + 1) new.last new_cores new_bus = record { board = still; ring = is.reaches.ring } in
    record {
      stands = record {
        reaches = rw turn reaches;
        seen_is = subst (λ t. HasSeen (ram_in (after start turns t)) new.stops) (sym turn) (seen_behind start turns (n + 1) cores bus board new.stops look.seen_is);
      };
      state = ap (λ t. record { turn = t; points = points_of new.stops }) turn ∙ ap (λ (p : Points). record { turn = n + 1; points = p }) look.points;
      text = text now (ram_in (after start turns n)) board.is stands.seen_is ∙ ap (λ l. before ++ l) (lines_of_turn start turns n cores bus board made (points_of old.stops) is.made_is);
    }

-- so many turns were made without stops
pub made_turns : (start : Board) (turns : List ℕ) (old new : Debugger) (count : ℕ) (written : List ℕ) (cores new_cores : List Core) (bus new_bus : BusState)
    → Reaches start turns new.turn new.last cores bus → new.turn ≡ min (old.turn + count) (length turns)
    → ((now : Board) → IsBoard cores bus now → HasLooked now.world.ram old.stops new.stops)
    → ((now : Board) → IsBoard cores bus now → IsBoard new_cores new_bus now) → written ≡ at_line new.turn
    → IsAnswered start turns old (Turn count) written new new_cores new_bus
made_turns start turns old new count written cores new_cores bus new_bus reaches turn looks same text =
    let board = reaches.board in
    let look = looks board.now board.is in
    let n = min (old.turn + count) (length turns) in
    record {
      stands = record {
        reaches = record { board = still_after start turns new.turn cores new_cores bus new_bus board same; ring = reaches.ring };
        seen_is = seen_behind start turns new.turn cores bus board new.stops look.seen_is;
      };
      state = ap (λ (t : ℕ). record { turn = t; points = points_of new.stops }) turn ∙ ap (λ (p : Points). record { turn = n; points = p }) look.points;
      text = text ∙ ap at_line turn;
    }
