-- What is left of a turn, step by step.
use Rattle.std.proofs.Common.{◌≡◌, ◌∙◌, refl, sym, ap, subst, ℕ, zero, suc, ◌+◌, ◌-◌, ◌<◌, ◌≤◌, Bool, true, false, cond, ltb, ◌&&◌, List, [], ◌∷◌, ◌++◌, drop, Some, None, arith, add-one}
use Rattle.std.specs.Prelude.{Option, ◌==◌, is_none, is_some, slice_get, slice_set, option_and_then}
use Rattle.std.proofs.lemmas.List.{drop-drop}
use Rattle.std.proofs.lemmas.Bool.Decides.{nat_tests}
use Rattle.or_model.specs.declared.Stop.{Stop}
use Rattle.or_model.specs.Core.{Core}
use Rattle.or_model.specs.World.{World}
use Rattle.or_model.specs.Step.{is_private, private_step}
use Rattle.or_model.specs.Trace.{trace_within, bus_trace, private_trace, turn_trace}
use Rattle.or_model.specs.Turn.{Board, Begun, begun_within, turn_begun, turn, with_core, board_turned, board_turned_by, running}
use Rattle.or_bus.specs.State.{BusState}
use Rattle.or_bus.specs.Represents.{Represents}
use Rattle.or_core.proofs.Begins.{begun_within-more, begun_within-waits, begun_within-stops, begun_within-end}
use Rattle.or_core.proofs.Traces.{trace_within-more, trace_within-waits, trace_within-stops, trace_within-end}
use Rattle.or_replay.specs.declared.stepping.Breakpoint.{Breakpoint}
use Rattle.or_replay.specs.Board.{IsBoard, IsInOrder, left_of}
use Rattle.or_replay.specs.Stepping.{stepped, with_steps, board_stepped, is_hit, hits_any, is_pause, first_from, step_pause, board_step_pause, rest_trace, IsInside, HasBegun, IsCoreUntil, IsTurnedUntil}
use Rattle.or_replay.specs.declared.stepping.Until.{Until}
use Rattle.or_replay.specs.declared.stepping.Until.TheVariants.{Inside, Ended}
use Rattle.or_replay.specs.Watching.{board_access}
use Rattle.or_bus.specs.declared.access.Access.{Access}
use Rattle.or_core.specs.Access.{turn_access}
use Rattle.or_replay.proofs.Turning.{get_set, one_core}

rest_more : (left : ℕ) (core : Core) → 0 < left → core.stop ≡ None → is_private core ≡ true → rest_trace left core ≡ core.pc ∷ rest_trace (left - 1) (private_step core)
rest_more left core some runs alone =
    ap (λ l. l ++ bus_trace (begun_within left core)) (sym (trace_within-more left core [] some runs alone))
    ∙ ap (λ (b : Begun). core.pc ∷ (trace_within (left - 1) (private_step core) ++ bus_trace b)) (begun_within-more left core some runs alone)

rest_waits : (left : ℕ) (core : Core) → 0 < left → core.stop ≡ None → is_private core ≡ false → rest_trace left core ≡ core.pc ∷ []
rest_waits left core some runs alone =
    ap (λ l. l ++ bus_trace (begun_within left core)) (trace_within-waits left core [] some runs alone)
    ∙ ap bus_trace (begun_within-waits left core some runs alone)

rest_stops : (left : ℕ) (core : Core) → 0 < left → is_none core.stop ≡ false → rest_trace left core ≡ []
rest_stops left core some stopped =
    ap (λ l. l ++ bus_trace (begun_within left core)) (trace_within-stops left core [] some stopped)
    ∙ ap bus_trace (begun_within-stops left core some stopped)

rest_end : (left : ℕ) (core : Core) → left ≡ 0 → rest_trace left core ≡ []
rest_end left core none =
    ap (λ l. l ++ bus_trace (begun_within left core)) (trace_within-end left core [] none)
    ∙ ap bus_trace (begun_within-end left core none)

rest_some_by : (left : ℕ) (core : Core) (alone : Bool) → is_private core ≡ alone → 0 < left → core.stop ≡ None → (more : List ℕ) × (rest_trace left core ≡ core.pc ∷ more)
rest_some_by left core true is some runs = (rest_trace (left - 1) (private_step core), rest_more left core some runs is)
rest_some_by left core false is some runs = ([], rest_waits left core some runs is)

-- a core that goes on has its pc in front
rest_some : (left : ℕ) (core : Core) → 0 < left → core.stop ≡ None → (more : List ℕ) × (rest_trace left core ≡ core.pc ∷ more)
rest_some left core some runs = rest_some_by left core (is_private core) refl some runs

runs_of : (stop : Option Stop) → is_none stop ≡ true → stop ≡ None
runs_of None is = refl
runs_of (Some stop) is = absurd (let b : ⊥ = cc in b)

pub runs_where : (stop : Option Stop) → is_some stop ≡ false → stop ≡ None
runs_where None is = refl
runs_where (Some stop) is = absurd (let b : ⊥ = cc in b)

drop_tail : (n : ℕ) (xs : List ℕ) → drop (n + 1) xs ≡ drop 1 (drop n xs)
drop_tail n xs = ap (λ m. drop m xs) (let e : n + 1 ≡ 1 + n = omega arith in e) ∙ sym (drop-drop 1 n xs ∙ ap (λ m. drop m xs) (let e : n + 1 ≡ 1 + n = omega arith in e))

-- one private step more
pub inside_more : (first old new : Core) (steps : ℕ) → IsInside first steps old → steps < 256 → old.stop ≡ None → is_private old ≡ true → new ≡ private_step old
    → IsInside first (steps + 1) new
unfolding stepped
inside_more first old new steps inside few runs alone is =
    let left : 0 < 256 - steps = omega arith in
    let fewer : 256 - steps - 1 ≡ 256 - (steps + 1) = omega arith in
    record {
      few = omega arith;
      core_is = is ∙ ap private_step inside.core_is ∙ ap (λ n. stepped n first) (sym (add-one steps));
      trace = drop_tail steps (turn_trace first) ∙ ap (drop 1) (inside.trace ∙ rest_more (256 - steps) old left runs alone)
          ∙ ap (λ n. rest_trace n (private_step old)) fewer ∙ ap (rest_trace (256 - (steps + 1))) (sym is);
      begun = inside.begun ∙ begun_within-more (256 - steps) old left runs alone
          ∙ ap (λ n. begun_within n (private_step old)) fewer ∙ ap (begun_within (256 - (steps + 1))) (sym is);
    }

hit_tail : (points : List Breakpoint) (most : Option ℕ) (c : ℕ) (first : Core) (steps : ℕ) (pc : ℕ) (more : List ℕ) → drop (steps + 1) (turn_trace first) ≡ pc ∷ more
    → step_pause points most c first steps ≡ cond (is_pause points most c (steps + 1) pc) (Some (steps + 1)) (step_pause points most c first (steps + 1))
unfolding step_pause
hit_tail points most c first steps pc more is =
    ap (first_from (is_pause points most c) (steps + 1)) is
    ∙ ap (λ l. cond (is_pause points most c (steps + 1) pc) (Some (steps + 1)) (first_from (is_pause points most c) (steps + 1 + 1) l))
    (sym (drop_tail (steps + 1) (turn_trace first) ∙ ap (drop 1) is))

none_behind : (points : List Breakpoint) (most : Option ℕ) (c : ℕ) (first : Core) (steps : ℕ) → drop (steps + 1) (turn_trace first) ≡ [] → step_pause points most c first steps ≡ None
unfolding step_pause
none_behind points most c first steps is = ap (first_from (is_pause points most c) (steps + 1)) is

drop_none : (n : ℕ) (xs : List ℕ) → drop n xs ≡ [] → drop (n + 1) xs ≡ []
drop_none n xs is = drop_tail n xs ∙ ap (drop 1) is

by_hit : (hit : Bool) (a b : Option ℕ) → hit ≡ false → cond hit a b ≡ b
by_hit true a b is = absurd (let b : ⊥ = cc in b)
by_hit false a b _ = refl

by_hit_true : (hit : Bool) (a b : Option ℕ) → hit ≡ true → cond hit a b ≡ a
by_hit_true true a b _ = refl
by_hit_true false a b is = absurd (let b : ⊥ = cc in b)

-- the step that was made hits a breakpoint
pub hit_here : (points : List Breakpoint) (most : Option ℕ) (c : ℕ) (first core : Core) (steps : ℕ) → IsInside first (steps + 1) core → steps + 1 < 256 → core.stop ≡ None → is_pause points most c (steps + 1) core.pc ≡ true
    → step_pause points most c first steps ≡ Some (steps + 1)
hit_here points most c first core steps inside few runs hit =
    let rest = rest_some (256 - (steps + 1)) core (omega arith) runs in
    hit_tail points most c first steps core.pc rest.0 (inside.trace ∙ rest.1) ∙ by_hit_true (is_pause points most c (steps + 1) core.pc) (Some (steps + 1)) (step_pause points most c first (steps + 1)) hit

-- or hits none
pub hit_later : (points : List Breakpoint) (most : Option ℕ) (c : ℕ) (first core : Core) (steps : ℕ) → IsInside first (steps + 1) core → steps + 1 < 256 → core.stop ≡ None → is_pause points most c (steps + 1) core.pc ≡ false
    → step_pause points most c first steps ≡ step_pause points most c first (steps + 1)
hit_later points most c first core steps inside few runs hit =
    let rest = rest_some (256 - (steps + 1)) core (omega arith) runs in
    hit_tail points most c first steps core.pc rest.0 (inside.trace ∙ rest.1) ∙ by_hit (is_pause points most c (steps + 1) core.pc) (Some (steps + 1)) (step_pause points most c first (steps + 1)) hit

-- or was the last one
pub hit_none : (points : List Breakpoint) (most : Option ℕ) (c : ℕ) (first core : Core) (steps : ℕ) → IsInside first steps core → 256 ≤ steps → step_pause points most c first steps ≡ None
hit_none points most c first core steps inside all =
    none_behind points most c first steps (drop_none steps (turn_trace first) (inside.trace ∙ rest_end (256 - steps) core (omega arith)))

pub hit_stopped : (points : List Breakpoint) (most : Option ℕ) (c : ℕ) (first core : Core) (steps : ℕ) → IsInside first steps core → steps < 256 → is_none core.stop ≡ false → step_pause points most c first steps ≡ None
hit_stopped points most c first core steps inside few stopped =
    none_behind points most c first steps (drop_none steps (turn_trace first) (inside.trace ∙ rest_stops (256 - steps) core (omega arith) stopped))

pub hit_waits : (points : List Breakpoint) (most : Option ℕ) (c : ℕ) (first core : Core) (steps : ℕ) → IsInside first steps core → steps < 256 → core.stop ≡ None → is_private core ≡ false
    → step_pause points most c first steps ≡ None
hit_waits points most c first core steps inside few runs waits =
    none_behind points most c first steps (drop_tail steps (turn_trace first) ∙ ap (drop 1) (inside.trace ∙ rest_waits (256 - steps) core (omega arith) runs waits))

-- the last step of a turn hits nothing inside it
pub hit_last : (points : List Breakpoint) (most : Option ℕ) (c : ℕ) (first core : Core) (steps : ℕ) → IsInside first (steps + 1) core → 256 ≤ steps + 1 → step_pause points most c first steps ≡ step_pause points most c first (steps + 1)
hit_last points most c first core steps inside all =
    none_behind points most c first steps (inside.trace ∙ rest_end (256 - (steps + 1)) core (omega arith)) ∙ sym (hit_none points most c first core (steps + 1) inside all)

-- nor does one that stops the core
pub hit_stops : (points : List Breakpoint) (most : Option ℕ) (c : ℕ) (first core : Core) (steps : ℕ) → IsInside first (steps + 1) core → steps + 1 < 256 → is_none core.stop ≡ false
    → step_pause points most c first steps ≡ step_pause points most c first (steps + 1)
hit_stops points most c first core steps inside few stopped =
    none_behind points most c first steps (inside.trace ∙ rest_stops (256 - (steps + 1)) core (omega arith) stopped)
    ∙ sym (hit_stopped points most c first core (steps + 1) inside few stopped)

passed_by : (points : List Breakpoint) (most : Option ℕ) (c : ℕ) (first core : Core) (made : ℕ) (few runs hit : Bool) → IsInside first (made + 1) core → ltb (made + 1) 256 ≡ few → is_none core.stop ≡ runs
    → is_pause points most c (made + 1) core.pc ≡ hit → (few && (runs && hit)) ≡ false → step_pause points most c first made ≡ step_pause points most c first (made + 1)
passed_by points most c first core made false runs hit inside is_few is_run is_hit passes = hit_last points most c first core made inside (grind (arith, nat_tests))
passed_by points most c first core made true false hit inside is_few is_run is_hit passes = hit_stops points most c first core made inside (grind (arith, nat_tests)) is_run
passed_by points most c first core made true true false inside is_few is_run is_hit passes = hit_later points most c first core made inside (grind (arith, nat_tests)) (runs_of core.stop is_run) is_hit
passed_by points most c first core made true true true inside is_few is_run is_hit passes = absurd (let b : ⊥ = cc in b)

-- a step that does not pause a turn hits nothing inside it
pub passed : (points : List Breakpoint) (most : Option ℕ) (c : ℕ) (first core : Core) (steps made : ℕ) → steps ≡ made + 1 → IsInside first steps core
    → (ltb steps 256 && (is_none core.stop && is_pause points most c steps core.pc)) ≡ false → step_pause points most c first made ≡ step_pause points most c first steps
passed points most c first core steps made is inside passes =
    let inside_one : IsInside first (made + 1) core = subst (λ n. IsInside first n core) is inside in
    passed_by points most c first core made (ltb (made + 1) 256) (is_none core.stop) (is_pause points most c (made + 1) core.pc) inside_one refl refl refl
    (ap (λ n. ltb n 256 && (is_none core.stop && is_pause points most c n core.pc)) (sym is) ∙ passes)
    ∙ ap (step_pause points most c first) (sym is)

-- where the private steps end
pub begun_waits : (first core : Core) (steps : ℕ) → IsInside first steps core → steps < 256 → core.stop ≡ None → is_private core ≡ false → turn_begun first ≡ record { core = core; follows = true }
begun_waits first core steps inside few runs waits = inside.begun ∙ begun_within-waits (256 - steps) core (omega arith) runs waits

pub begun_stopped : (first core : Core) (steps : ℕ) → IsInside first steps core → steps < 256 → is_none core.stop ≡ false → turn_begun first ≡ record { core = core; follows = false }
begun_stopped first core steps inside few stopped = inside.begun ∙ begun_within-stops (256 - steps) core (omega arith) stopped

pub begun_all : (first core : Core) (steps : ℕ) → IsInside first steps core → 256 ≤ steps → turn_begun first ≡ record { core = core; follows = false }
begun_all first core steps inside all = inside.begun ∙ begun_within-end (256 - steps) core (omega arith)

-- the board before a turn, with its core behind some steps of it
at_place : (cores : List Core) (c : ℕ) (core found : Core) (before : List Core) (first : Core) → slice_get before c ≡ Some first → cores ≡ slice_set before c core → slice_get cores c ≡ Some found → core ≡ found
at_place cores c core found before first at are is = one_core cores c core found (ap (λ l. slice_get l c) are ∙ get_set before c first core at) is

set_twice : (cores : List Core) (c : ℕ) (a b : Core) → slice_set (slice_set cores c a) c b ≡ slice_set cores c b
set_twice [] c a b = refl
set_twice (core ∷ cores) zero a b = refl
set_twice (core ∷ cores) (suc c) a b = ap (λ l. core ∷ l) (set_twice cores c a b)

cores_after : (cores before : List Core) (c : ℕ) (core new : Core) → cores ≡ slice_set before c core → slice_set cores c new ≡ slice_set before c new
cores_after cores before c core new are = ap (λ l. slice_set l c new) are ∙ set_twice before c core new

turned_of : (before : Board) (c : ℕ) (first : Core) (next : Board) → slice_get before.cores c ≡ Some first → first.stop ≡ None → next ≡ with_core before c (turn first before.world)
    → board_turned before c ≡ Some next
unfolding board_turned
turned_of before c first next at runs is =
    ap (λ o. board_turned_by before c (running o)) at
    ∙ ap (λ (s : Option Stop). board_turned_by before c (cond (is_none s) (Some first) None)) runs ∙ ap Some (sym is)

pause_of : (points : List Breakpoint) (most : Option ℕ) (before : Board) (c steps : ℕ) (first : Core) (pause : Option ℕ) → slice_get before.cores c ≡ Some first → step_pause points most c first steps ≡ pause
    → board_step_pause points most before c steps ≡ pause
unfolding board_step_pause
pause_of points most before c steps first pause at is = ap (option_and_then (λ core. step_pause points most c core steps)) at ∙ is

access_of : (before : Board) (c : ℕ) (first : Core) (access : Option Access) → slice_get before.cores c ≡ Some first → access ≡ turn_access first before.world → access ≡ board_access before c
unfolding board_access
access_of before c first access at is = is ∙ sym (ap (option_and_then (λ (core : Core). turn_access core before.world)) at)

pub turned_until : (points : List Breakpoint) (most : Option ℕ) (before : Board) (c steps : ℕ) (result : Until) (cores : List Core) (old new : Core) (bus forgotten new_bus : BusState)
    → HasBegun before c steps cores bus → ((world : World) → Represents bus world → Represents forgotten world) → slice_get cores c ≡ Some old
    → ((first : Core) → IsInside first steps old → IsCoreUntil points most c first steps result forgotten new new_bus)
    → IsTurnedUntil points most before c steps result (slice_set cores c new) new_bus
turned_until points most before c steps (Ended access) cores old new bus forgotten new_bus begun forgets at until =
    let same = at_place cores c begun.core old before.cores begun.first begun.at begun.cores_are at in
    let made = until begun.first (subst (λ (k : Core). IsInside begun.first steps k) same begun.goes_on.inside) in
    let represents = forgets before.world begun.represents in
    let state = made.1.state before.world represents in (
      pause_of points most before c steps begun.first None begun.at made.0,
      record {
        next = with_core before c (turn begun.first before.world);
        turned = turned_of before c begun.first (with_core before c (turn begun.first before.world)) begun.at begun.running refl;
        is = record {
          same_cores = cores_after cores before.cores c begun.core new begun.cores_are ∙ ap (slice_set before.cores c) state.0;
          represents = state.1;
        };
        access_is = access_of before c begun.first access begun.at (made.1.access_is before.world represents);
      },
    )
turned_until points most before c steps (Inside stop) cores old new bus forgotten new_bus begun forgets at until =
    let same = at_place cores c begun.core old before.cores begun.first begun.at begun.cores_are at in
    let made = until begun.first (subst (λ (k : Core). IsInside begun.first steps k) same begun.goes_on.inside) in (
      pause_of points most before c steps begun.first (Some stop) begun.at made.0,
      record {
        first = begun.first;
        at = begun.at;
        running = begun.running;
        core = new;
        goes_on = made.1.0;
        cores_are = cores_after cores before.cores c begun.core new begun.cores_are;
        represents = subst (λ (b : BusState). Represents b before.world) (sym made.1.1) (forgets before.world begun.represents);
      },
    )

-- a bus that forgot its last access keeps the cores in order
pub order_forgotten : (cores : List Core) (bus forgotten : BusState) → forgotten ≡ record bus { last = None } → IsInOrder cores bus → IsInOrder cores forgotten
order_forgotten cores bus forgotten is order =
    subst (IsInOrder cores) (sym is) (record { many = order.many; numbered = order.numbered; room = order.room })

left_by : (runs : Bool) (old new left : ℕ) → old < left → old < new → cond runs (left - new) 0 < left - old
left_by true old new left few more = omega (arith, few, more)
left_by false old new left few more = omega (arith, few, more)

-- more steps leave fewer
pub fewer_steps : (old new : Core) → old.stop ≡ None → old.steps < old.budget → new.budget ≡ old.budget → old.steps < new.steps → left_of new < left_of old
fewer_steps old new runs few budget more =
    let left : left_of old ≡ old.budget - old.steps = ap (λ (stop : Option Stop). cond (is_none stop) (old.budget - old.steps) 0) runs in
    let same : left_of new ≡ cond (is_none new.stop) (old.budget - new.steps) 0 = ap (λ b. cond (is_none new.stop) (b - new.steps) 0) budget in
    subst (λ n. n < left_of old) (sym same) (subst (λ n. cond (is_none new.stop) (old.budget - new.steps) 0 < n) (sym left) (left_by (is_none new.stop) old.steps new.steps old.budget few more))

set_same : (cores : List Core) (c : ℕ) (core : Core) → slice_get cores c ≡ Some core → slice_set cores c core ≡ cores
set_same [] c core at = refl
set_same (first ∷ cores) zero core at = let same : first ≡ core = cc in ap (λ k. k ∷ cores) (sym same)
set_same (first ∷ cores) (suc c) core at = ap (λ l. first ∷ l) (set_same cores c core at)

inside_none : (first : Core) → IsInside first 0 first
unfolding stepped turn_trace private_trace turn_begun
inside_none first = record { few = omega arith; core_is = refl; trace = refl; begun = refl }

turned_runs : (before next : Board) (c : ℕ) (core : Core) (runs : Bool) → board_turned_by before c (cond runs (Some core) None) ≡ Some next → runs ≡ true
turned_runs before next c core true turned = refl
turned_runs before next c core false turned = absurd (let b : ⊥ = cc in b)

begins_by : (before next : Board) (c : ℕ) (cores : List Core) (bus : BusState) (found : Option Core) → slice_get before.cores c ≡ found → board_turned_by before c (running found) ≡ Some next
    → IsBoard cores bus before → HasBegun before c 0 cores bus
begins_by before next c cores bus None at turned is = absurd (let b : ⊥ = cc in b)
begins_by before next c cores bus (Some core) at turned is =
    let runs = runs_of core.stop (turned_runs before next c core (is_none core.stop) turned) in
    record {
      first = core;
      at = at;
      running = runs;
      core = core;
      goes_on = record { inside = inside_none core; runs = runs; fewer = omega arith };
      cores_are = is.same_cores ∙ sym (set_same before.cores c core at);
      represents = is.represents;
    }

-- a turn that can be made and is not begun
pub begins_turn : (before next : Board) (c : ℕ) (cores : List Core) (bus : BusState) → board_turned before c ≡ Some next → IsBoard cores bus before → HasBegun before c 0 cores bus
unfolding board_turned
begins_turn before next c cores bus turned is = begins_by before next c cores bus (slice_get before.cores c) refl turned is

-- the board behind some steps of a turn
pub begun_board : (before : Board) (c steps : ℕ) (cores : List Core) (bus : BusState) → HasBegun before c steps cores bus
    → (now : Board) × ((board_stepped before c steps ≡ Some now) × (IsBoard cores bus now × (now.world ≡ before.world)))
unfolding board_stepped
begun_board before c steps cores bus begun = (
  with_steps before c steps begun.first,
  (
    ap (option_and_then (λ core. Some (with_steps before c steps core))) begun.at,
    (
      record {
        same_cores = begun.cores_are ∙ ap (slice_set before.cores c) begun.goes_on.inside.core_is;
        represents = begun.represents;
      },
      refl,
    ),
  ),
)

pub begun_none : (before : Board) (c : ℕ) (cores : List Core) (bus : BusState) → HasBegun before c 0 cores bus → IsBoard cores bus before
unfolding stepped
begun_none before c cores bus begun = record {
  same_cores = begun.cores_are ∙ ap (slice_set before.cores c) begun.goes_on.inside.core_is ∙ set_same before.cores c begun.first begun.at;
  represents = begun.represents;
}

first_none : {X : Type 0} (test : ℕ → X → Bool) (n : ℕ) (xs : List X) → ((n : ℕ) (x : X) → test n x ≡ false) → first_from test n xs ≡ None
first_none test n [] none = refl
first_none test n (x ∷ xs) none = by_hit (test n x) (Some n) (first_from test (n + 1) xs) (none n x) ∙ first_none test (n + 1) xs none

no_pause_by : (points : List Breakpoint) (c steps : ℕ) (found : Option Core) → ((pc : ℕ) → hits_any points c pc ≡ false) → option_and_then (λ core. step_pause points None c core steps) found ≡ None
unfolding step_pause
no_pause_by points c steps None none = refl
no_pause_by points c steps (Some core) none = first_none (is_pause points None c) (steps + 1) (drop (steps + 1) (turn_trace core)) (λ n pc. none pc)

-- where no breakpoint is of the core, and no step is the most, nothing pauses its turn
pub no_pause : (points : List Breakpoint) (before : Board) (c steps : ℕ) → ((pc : ℕ) → hits_any points c pc ≡ false) → board_step_pause points None before c steps ≡ None
unfolding board_step_pause
no_pause points before c steps none = no_pause_by points c steps (slice_get before.cores c) none

first_behind_by : {X : Type 0} (test : ℕ → X → Bool) (n m : ℕ) (xs : List X) (passes : Bool) → (first_from test (n + 1) xs ≡ Some m → n + 1 ≤ m) → cond passes (Some n) (first_from test (n + 1) xs) ≡ Some m → n ≤ m
first_behind_by test n m xs true later is = let same : n ≡ m = cc in omega (arith, same)
first_behind_by test n m xs false later is = let past = later is in omega (arith, past)

first_behind : {X : Type 0} (test : ℕ → X → Bool) (n m : ℕ) (xs : List X) → first_from test n xs ≡ Some m → n ≤ m
first_behind test n m [] is = absurd (let b : ⊥ = cc in b)
first_behind test n m (x ∷ xs) is = first_behind_by test n m xs (test n x) (λ later. first_behind test (n + 1) m xs later) is

behind_by : (points : List Breakpoint) (most : Option ℕ) (c steps made : ℕ) (found : Option Core) → option_and_then (λ core. step_pause points most c core steps) found ≡ Some made → steps < made
unfolding step_pause
behind_by points most c steps made None is = absurd (let b : ⊥ = cc in b)
behind_by points most c steps made (Some core) is = let past = first_behind (is_pause points most c) (steps + 1) made (drop (steps + 1) (turn_trace core)) is in omega (arith, past)

-- a pause is behind the steps that were made
pub pause_behind : (points : List Breakpoint) (most : Option ℕ) (before : Board) (c steps made : ℕ) → board_step_pause points most before c steps ≡ Some made → steps < made
unfolding board_step_pause
pause_behind points most before c steps made is = behind_by points most c steps made (slice_get before.cores c) is

-- worked values: steps 2 to 4 leave these pcs
third_step : first_from (λ n pc. pc == 268) 2 (260 ∷ 268 ∷ 268 ∷ []) ≡ Some 3
third_step = refl

most_step : first_from (is_pause [] (Some 4) 0) 2 (260 ∷ 268 ∷ 268 ∷ []) ≡ Some 4
most_step = refl

no_step : first_from (λ n pc. pc == 272) 2 (260 ∷ 268 ∷ 268 ∷ []) ≡ None
no_step = refl

every_core : is_hit 3 256 (record { core = None; pc = 256 }) ≡ true
every_core = refl

other_core : is_hit 3 256 (record { core = Some 2; pc = 256 }) ≡ false
other_core = refl

other_pc : is_hit 2 260 (record { core = Some 2; pc = 256 }) ≡ false
other_pc = refl
