-- A turn's trace has as many items as the turn has steps, and so have the traces of a schedule.
use Rattle.std.proofs.Common.{◌≡◌, ◌≢◌, ◌∙◌, refl, sym, ap, subst, ℕ, zero, suc, ◌+◌, ◌<◌, ◌==◌, cond, Bool, true, false, List, [], ◌∷◌, Option, Some, length, inl, inr, add-zero, arith}
use Rattle.std.proofs.lemmas.Bool.Decides.{nat_tests}
use Rattle.std.proofs.lemmas.List.{length-append}
use Rattle.std.specs.Prelude.{slice_get, is_none}
use Rattle.std.specs.List.{filter, flat_map}
use Rattle.or_words.specs.declared.Config.{Config}
use Rattle.or_model.specs.Core.{Core, reset_core}
use Rattle.or_model.specs.World.{World}
use Rattle.or_model.specs.Step.{private_step, empty_world}
use Rattle.or_model.specs.Turn.{Board, Begun, steps_alone, begun_within, turn_begun, turn_ended, turn, board_turned, replay, reset_cores}
use Rattle.or_model.specs.Trace.{trace_within, private_trace, bus_trace, turn_trace}
use Rattle.or_model.proofs.Steps.{step-adds}
use Rattle.or_replay.specs.Start.{start}
use Rattle.or_replay.specs.Watching.{trace_of, board_trace}
use Rattle.or_prof.specs.Profile.{Addition, items_of}
use Rattle.or_replay.proofs.Reset.{length-reset_cores}
use Rattle.or_prof.proofs.Gets.{nat_cases, get-inside, get-set, get-set_other}
use Rattle.or_recorded.specs.Traces.{addition_of, where_made, traces}
use Rattle.or_recorded.proofs.Following.{then_some}
use Rattle.or_recorded.proofs.Levels.{IsMade, made, reset-is}

private_adds : (core : Core) → (private_step core).steps ≡ core.steps + 1
unfolding private_step
private_adds core = (step-adds core empty_world).steps

begun_where : (alone : Bool) (core : Core) (rest : Begun) (trace : List ℕ) → rest.core.steps ≡ (core.steps + 1) + length trace
    → (cond alone rest (record { core = core; follows = is_none core.stop })).core.steps ≡ core.steps + length (cond alone (core.pc ∷ trace) [])
begun_where true core rest trace is = omega (arith, is)
begun_where false core rest trace is = sym (add-zero core.steps)

begun_counts : (left : ℕ) (core : Core) → (begun_within left core).core.steps ≡ core.steps + length (trace_within left core)
unfolding begun_within trace_within
begun_counts zero core = sym (add-zero core.steps)
begun_counts (suc left) core =
    begun_where (steps_alone core) core (begun_within left (private_step core)) (trace_within left (private_step core))
    (begun_counts left (private_step core) ∙ ap (λ n. n + length (trace_within left (private_step core))) (private_adds core))

ended_counts : (core : Core) (world : World) (follows : Bool) → (turn_ended core world follows).core.steps ≡ core.steps + length (bus_trace (record { core = core; follows = follows }))
unfolding turn_ended
ended_counts core world true = (step-adds core world).steps
ended_counts core world false = sym (add-zero core.steps)

-- the steps of a turn are the items of its trace
turn_counts : (core : Core) (world : World) → (turn core world).core.steps ≡ core.steps + length (turn_trace core)
unfolding turn turn_trace private_trace turn_begun
turn_counts core world =
    let first = begun_counts 256 core in
    let second = ended_counts (begun_within 256 core).core world (begun_within 256 core).follows in
    let all = length-append (trace_within 256 core) (bus_trace (begun_within 256 core)) in omega (arith, first, second, all)

trace_at : (board : Board) (c : ℕ) (core : Core) → slice_get board.cores c ≡ Some core → board_trace board c ≡ turn_trace core
unfolding board_trace
trace_at board c core at = ap trace_of at

same_core : (cores : List Core) (c : ℕ) (core other : Core) → slice_get cores c ≡ Some core → slice_get cores c ≡ Some other → core ≡ other
same_core cores c core other at found = let e : Some core ≡ Some other = sym at ∙ found in cc

items_where : (own : Bool) (c : ℕ) (addition : Addition) (later : List Addition) → (addition.core == c) ≡ own
    → length (items_of c (addition ∷ later)) ≡ cond own (length addition.trace) 0 + length (items_of c later)
items_where own c addition later is =
    ap (λ (b : Bool). length (flat_map (λ (a : Addition). a.trace) (cond b (addition ∷ filter (λ (a : Addition). a.core == c) later) (filter (λ (a : Addition). a.core == c) later)))) is
    ∙ items_by own where
      items_by : (b : Bool) → length (flat_map (λ (a : Addition). a.trace) (cond b (addition ∷ filter (λ (a : Addition). a.core == c) later) (filter (λ (a : Addition). a.core == c) later)))
          ≡ cond b (length addition.trace) 0 + length (items_of c later)
      items_by true = length-append addition.trace (items_of c later)
      items_by false = omega arith

-- one turn: the core at a place afterwards, and the items that were added for it
pub record IsStepped (board next : Board) (t c : ℕ) (before : Core) : Type 0 where
  pub core : Core
  pub at : slice_get next.cores c ≡ Some core
  pub steps : core.steps ≡ before.steps + cond (t == c) (length (board_trace board t)) 0

is_same : (t c : ℕ) → c ≡ t → (t == c) ≡ true
is_same t c same = grind (arith, nat_tests)

is_other : (t c : ℕ) → c ≢ t → (t == c) ≡ false
is_other t c differ = grind (arith, nat_tests)

stepped : (board next : Board) (t c : ℕ) (before : Core) → slice_get board.cores c ≡ Some before → IsMade board t next → IsStepped board next t c before
stepped board next t c before at m = elim (nat_cases c t) [
  | inl same ↦
      let after = (turn m.core board.world).core in
      let own : m.core ≡ before = same_core board.cores t m.core before m.at (subst (λ (k : ℕ). slice_get board.cores k ≡ Some before) same at) in
      record {
        core = after;
        at = subst (λ (k : ℕ). slice_get next.cores k ≡ Some after) (sym same) (ap (λ (b : Board). slice_get b.cores t) m.is ∙ get-set board.cores t m.core after m.at);
        steps = turn_counts m.core board.world ∙ (ap (λ (k : Core). k.steps + length (turn_trace m.core)) own
            ∙ (ap (λ (l : List ℕ). before.steps + length l) (sym (trace_at board t m.core m.at)) ∙ ap (λ (b : Bool). before.steps + cond b (length (board_trace board t)) 0) (sym (is_same t c same))));
      }
  | inr differ ↦
      record {
        core = before;
        at = ap (λ (b : Board). slice_get b.cores c) m.is ∙ (get-set_other board.cores t c (turn m.core board.world).core differ ∙ at);
        steps = sym (add-zero before.steps) ∙ ap (λ (b : Bool). before.steps + cond b (length (board_trace board t)) 0) (sym (is_other t c differ));
      }
]

traces_count : (board last : Board) (turns : List ℕ) (c : ℕ) (before core : Core) → replay board turns ≡ Some last → slice_get board.cores c ≡ Some before
    → slice_get last.cores c ≡ Some core → core.steps ≡ before.steps + length (items_of c (traces board turns))
traces_count board last [] c before core reaches at found =
    let e : board ≡ last = cc in
    let same = same_core last.cores c before core (subst (λ (b : Board). slice_get b.cores c ≡ Some before) e at) found in
    ap (λ (k : Core). k.steps) (sym same) ∙ sym (add-zero before.steps)
traces_count board last (t ∷ later) c before core reaches at found =
    let next = then_some (board_turned board t) (λ middle. replay middle later) last reaches in
    let one = stepped board next.0 t c before at (made board t next.0 next.1) in
    let rest = traces_count next.0 last later c one.core core next.2 one.at found in
    let all : traces board (t ∷ later) ≡ addition_of board t ∷ traces next.0 later = ap (λ (o : Option Board). where_made o (λ middle. addition_of board t ∷ traces middle later)) next.1 in
    let items = ap (λ (l : List Addition). length (items_of c l)) all ∙ items_where (t == c) c (addition_of board t) (traces next.0 later) refl in
    let steps = one.steps in omega (arith, rest, items, steps)

reset_steps : (config : Config) (n : ℕ) → (reset_core config n).steps ≡ 0
unfolding reset_core
reset_steps config n = refl

start_steps : (config : Config) (image input : List ℕ) (c : ℕ) (core : Core) → slice_get (start config image input).cores c ≡ Some core → core.steps ≡ 0
unfolding start
start_steps config image input c core at = let reset = reset-is config config.cores c core at in ap (λ (k : Core). k.steps) (sym reset.1) ∙ reset_steps config reset.0

start_core : (config : Config) (image input : List ℕ) (c : ℕ) → c < config.cores → (core : Core) × (slice_get (start config image input).cores c ≡ Some core)
unfolding start
start_core config image input c inside = get-inside (reset_cores config config.cores) c (let many = length-reset_cores config config.cores in omega arith)

pub items_are : (config : Config) (image input turns : List ℕ) (last : Board) (c : ℕ) (core : Core) → replay (start config image input) turns ≡ Some last → c < config.cores
    → slice_get last.cores c ≡ Some core → length (items_of c (traces (start config image input) turns)) ≡ core.steps
items_are config image input turns last c core reaches inside found =
    let before = start_core config image input c inside in
    let none = start_steps config image input c before.0 before.1 in
    let all = traces_count (start config image input) last turns c before.0 core reaches before.1 found in omega (arith, none, all)
