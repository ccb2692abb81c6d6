-- A schedule that is followed one turn further.
use Rattle.std.proofs.Common.{◌≡◌, ◌≢◌, ℕ, ◌+◌, ◌*◌, ◌-◌, ◌/◌, ◌%◌, ◌<◌, ◌≤◌, zero, suc, List, [], ◌∷◌, ◌++◌, Some, None, length, take, refl, ap, sym, ◌∙◌, arith, subst, add-one, ◌⊎◌, inl, inr}
use Rattle.std.specs.Prelude.{Option, slice_get, Result, Ok, Err, MatchResult, MatchOption, IfSome, true}
use Rattle.std.proofs.Math.Nat.{mul-suc, mul-mod_right, div-add-mod, mul-div_cancel_left}
use Rattle.or_sched.specs.declared.recording.Mark.{Mark}
use Rattle.or_model.specs.Core.{Core}
use Rattle.or_model.specs.Turn.{Board, board_turned, replay}
use Rattle.or_bus.specs.State.{BusState}
use Rattle.or_replay.specs.Board.{IsBoard, IsTurned, RefusedBy, RunsAt, all_stopped}
use Rattle.or_replay.proofs.Stopped.{each_stopped}
use Rattle.or_replay.specs.Marks.{mark_of, mark_after}
use Rattle.or_replay.specs.declared.board.Refused.{Refused}
use Rattle.or_replay.specs.declared.board.Refused.TheVariants.{NoSuchCore, CoreStopped}
use Rattle.or_replay.specs.declared.follow.TurnFault.{TurnFault}
use Rattle.or_replay.specs.declared.follow.TurnFault.TheVariants.{NoCore, Stopped, Running, Writes, Console}
use Rattle.or_replay.specs.Following.{AgreeWithin, TurnRefused, MarkRefused, IsFollowed, IsLed, IsAdvanced, IsCompared, IsRefusedMark, IsFirstRunning, AreStopped, AreStoppedUpTo, TellsOf, Differs}
use Rattle.or_replay.proofs.Replaying.{replay_one_more}

-- a list's first n + 1 elements
take_get : (turns : List ℕ) (n c : ℕ) → slice_get turns n ≡ Some c → take (n + 1) turns ≡ take n turns ++ c ∷ []
take_get [] n c at = absurd (let b : ⊥ = cc in b)
take_get (turn ∷ turns) zero c at = let same : turn ≡ c = cc in ap (λ t. t ∷ []) same
take_get (turn ∷ turns) (suc n) c at =
    let e : suc n + 1 ≡ suc (n + 1) = omega arith in ap (λ k. take k (turn ∷ turns)) e ∙ ap (λ l. turn ∷ l) (take_get turns n c at)

get_within : (turns : List ℕ) (n c : ℕ) → slice_get turns n ≡ Some c → n < length turns
get_within [] n c at = absurd (let b : ⊥ = cc in b)
get_within (turn ∷ turns) zero c at = omega arith
get_within (turn ∷ turns) (suc n) c at = omega (arith, get_within turns n c at)

-- the place of a turn that was made: the board behind it, before its mark was compared
pub record IsTaken (block : ℕ) (start : Board) (turns : List ℕ) (given : List Mark) (n : ℕ) (cores : List Core) (bus : BusState) : Type 0 where
  pub next : Board
  pub is : IsBoard cores bus next
  pub inside : n < length turns
  pub reached : replay start (take (n + 1) turns) ≡ Some next
  pub agree : AgreeWithin block start turns given n

made_next : (now : Board) (c : ℕ) (next : Option Board) (done : Unit {0}) (cores : List Core) (bus : BusState) → board_turned now c ≡ next → IsTurned next (Ok done) cores bus
    → (board : Board) × (board_turned now c ≡ Some board) × IsBoard cores bus board
made_next now c None done cores bus is turned = absurd turned
made_next now c (Some next) done cores bus is turned = (next, is, turned)

pub taken : (block : ℕ) (start : Board) (turns : List ℕ) (given : List Mark) (n c : ℕ) (done : Unit {0}) (cores new_cores : List Core) (bus new_bus : BusState)
    → IsLed block start turns given n cores bus → slice_get turns n ≡ Some c
    → ((board : Board) → IsBoard cores bus board → IsTurned (board_turned board c) (Ok done) new_cores new_bus)
    → IsTaken block start turns given n new_cores new_bus
taken block start turns given n c done cores new_cores bus new_bus led at turned =
    let made = made_next led.now c (board_turned led.now c) done new_cores new_bus refl (turned led.now led.is) in
    record {
      next = made.0;
      is = made.2;
      inside = get_within turns n c at;
      reached = ap (replay start) (take_get turns n c at) ∙ replay_one_more start led.now made.0 (take n turns) c led.leads.reached made.1;
      agree = led.leads.agree;
    }

le_or_one_more : (m n : ℕ) → m ≤ n + 1 → (m ≤ n) ⊎ (m ≡ n + 1)
le_or_one_more zero n within = inl (omega arith)
le_or_one_more (suc m) zero within = inr (omega (arith, within))
le_or_one_more (suc m) (suc n) within = elim (le_or_one_more m n (omega (arith, within))) [ inl w ↦ inl (omega (arith, w)) | inr w ↦ inr (omega (arith, w)) ]

-- a block that ends here, or before
agree_at : (block : ℕ) (start : Board) (turns : List ℕ) (given : List Mark) (n k : ℕ) (next : Board) (mark : Mark) → replay start (take (n + 1) turns) ≡ Some next
    → n + 1 ≡ block * (k + 1) → mark ≡ mark_of next.world → mark ≡ mark_after (replay start (take (block * (k + 1)) turns))
agree_at block start turns given n k next mark reached ends agrees =
    agrees ∙ sym (ap mark_after (ap (λ m. replay start (take m turns)) (sym ends) ∙ reached))

agree_more : (block : ℕ) (start : Board) (turns : List ℕ) (given : List Mark) (n : ℕ) (next : Board) → replay start (take (n + 1) turns) ≡ Some next
    → AgreeWithin block start turns given n
    → ((k : ℕ) (mark : Mark) → slice_get given k ≡ Some mark → n + 1 ≡ block * (k + 1) → mark ≡ mark_of next.world)
    → AgreeWithin block start turns given (n + 1)
agree_more block start turns given n next reached agree here k mark at within =
    elim (le_or_one_more (block * (k + 1)) n within) [
      | inl before ↦ agree k mark at before
      | inr ends ↦ agree_at block start turns given n k next mark reached (sym ends) (here k mark at (sym ends))
    ]

pub taken_on : (block : ℕ) (start : Board) (turns : List ℕ) (given : List Mark) (n : ℕ) (done : Unit {0}) (here : Mark) (cores : List Core) (bus : BusState)
    → IsTaken block start turns given n cores bus → ((board : Board) → IsBoard cores bus board → here ≡ mark_of board.world)
    → IsCompared block given (n + 1) (Ok done) here → IsLed block start turns given (n + 1) cores bus
taken_on block start turns given n done here cores bus made is_here compared = record {
  now = made.next;
  is = made.is;
  leads = record {
    reached = made.reached;
    agree = agree_more block start turns given n made.next made.reached made.agree (λ k mark at ends. compared k mark at ends ∙ is_here made.next made.is);
  };
}

mark_refused : (block : ℕ) (start : Board) (turns : List ℕ) (given : List Mark) (n : ℕ) (fault : TurnFault) (here : Mark) (cores : List Core) (bus : BusState)
    → 0 < block → (made : IsTaken block start turns given n cores bus) → here ≡ mark_of made.next.world → IsRefusedMark block given (n + 1) fault here
    → MarkRefused block start turns given (n + 1) fault made.next
mark_refused block start turns given n fault here cores bus some made is_here refused =
    let fewer : block * refused.blocks ≤ n = omega (arith, refused.ends, mul-suc block refused.blocks, ap (λ k. block * k) (add-one refused.blocks), some) in
    record {
      blocks = refused.blocks;
      mark = refused.mark;
      is_kept = refused.is_kept;
      ends = refused.ends;
      within = omega (arith, made.inside);
      reached = made.reached;
      agree = λ k mark at within. made.agree k mark at (omega (arith, within, fewer));
      differs = subst (λ (m : Mark). Differs refused.mark m fault) is_here refused.differs;
    }

pub mark_stops : (block : ℕ) (start : Board) (turns : List ℕ) (given : List Mark) (n : ℕ) (fault : TurnFault) (here : Mark) (cores : List Core) (bus : BusState)
    → 0 < block → IsTaken block start turns given n cores bus → ((board : Board) → IsBoard cores bus board → here ≡ mark_of board.world)
    → IsCompared block given (n + 1) (Err fault) here → IsFollowed block start turns given (Err fault) cores bus
mark_stops block start turns given n (NoCore turn) here cores bus some made is_here refused = absurd refused.told
mark_stops block start turns given n (Stopped turn) here cores bus some made is_here refused = absurd refused.told
mark_stops block start turns given n (Running core) here cores bus some made is_here refused = absurd refused.told
mark_stops block start turns given n (Writes turn kept found) here cores bus some made is_here refused = record {
  last = made.next;
  is = made.is;
  followed = subst (λ (m : ℕ). MarkRefused block start turns given m (Writes turn kept found) made.next) (sym refused.told)
      (mark_refused block start turns given n (Writes turn kept found) here cores bus some made (is_here made.next made.is) refused);
}
mark_stops block start turns given n (Console turn kept found) here cores bus some made is_here refused = record {
  last = made.next;
  is = made.is;
  followed = subst (λ (m : ℕ). MarkRefused block start turns given m (Console turn kept found) made.next) (sym refused.told)
      (mark_refused block start turns given n (Console turn kept found) here cores bus some made (is_here made.next made.is) refused);
}

-- what comes of a turn that was made
pub advanced : (block : ℕ) (start : Board) (turns : List ℕ) (given : List Mark) (n c : ℕ) (done : Unit {0}) (result : Result (Unit {0}) TurnFault) (here : Mark)
    (cores new_cores : List Core) (bus new_bus : BusState) → 0 < block → IsLed block start turns given n cores bus → slice_get turns n ≡ Some c
    → ((board : Board) → IsBoard cores bus board → IsTurned (board_turned board c) (Ok done) new_cores new_bus)
    → ((board : Board) → IsBoard new_cores new_bus board → here ≡ mark_of board.world) → IsCompared block given (n + 1) result here
    → IsAdvanced block start turns given n result new_cores new_bus
advanced block start turns given n c done (Ok compared) here cores new_cores bus new_bus some led at turned is_here is =
    taken_on block start turns given n compared here new_cores new_bus (taken block start turns given n c done cores new_cores bus new_bus led at turned) is_here is
advanced block start turns given n c done (Err fault) here cores new_cores bus new_bus some led at turned is_here is =
    mark_stops block start turns given n fault here new_cores new_bus some (taken block start turns given n c done cores new_cores bus new_bus led at turned) is_here is

turn_refused : (block : ℕ) (start : Board) (turns : List ℕ) (given : List Mark) (n c : ℕ) (refused : Refused) (cores : List Core) (bus : BusState)
    → (led : IsLed block start turns given n cores bus) → slice_get turns n ≡ Some c → RefusedBy {T = Unit {0}} cores c (Err refused)
    → TurnRefused block start turns given n refused led.now
turn_refused block start turns given n c refused cores bus led at why = record {
  before = led.leads;
  core = c;
  turn = at;
  why = subst (λ (l : List Core). RefusedBy {T = Unit {0}} l c (Err refused)) led.is.same_cores why;
}

pub no_core_stops : (block : ℕ) (start : Board) (turns : List ℕ) (given : List Mark) (n c : ℕ) (cores new_cores : List Core) (bus new_bus : BusState)
    → IsLed block start turns given n cores bus → slice_get turns n ≡ Some c → RefusedBy {T = Unit {0}} cores c (Err NoSuchCore) → new_cores ≡ cores → new_bus ≡ bus
    → IsFollowed block start turns given (Err (NoCore n)) new_cores new_bus
no_core_stops block start turns given n c cores new_cores bus new_bus led at why same_cores same_bus =
    rw (same_cores, same_bus) (record { last = led.now; is = led.is; followed = turn_refused block start turns given n c NoSuchCore cores bus led at why })

pub stopped_stops : (block : ℕ) (start : Board) (turns : List ℕ) (given : List Mark) (n c : ℕ) (cores new_cores : List Core) (bus new_bus : BusState)
    → IsLed block start turns given n cores bus → slice_get turns n ≡ Some c → RefusedBy {T = Unit {0}} cores c (Err CoreStopped) → new_cores ≡ cores → new_bus ≡ bus
    → IsFollowed block start turns given (Err (Stopped n)) new_cores new_bus
stopped_stops block start turns given n c cores new_cores bus new_bus led at why same_cores same_bus =
    rw (same_cores, same_bus) (record { last = led.now; is = led.is; followed = turn_refused block start turns given n c CoreStopped cores bus led at why })

at_least_one : (block made q : ℕ) → 0 < block → 0 < made → block * q ≡ made → made ≡ block * ((q - 1) + 1)
at_least_one block made zero some more e = absurd (omega (arith, more, e))
at_least_one block made (suc q) some more e =
    let same : (suc q - 1) + 1 ≡ suc q = omega arith in sym e ∙ ap (λ k. block * k) (sym same)

-- blocks that so many turns fill
pub whole_blocks : (block made : ℕ) → 0 < block → 0 < made → made % block ≡ 0 → made ≡ block * ((made / block - 1) + 1)
whole_blocks block made some more none =
    let split = div-add-mod made block in
    let quotient : block * (made / block) ≡ made = omega (arith, split, none) in
    at_least_one block made (made / block) some more quotient

-- and turns that do not fill blocks
pub no_whole_blocks : (block made k : ℕ) → made % block ≢ 0 → made ≡ block * (k + 1) → ⊥
no_whole_blocks block made k rest ends = rest (ap (λ m. m % block) ends ∙ mul-mod_right block (k + 1))

-- the last block that so many turns fill
block_number : (block made k : ℕ) → 0 < block → made ≡ block * (k + 1) → made / block - 1 ≡ k
block_number block made k some ends =
    let quotient : made / block ≡ k + 1 = ap (λ m. m / block) ends ∙ mul-div_cancel_left (k + 1) some in
    omega (arith, quotient)

clash : (found : Option Mark) (mark : Mark) → found ≡ None → found ≡ Some mark → ⊥
clash found mark none some = let b : None ≡ Some mark = sym none ∙ some in cc

pub no_mark : (block made : ℕ) (given : List Mark) (done : Unit {0}) (here : Mark) → 0 < block → slice_get given (made / block - 1) ≡ None
    → IsCompared block given made (Ok done) here
no_mark block made given done here some none = λ k mark at ends.
    let same : slice_get given (made / block - 1) ≡ slice_get given k = ap (slice_get given) (block_number block made k some ends) in
    absurd (clash (slice_get given (made / block - 1)) mark none (same ∙ at))

pub no_block : (block made : ℕ) (given : List Mark) (done : Unit {0}) (here : Mark) → made % block ≢ 0 → IsCompared block given made (Ok done) here
no_block block made given done here rest = λ k mark at ends. absurd (no_whole_blocks block made k rest ends)

one_mark : (given : List Mark) (j k : ℕ) (mark other : Mark) → j ≡ k → slice_get given j ≡ Some mark → slice_get given k ≡ Some other → other ≡ mark
one_mark given j k mark other same at at_other = cc

pub mark_compared : (block made : ℕ) (given : List Mark) (mark here : Mark) (result : Result (Unit {0}) TurnFault) → 0 < block → 0 < made → made % block ≡ 0
    → slice_get given (made / block - 1) ≡ Some mark → MatchResult result (λ done. mark ≡ here) (λ fault. TellsOf made fault × Differs mark here fault)
    → IsCompared block given made result here
mark_compared block made given mark here (Ok done) some more whole at agrees =
    λ k other at_other ends. one_mark given (made / block - 1) k mark other (block_number block made k some ends) at at_other ∙ agrees
mark_compared block made given mark here (Err fault) some more whole at differs = record {
  blocks = made / block - 1;
  mark = mark;
  is_kept = at;
  ends = whole_blocks block made some more whole;
  told = differs.0;
  differs = differs.1;
}

pub first_run : (cores : List Core) (result : Option ℕ) → MatchOption result (AreStopped cores) (λ c. RunsAt cores c) → IfSome result (λ c. AreStoppedUpTo c cores)
    → MatchOption result (all_stopped cores ≡ true) (λ c. IsFirstRunning cores c)
first_run cores None stopped first = each_stopped cores stopped
first_run cores (Some c) runs first = record { runs = runs; before = λ k core less at. first k core less at }

pub ruleset followed = (first_run)
