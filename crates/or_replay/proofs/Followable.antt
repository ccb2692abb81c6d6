-- A schedule is followed to its end exactly where it leads there and its marks are those of the board's history.
use Rattle.std.proofs.Common.{◌≡◌, ℕ, ◌+◌, ◌*◌, ◌/◌, ◌<◌, ◌≤◌, zero, suc, List, [], ◌∷◌, ◌++◌, Some, None, length, take, drop, refl, ap, sym, ◌∙◌, arith, subst, add-one, ◌⊎◌, inl, inr, Bool, true, false, cond, ◌&&◌}
use Rattle.std.specs.Prelude.{Option, slice_get, Result, Ok, Err, is_none, MatchResult}
use Rattle.std.proofs.lemmas.List.{take-append-drop, take_all}
use Rattle.or_sched.specs.declared.recording.Mark.{Mark}
use Rattle.or_model.specs.declared.Stop.{Stop}
use Rattle.or_model.specs.Core.{Core}
use Rattle.or_model.specs.Turn.{Board, board_turned, board_turned_by, running, and_then, replay}
use Rattle.or_replay.specs.Board.{RunsAt, RefusedBy, all_stopped}
use Rattle.or_replay.specs.Marks.{mark_of, mark_after, block_marks, marks}
use Rattle.or_replay.specs.declared.board.Refused.{Refused}
use Rattle.or_replay.specs.declared.board.Refused.TheVariants.{NoSuchCore, CoreStopped}
use Rattle.or_replay.specs.declared.follow.TurnFault.{TurnFault}
use Rattle.or_replay.specs.declared.follow.TurnFault.TheVariants.{NoCore, Stopped, Running, Writes, Console}
use Rattle.or_replay.specs.Following.{AgreeWithin, LeadsTo, TurnRefused, MarkRefused, Differs, Followed, IsFollowable}
use Rattle.or_replay.proofs.Replaying.{length-block_marks}

-- lists with the same elements at the same places
same_marks : (xs ys : List Mark) → length xs ≡ length ys → ((k : ℕ) (x : Mark) → slice_get xs k ≡ Some x → slice_get ys k ≡ Some x) → xs ≡ ys
same_marks [] [] long each = refl
same_marks [] (y ∷ ys) long each = absurd (omega (arith, long))
same_marks (x ∷ xs) [] long each = absurd (omega (arith, long))
same_marks (x ∷ xs) (y ∷ ys) long each =
    let first : y ≡ x = let e : Some y ≡ Some x = each 0 x refl in cc in
    let later : xs ≡ ys = same_marks xs ys (omega (arith, long)) (λ k z at. each (suc k) z at) in
    cc

get_front : (xs ys : List Mark) (k : ℕ) → k < length xs → slice_get (xs ++ ys) k ≡ slice_get xs k
get_front [] ys k inside = absurd (omega arith)
get_front (x ∷ xs) ys zero inside = refl
get_front (x ∷ xs) ys (suc k) inside = get_front xs ys k (omega (arith, inside))

get_last : (xs : List Mark) (y : Mark) → slice_get (xs ++ y ∷ []) (length xs) ≡ Some y
get_last [] y = refl
get_last (x ∷ xs) y = get_last xs y

less_or_same : (k n : ℕ) → k < suc n → (k < n) ⊎ (k ≡ n)
less_or_same zero zero less = inr refl
less_or_same zero (suc n) less = inl (omega arith)
less_or_same (suc k) zero less = absurd (omega (arith, less))
less_or_same (suc k) (suc n) less = elim (less_or_same k n (omega (arith, less))) [ inl w ↦ inl (omega (arith, w)) | inr w ↦ inr (ap suc w) ]

-- the mark of each block
mark_at : (block : ℕ) (start : Board) (turns : List ℕ) (n k : ℕ) → k < n
    → slice_get (block_marks block start turns n) k ≡ Some (mark_after (replay start (take (block * (k + 1)) turns)))
mark_at block start turns zero k inside = absurd (omega (arith, inside))
mark_at block start turns (suc n) k inside =
    let front = block_marks block start turns n in
    let last = mark_after (replay start (take (block * suc n) turns)) in
    let long : length front ≡ n = length-block_marks block start turns n in
    elim (less_or_same k n inside) [
      | inl less ↦ get_front front (last ∷ []) k (omega (arith, less, long)) ∙ mark_at block start turns n k less
      | inr same ↦ ap (slice_get (front ++ last ∷ [])) (same ∙ sym long) ∙ get_last front last
          ∙ ap (λ m. Some (mark_after (replay start (take (block * m) turns)))) (sym (add-one n) ∙ ap (λ m. m + 1) (sym same))
    ]

inside_get : (xs : List Mark) (k : ℕ) (x : Mark) → slice_get xs k ≡ Some x → k < length xs
inside_get [] k x at = absurd (let b : ⊥ = cc in b)
inside_get (y ∷ xs) zero x at = omega arith
inside_get (y ∷ xs) (suc k) x at = omega (arith, inside_get xs k x at)

-- marks that agree are those of the board's history
marks_agree : (start : Board) (turns : List ℕ) (given : List Mark) → length given ≡ length turns / 65536
    → AgreeWithin 65536 start turns given (length turns) → given ≡ marks start turns
unfolding marks
marks_agree start turns given many agree =
    let n : ℕ = length turns / 65536 in
    same_marks given (block_marks 65536 start turns n) (many ∙ sym (length-block_marks 65536 start turns n)) (λ k mark at.
    let inside : k < n = omega (arith, many, inside_get given k mark at) in
    mark_at 65536 start turns n k inside ∙ ap Some (sym (agree k mark at (omega (arith, inside)))))

-- the whole list of turns
whole : (start : Board) (turns : List ℕ) → replay start (take (length turns) turns) ≡ replay start turns
whole start turns = ap (replay start) (take_all (length turns) turns (omega arith))

-- what is followed to its end
followed_ok : (start : Board) (turns : List ℕ) (given : List Mark) (last : Board) → (given ≡ []) ⊎ (length given ≡ length turns / 65536)
    → LeadsTo 65536 start turns given (length turns) last → all_stopped last.cores ≡ true → IsFollowable start turns given
followed_ok start turns given last (inl none) leads stopped =
    record { last = last; reached = sym (whole start turns) ∙ leads.reached; agree = inl none; stopped = stopped }
followed_ok start turns given last (inr many) leads stopped =
    record { last = last; reached = sym (whole start turns) ∙ leads.reached; agree = inr (marks_agree start turns given many leads.agree); stopped = stopped }

-- the turns behind the first ones
then_replay : (first : Option Board) (xs ys : List ℕ) → ((next : Board) → replay next (xs ++ ys) ≡ and_then (replay next xs) (λ last. replay last ys))
    → and_then first (λ next. replay next (xs ++ ys)) ≡ and_then (and_then first (λ next. replay next xs)) (λ last. replay last ys)
then_replay None xs ys later = refl
then_replay (Some next) xs ys later = later next

pub replay_append : (board : Board) (xs ys : List ℕ) → replay board (xs ++ ys) ≡ and_then (replay board xs) (λ last. replay last ys)
replay_append board [] ys = refl
replay_append board (x ∷ xs) ys = then_replay (board_turned board x) xs ys (λ next. replay_append next xs ys)

drop_get : (turns : List ℕ) (n c : ℕ) → slice_get turns n ≡ Some c → drop n turns ≡ c ∷ drop (suc n) turns
drop_get [] n c at = absurd (let b : ⊥ = cc in b)
drop_get (turn ∷ turns) zero c at = let same : turn ≡ c = cc in ap (λ t. t ∷ turns) same
drop_get (turn ∷ turns) (suc n) c at = drop_get turns n c at

-- a turn that is refused ends the replay
pub refused_turn : (start now : Board) (turns : List ℕ) (n c : ℕ) → replay start (take n turns) ≡ Some now → slice_get turns n ≡ Some c → board_turned now c ≡ None
    → replay start turns ≡ None
refused_turn start now turns n c reached at refused =
    let parts : take n turns ++ drop n turns ≡ turns = take-append-drop n turns in
    ap (replay start) (sym parts) ∙ replay_append start (take n turns) (drop n turns) ∙ ap (λ b. and_then b (λ last. replay last (drop n turns))) reached
    ∙ ap (replay now) (drop_get turns n c at) ∙ ap (λ b. and_then b (λ next. replay next (drop (suc n) turns))) refused

get_past : (cores : List Core) (c : ℕ) → length cores ≤ c → slice_get cores c ≡ None
get_past [] c past = refl
get_past (core ∷ cores) zero past = absurd (omega (arith, past))
get_past (core ∷ cores) (suc c) past = get_past cores c (omega (arith, past))

pub get_some : (cores : List Core) (c : ℕ) → c < length cores → (core : Core) × (slice_get cores c ≡ Some core)
get_some [] c inside = absurd (omega arith)
get_some (core ∷ cores) zero inside = (core, refl)
get_some (core ∷ cores) (suc c) inside = get_some cores c (omega arith)

refused_core : (now : Board) (c : ℕ) → length now.cores ≤ c → board_turned now c ≡ None
unfolding board_turned
refused_core now c past = ap (λ o. board_turned_by now c (running o)) (get_past now.cores c past)

stopped_core : (now : Board) (c : ℕ) → c < length now.cores → ((core : Core) → slice_get now.cores c ≡ Some core → is_none core.stop ≡ false) → board_turned now c ≡ None
unfolding board_turned
stopped_core now c inside stopped =
    let found = get_some now.cores c inside in
    let core : Core = found.0 in
    ap (λ o. board_turned_by now c (running o)) found.1 ∙ ap (λ b. board_turned_by now c (cond b (Some core) None)) (stopped core found.1)

pub refused_board : (refused : Refused) (now : Board) (c : ℕ) → RefusedBy {T = Unit {0}} now.cores c (Err refused) → board_turned now c ≡ None
refused_board NoSuchCore now c why = refused_core now c why
refused_board CoreStopped now c why = stopped_core now c why.0 why.1

none_some : (b : Option Board) (last : Board) → b ≡ None → b ≡ Some last → ⊥
none_some b last none some = let e : None ≡ Some last = sym none ∙ some in cc

not_turn : (start : Board) (turns : List ℕ) (given : List Mark) (n : ℕ) (refused : Refused) (now : Board) → TurnRefused 65536 start turns given n refused now
    → IsFollowable start turns given → ⊥
not_turn start turns given n refused now is followable =
    none_some (replay start turns) followable.last
    (refused_turn start now turns n is.core is.before.reached is.turn (refused_board refused now is.core is.why)) followable.reached

mark_is : (start : Board) (turns : List ℕ) (given : List Mark) (blocks : ℕ) (mark : Mark) (now : Board) → (given ≡ []) ⊎ (given ≡ marks start turns)
    → slice_get given blocks ≡ Some mark → replay start (take (65536 * (blocks + 1)) turns) ≡ Some now → 65536 * (blocks + 1) ≤ length turns → mark ≡ mark_of now.world
unfolding marks
mark_is start turns given blocks mark now (inl none) at reached within = absurd (let b : None ≡ Some mark = sym (ap (λ (l : List Mark). slice_get l blocks) none) ∙ at in cc)
mark_is start turns given blocks mark now (inr all) at reached within =
    let inside : blocks < length turns / 65536 = omega (arith, within) in
    let found = sym (mark_at 65536 start turns (length turns / 65536) blocks inside) ∙ sym (ap (λ (l : List Mark). slice_get l blocks) all) ∙ at in
    let same : mark_after (replay start (take (65536 * (blocks + 1)) turns)) ≡ mark = cc in
    sym same ∙ ap mark_after reached

pub no_difference : (mark here : Mark) (fault : TurnFault) → mark ≡ here → Differs mark here fault → ⊥
no_difference mark here (NoCore turn) same differs = differs
no_difference mark here (Stopped turn) same differs = differs
no_difference mark here (Running core) same differs = differs
no_difference mark here (Writes turn kept found) same differs = differs.2 (ap (λ (m : Mark). m.writes) same)
no_difference mark here (Console turn kept found) same differs = differs.3 (ap (λ (m : Mark). m.console) same)

not_mark : (start : Board) (turns : List ℕ) (given : List Mark) (n : ℕ) (fault : TurnFault) (now : Board) → MarkRefused 65536 start turns given n fault now
    → IsFollowable start turns given → ⊥
not_mark start turns given n fault now is followable =
    let reached : replay start (take (65536 * (is.blocks + 1)) turns) ≡ Some now = ap (λ m. replay start (take m turns)) (sym is.ends) ∙ is.reached in
    let within : 65536 * (is.blocks + 1) ≤ length turns = omega (arith, is.ends, is.within) in
    no_difference is.mark (mark_of now.world) fault (mark_is start turns given is.blocks is.mark now followable.agree is.is_kept reached within) is.differs

front_stopped : (a b : Bool) → (a && b) ≡ true → a ≡ true
front_stopped true b e = refl
front_stopped false b e = absurd (let c : ⊥ = cc in c)

rest_stopped : (a b : Bool) → (a && b) ≡ true → b ≡ true
rest_stopped true b e = e
rest_stopped false b e = absurd (let c : ⊥ = cc in c)

has_stopped : (core : Core) → (cond (is_none core.stop) false true) ≡ true → core.stop ≡ None → ⊥
has_stopped core stopped runs =
    let e : false ≡ true = sym (ap (λ (s : Option Stop). cond (is_none s) false true) runs) ∙ stopped in let c : ⊥ = cc in c

-- no core runs among cores that all have stopped
pub none_runs : (cores : List Core) (c : ℕ) (core : Core) → all_stopped cores ≡ true → slice_get cores c ≡ Some core → core.stop ≡ None → ⊥
none_runs [] c core stopped at runs = let b : ⊥ = cc in b
none_runs (first ∷ cores) zero core stopped at runs =
    let same : first ≡ core = cc in
    has_stopped first (front_stopped (cond (is_none first.stop) false true) (all_stopped cores) stopped) (ap (λ (k : Core). k.stop) same ∙ runs)
none_runs (first ∷ cores) (suc c) core stopped at runs =
    none_runs cores c core (rest_stopped (cond (is_none first.stop) false true) (all_stopped cores) stopped) at runs

not_running : (start : Board) (turns : List ℕ) (given : List Mark) (c : ℕ) (last : Board) → LeadsTo 65536 start turns given (length turns) last → RunsAt last.cores c
    → IsFollowable start turns given → ⊥
not_running start turns given c last leads runs followable =
    let found = get_some last.cores c runs.0 in
    let e : Some last ≡ Some followable.last = sym leads.reached ∙ whole start turns ∙ followable.reached in
    let same : last ≡ followable.last = cc in
    none_runs last.cores c found.0 (subst (λ (b : Board). all_stopped b.cores ≡ true) (sym same) followable.stopped) found.1 (runs.1 found.0 found.1)

-- a schedule is followed to its end exactly where it can be
pub followed_exactly : (start : Board) (turns : List ℕ) (given : List Mark) (result : Result (Unit {0}) TurnFault) (last : Board)
    → (given ≡ []) ⊎ (length given ≡ length turns / 65536) → Followed 65536 start turns given result last
    → MatchResult result (λ done. IsFollowable start turns given) (λ fault. IsFollowable start turns given → ⊥)
followed_exactly start turns given (Ok done) last kept is = followed_ok start turns given last kept is.0 is.1
followed_exactly start turns given (Err (NoCore turn)) last kept is = not_turn start turns given turn NoSuchCore last is
followed_exactly start turns given (Err (Stopped turn)) last kept is = not_turn start turns given turn CoreStopped last is
followed_exactly start turns given (Err (Running core)) last kept is = not_running start turns given core last is.0 is.1.runs
followed_exactly start turns given (Err (Writes turn told found)) last kept is = not_mark start turns given turn (Writes turn told found) last is
followed_exactly start turns given (Err (Console turn told found)) last kept is = not_mark start turns given turn (Console turn told found) last is
