-- A schedule is refused in one way at most.
use Rattle.std.proofs.Common.{◌≡◌, ◌≢◌, ℕ, ◌+◌, ◌*◌, ◌<◌, ◌≤◌, zero, suc, List, [], ◌∷◌, Some, None, length, take, refl, ap, sym, ◌∙◌, arith, subst, ◌⊎◌, inl, inr}
use Rattle.std.specs.Prelude.{slice_get, Result, Ok, Err, true}
use Rattle.std.proofs.lemmas.Nat.{mul-le}
use Rattle.std.proofs.lemmas.List.{take-take}
use Rattle.or_sched.specs.declared.recording.Mark.{Mark}
use Rattle.or_model.specs.Core.{Core}
use Rattle.or_model.specs.Turn.{Board, replay}
use Rattle.or_replay.specs.Board.{RefusedBy, all_stopped}
use Rattle.or_replay.specs.Marks.{mark_of, mark_after}
use Rattle.or_replay.specs.declared.board.Refused.{Refused}
use Rattle.or_replay.specs.declared.board.Refused.TheVariants.{NoSuchCore, CoreStopped}
use Rattle.or_replay.specs.declared.follow.TurnFault.{TurnFault}
use Rattle.or_replay.specs.declared.follow.TurnFault.TheVariants.{NoCore, Stopped, Running, Writes, Console}
use Rattle.or_replay.specs.Following.{AgreeWithin, LeadsTo, TurnRefused, MarkRefused, Differs, TellsOf, IsFirstRunning, Followed}
use Rattle.or_replay.proofs.Followable.{refused_turn, refused_board, no_difference, none_runs, get_some}

less_same_more : (m n : ℕ) → (m < n) ⊎ ((m ≡ n) ⊎ (n < m))
less_same_more zero zero = inr (inl refl)
less_same_more zero (suc n) = inl (omega arith)
less_same_more (suc m) zero = inr (inr (omega arith))
less_same_more (suc m) (suc n) = elim (less_same_more m n) [
  | inl less ↦ inl (omega (arith, less))
  | inr rest ↦ elim rest [ inl same ↦ inr (inl (ap suc same)) | inr more ↦ inr (inr (omega (arith, more))) ]
]

get_take : (turns : List ℕ) (m n c : ℕ) → m < n → slice_get turns m ≡ Some c → slice_get (take n turns) m ≡ Some c
get_take [] m n c less at = absurd (let b : ⊥ = cc in b)
get_take (turn ∷ turns) m zero c less at = absurd (omega (arith, less))
get_take (turn ∷ turns) zero (suc n) c less at = at
get_take (turn ∷ turns) (suc m) (suc n) c less at = get_take turns m n c (omega (arith, less)) at

get_inside : (turns : List ℕ) (n c : ℕ) → slice_get turns n ≡ Some c → n < length turns
get_inside [] n c at = absurd (let b : ⊥ = cc in b)
get_inside (turn ∷ turns) zero c at = omega arith
get_inside (turn ∷ turns) (suc n) c at = omega (arith, get_inside turns n c at)

-- what is told of one schedule
module _ (block : ℕ) (some : 0 < block) (start : Board) (turns : List ℕ) (given : List Mark) where
  -- one board is reached
  one_board : (n : ℕ) (now other : Board) → replay start (take n turns) ≡ Some now → replay start (take n turns) ≡ Some other → now ≡ other
  one_board n now other reached again = let e : Some now ≡ Some other = sym reached ∙ again in cc

  -- no turn is refused before a place that is reached
  turn_made : (m n : ℕ) (refused : Refused) (now last : Board) → TurnRefused block start turns given m refused now → m < n → replay start (take n turns) ≡ Some last → ⊥
  turn_made m n refused now last is less reached =
      let before : replay start (take m (take n turns)) ≡ Some now = ap (replay start) (take-take m n turns (omega (arith, less))) ∙ is.before.reached in
      let none = refused_turn start now (take n turns) m is.core before (get_take turns m n is.core less is.turn) (refused_board refused now is.core is.why) in
      let e : None ≡ Some last = sym none ∙ reached in let b : ⊥ = cc in b

  -- no mark is refused within a front whose marks agree
  mark_agrees : (m n : ℕ) (fault : TurnFault) (now : Board) → MarkRefused block start turns given m fault now → AgreeWithin block start turns given n → m ≤ n → ⊥
  mark_agrees m n fault now is agree within =
      let reached : replay start (take (block * (is.blocks + 1)) turns) ≡ Some now = ap (λ k. replay start (take k turns)) (sym is.ends) ∙ is.reached in
      let same : is.mark ≡ mark_of now.world = agree is.blocks is.mark is.is_kept (omega (arith, is.ends, within)) ∙ ap mark_after reached in
      no_difference is.mark (mark_of now.world) fault same is.differs

  abbrev fault_of : Refused → ℕ → TurnFault
  fault_of NoSuchCore n = NoCore n
  fault_of CoreStopped n = Stopped n

  -- a schedule that was followed ends behind all turns, at a turn, or at a mark
  abbrev EndIs : Result (Unit {0}) TurnFault → Board → Type 0
  EndIs (Ok done) last = all_stopped last.cores ≡ true
  EndIs (Err (NoCore turn)) last = ⊥
  EndIs (Err (Stopped turn)) last = ⊥
  EndIs (Err (Running core)) last = IsFirstRunning last.cores core
  EndIs (Err (Writes turn kept found)) last = ⊥
  EndIs (Err (Console turn kept found)) last = ⊥

  record AtEnd (result : Result (Unit {0}) TurnFault) (last : Board) : Type 0 where
    pub leads : LeadsTo block start turns given (length turns) last
    pub how : EndIs result last

  record AtTurn (result : Result (Unit {0}) TurnFault) (last : Board) : Type 0 where
    pub n : ℕ
    pub refused : Refused
    pub is : TurnRefused block start turns given n refused last
    pub tells : result ≡ Err (fault_of refused n)

  record AtMark (result : Result (Unit {0}) TurnFault) (last : Board) : Type 0 where
    pub n : ℕ
    pub fault : TurnFault
    pub is : MarkRefused block start turns given n fault last
    pub told : TellsOf n fault
    pub tells : result ≡ Err fault

  seen : (result : Result (Unit {0}) TurnFault) (last : Board) → Followed block start turns given result last → AtEnd result last ⊎ (AtTurn result last ⊎ AtMark result last)
  seen (Ok done) last is = inl (record { leads = is.0; how = is.1 })
  seen (Err (NoCore turn)) last is = inr (inl (record { n = turn; refused = NoSuchCore; is = is; tells = refl }))
  seen (Err (Stopped turn)) last is = inr (inl (record { n = turn; refused = CoreStopped; is = is; tells = refl }))
  seen (Err (Running core)) last is = inl (record { leads = is.0; how = is.1 })
  seen (Err (Writes turn kept found)) last is = inr (inr (record { n = turn; fault = Writes turn kept found; is = is; told = refl; tells = refl }))
  seen (Err (Console turn kept found)) last is = inr (inr (record { n = turn; fault = Console turn kept found; is = is; told = refl; tells = refl }))

  pub record IsOne (one other : Result (Unit {0}) TurnFault) (last again : Board) : Type 0 where
    pub same_result : one ≡ other
    pub same_board : last ≡ again

  least_core : (cores : List Core) (c d : ℕ) → IsFirstRunning cores c → IsFirstRunning cores d → c < d → ⊥
  least_core cores c d first second less =
      let found = get_some cores c first.runs.0 in second.before c found.0 less found.1 (first.runs.1 found.0 found.1)

  one_core : (cores : List Core) (c d : ℕ) → IsFirstRunning cores c → IsFirstRunning cores d → c ≡ d
  one_core cores c d first second = elim (less_same_more c d) [
    | inl less ↦ absurd (least_core cores c d first second less)
    | inr rest ↦ elim rest [ inl same ↦ same | inr more ↦ absurd (least_core cores d c second first more) ]
  ]

  stopped_or_runs : (cores : List Core) (c : ℕ) → all_stopped cores ≡ true → IsFirstRunning cores c → ⊥
  stopped_or_runs cores c stopped first =
      let found = get_some cores c first.runs.0 in none_runs cores c found.0 stopped found.1 (first.runs.1 found.0 found.1)

  one_end : (one other : Result (Unit {0}) TurnFault) (last : Board) → EndIs one last → EndIs other last → one ≡ other
  one_end (Ok done) (Ok again) last is also = refl
  one_end (Ok done) (Err (Running core)) last is also = absurd (stopped_or_runs last.cores core is also)
  one_end (Ok done) (Err (NoCore turn)) last is also = absurd also
  one_end (Ok done) (Err (Stopped turn)) last is also = absurd also
  one_end (Ok done) (Err (Writes turn kept found)) last is also = absurd also
  one_end (Ok done) (Err (Console turn kept found)) last is also = absurd also
  one_end (Err (Running core)) (Ok done) last is also = absurd (stopped_or_runs last.cores core also is)
  one_end (Err (Running core)) (Err (Running again)) last is also = ap (λ c. Err (Running c)) (one_core last.cores core again is also)
  one_end (Err (Running core)) (Err (NoCore turn)) last is also = absurd also
  one_end (Err (Running core)) (Err (Stopped turn)) last is also = absurd also
  one_end (Err (Running core)) (Err (Writes turn kept found)) last is also = absurd also
  one_end (Err (Running core)) (Err (Console turn kept found)) last is also = absurd also
  one_end (Err (NoCore turn)) other last is also = absurd is
  one_end (Err (Stopped turn)) other last is also = absurd is
  one_end (Err (Writes turn kept found)) other last is also = absurd is
  one_end (Err (Console turn kept found)) other last is also = absurd is

  end_end : (one other : Result (Unit {0}) TurnFault) (last again : Board) → AtEnd one last → AtEnd other again → IsOne one other last again
  end_end one other last again is also =
      let same = one_board (length turns) last again is.leads.reached also.leads.reached in
      record { same_result = one_end one other last is.how (subst (λ (b : Board). EndIs other b) (sym same) also.how); same_board = same }

  end_turn : (one other : Result (Unit {0}) TurnFault) (last again : Board) → AtEnd one last → AtTurn other again → ⊥
  end_turn one other last again is also =
      turn_made also.n (length turns) also.refused again last also.is (get_inside turns also.n also.is.core also.is.turn) is.leads.reached

  end_mark : (one other : Result (Unit {0}) TurnFault) (last again : Board) → AtEnd one last → AtMark other again → ⊥
  end_mark one other last again is also = mark_agrees also.n (length turns) also.fault again also.is is.leads.agree also.is.within

  one_refusal : (cores : List Core) (c : ℕ) (refused other : Refused) → RefusedBy {T = Unit {0}} cores c (Err refused) → RefusedBy {T = Unit {0}} cores c (Err other) → refused ≡ other
  one_refusal cores c NoSuchCore NoSuchCore why also = refl
  one_refusal cores c NoSuchCore CoreStopped why also = absurd (omega (arith, why, also.0))
  one_refusal cores c CoreStopped NoSuchCore why also = absurd (omega (arith, why.0, also))
  one_refusal cores c CoreStopped CoreStopped why also = refl

  same_turn : (n : ℕ) (refused other : Refused) (last again : Board) → TurnRefused block start turns given n refused last → TurnRefused block start turns given n other again
      → (refused ≡ other) × (last ≡ again)
  same_turn n refused other last again is also =
      let same = one_board n last again is.before.reached also.before.reached in
      let core : is.core ≡ also.core = let e : Some is.core ≡ Some also.core = sym is.turn ∙ also.turn in cc in
      let why : RefusedBy {T = Unit {0}} last.cores is.core (Err other) =
      subst (λ (b : Board). RefusedBy {T = Unit {0}} b.cores is.core (Err other)) (sym same) (subst (λ (c : ℕ). RefusedBy {T = Unit {0}} again.cores c (Err other)) (sym core) also.why) in
      (one_refusal last.cores is.core refused other is.why why, same)

  turn_turn : (one other : Result (Unit {0}) TurnFault) (last again : Board) → AtTurn one last → AtTurn other again → IsOne one other last again
  turn_turn one other last again is also = elim (less_same_more is.n also.n) [
    | inl less ↦ absurd (turn_made is.n also.n is.refused last again is.is less also.is.before.reached)
    | inr rest ↦ elim rest [
      | inl same ↦ let both = same_turn is.n is.refused also.refused last again is.is
          (subst (λ (n : ℕ). TurnRefused block start turns given n also.refused again) (sym same) also.is) in
          record {
            same_result = is.tells ∙ ap (λ r. Err (fault_of r is.n)) both.0 ∙ ap (λ n. Err (fault_of also.refused n)) same ∙ sym also.tells;
            same_board = both.1;
          }
      | inr more ↦ absurd (turn_made also.n is.n also.refused again last also.is more is.is.before.reached)
    ]
  ]

  turn_mark : (one other : Result (Unit {0}) TurnFault) (last again : Board) → AtTurn one last → AtMark other again → ⊥
  turn_mark one other last again is also = elim (less_same_more is.n also.n) [
    | inl less ↦ turn_made is.n also.n is.refused last again is.is less also.is.reached
    | inr rest ↦ elim rest [
      | inl same ↦ mark_agrees also.n is.n also.fault again also.is is.is.before.agree (omega (arith, same))
      | inr more ↦ mark_agrees also.n is.n also.fault again also.is is.is.before.agree (omega (arith, more))
    ]
  ]

  -- a mark of an earlier block agrees
  earlier_mark : (m n : ℕ) (fault other : TurnFault) (last again : Board) (is : MarkRefused block start turns given m fault last) (also : MarkRefused block start turns given n other again)
      → is.blocks < also.blocks → ⊥
  earlier_mark m n fault other last again is also less =
      let small : block * (is.blocks + 1) ≤ block * also.blocks = mul-le block (is.blocks + 1) block also.blocks (omega arith) (omega (arith, less)) in
      mark_agrees m (block * also.blocks) fault last is also.agree (omega (arith, small, is.ends))

  one_writes : (mark here : Mark) (n turn kept found : ℕ) (other : TurnFault) → TellsOf n other → Differs mark here other → turn ≡ n
      → (kept ≡ mark.writes) × (found ≡ here.writes) × (mark.writes ≢ here.writes) → Writes turn kept found ≡ other
  one_writes mark here n turn kept found (NoCore t) told also tells is = absurd told
  one_writes mark here n turn kept found (Stopped t) told also tells is = absurd told
  one_writes mark here n turn kept found (Running c) told also tells is = absurd told
  one_writes mark here n turn kept found (Writes t k f) told also tells is =
      ap (λ x. Writes x kept found) (tells ∙ sym told) ∙ ap (λ x. Writes t x found) (is.0 ∙ sym also.0) ∙ ap (λ x. Writes t k x) (is.1 ∙ sym also.1)
  one_writes mark here n turn kept found (Console t k f) told also tells is = absurd (is.2 also.0)

  one_console : (mark here : Mark) (n turn kept found : ℕ) (other : TurnFault) → TellsOf n other → Differs mark here other → turn ≡ n
      → (mark.writes ≡ here.writes) × (kept ≡ mark.console) × (found ≡ here.console) × (mark.console ≢ here.console) → Console turn kept found ≡ other
  one_console mark here n turn kept found (NoCore t) told also tells is = absurd told
  one_console mark here n turn kept found (Stopped t) told also tells is = absurd told
  one_console mark here n turn kept found (Running c) told also tells is = absurd told
  one_console mark here n turn kept found (Writes t k f) told also tells is = absurd (also.2 is.0)
  one_console mark here n turn kept found (Console t k f) told also tells is =
      ap (λ x. Console x kept found) (tells ∙ sym told) ∙ ap (λ x. Console t x found) (is.1 ∙ sym also.1) ∙ ap (λ x. Console t k x) (is.2 ∙ sym also.2)

  one_difference : (mark here : Mark) (n : ℕ) (fault other : TurnFault) → TellsOf n fault → TellsOf n other → Differs mark here fault → Differs mark here other → fault ≡ other
  one_difference mark here n (NoCore t) other told also is differs = absurd told
  one_difference mark here n (Stopped t) other told also is differs = absurd told
  one_difference mark here n (Running c) other told also is differs = absurd told
  one_difference mark here n (Writes t k f) other told also is differs = one_writes mark here n t k f other also differs told is
  one_difference mark here n (Console t k f) other told also is differs = one_console mark here n t k f other also differs told is

  same_mark : (m n : ℕ) (fault other : TurnFault) (last again : Board) (is : MarkRefused block start turns given m fault last) (also : MarkRefused block start turns given n other again)
      → is.blocks ≡ also.blocks → TellsOf m fault → TellsOf n other → (fault ≡ other) × (last ≡ again)
  same_mark m n fault other last again is also blocks told also_told =
      let place : m ≡ n = is.ends ∙ ap (λ b. block * (b + 1)) blocks ∙ sym also.ends in
      let same = one_board m last again is.reached (ap (λ k. replay start (take k turns)) place ∙ also.reached) in
      let e : Some is.mark ≡ Some also.mark = sym is.is_kept ∙ ap (slice_get given) blocks ∙ also.is_kept in
      let mark : also.mark ≡ is.mark = cc in
      let differs : Differs is.mark (mark_of last.world) other =
      subst (λ (b : Board). Differs is.mark (mark_of b.world) other) (sym same) (subst (λ (k : Mark). Differs k (mark_of again.world) other) mark also.differs) in
      (one_difference is.mark (mark_of last.world) m fault other told (subst (λ (k : ℕ). TellsOf k other) (sym place) also_told) is.differs differs, same)

  mark_mark : (one other : Result (Unit {0}) TurnFault) (last again : Board) → AtMark one last → AtMark other again → IsOne one other last again
  mark_mark one other last again is also = elim (less_same_more is.is.blocks also.is.blocks) [
    | inl less ↦ absurd (earlier_mark is.n also.n is.fault also.fault last again is.is also.is less)
    | inr rest ↦ elim rest [
      | inl same ↦ let both = same_mark is.n also.n is.fault also.fault last again is.is also.is same is.told also.told in
          record { same_result = is.tells ∙ ap Err both.0 ∙ sym also.tells; same_board = both.1 }
      | inr more ↦ absurd (earlier_mark also.n is.n also.fault is.fault again last also.is is.is more)
    ]
  ]

  one_seen : (one other : Result (Unit {0}) TurnFault) (last again : Board) → AtEnd one last ⊎ (AtTurn one last ⊎ AtMark one last)
      → AtEnd other again ⊎ (AtTurn other again ⊎ AtMark other again) → IsOne one other last again
  one_seen one other last again (inl is) (inl also) = end_end one other last again is also
  one_seen one other last again (inl is) (inr (inl also)) = absurd (end_turn one other last again is also)
  one_seen one other last again (inl is) (inr (inr also)) = absurd (end_mark one other last again is also)
  one_seen one other last again (inr (inl is)) (inl also) = absurd (end_turn other one again last also is)
  one_seen one other last again (inr (inl is)) (inr (inl also)) = turn_turn one other last again is also
  one_seen one other last again (inr (inl is)) (inr (inr also)) = absurd (turn_mark one other last again is also)
  one_seen one other last again (inr (inr is)) (inl also) = absurd (end_mark other one again last also is)
  one_seen one other last again (inr (inr is)) (inr (inl also)) = absurd (turn_mark other one again last also is)
  one_seen one other last again (inr (inr is)) (inr (inr also)) = mark_mark one other last again is also

  -- a schedule is followed in one way
  pub followed_in_one_way : (one other : Result (Unit {0}) TurnFault) (last again : Board) → Followed block start turns given one last → Followed block start turns given other again
      → (one ≡ other) × (last ≡ again)
  followed_in_one_way one other last again is also =
      let both = one_seen one other last again (seen one last is) (seen other again also) in (both.same_result, both.same_board)
