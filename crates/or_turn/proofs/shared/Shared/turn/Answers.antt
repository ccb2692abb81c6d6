use Rattle.std.proofs.Common.{rules, ◌≡◌, ℕ, Bool, List, [], ◌∷◌, ◌++◌, map, replicate, get_or, set, length, Option, Some, None, refl, sym, ap, ◌∙◌, subst}
use Rattle.std.specs.List.{refill}
use Rattle.atomic_table.specs.Table.{rest}
use Rattle.or_model.specs.Core.{Core}
use Rattle.or_turn.specs.declared.view.Transfer.{Transfer}
use Rattle.or_turn.specs.declared.view.View.{View}
use Rattle.or_turn.specs.Schedules.{IsDefined}
use Rattle.or_turn.specs.Rule.{SlotHolds, settings_of}
use Rattle.or_turn.specs.Told.{TakesBus, SeatState, holding_view, done_view}
use Rattle.or_turn.specs.SeatViews.{core_of, only_of, begun_core, cores_shown, HasBegun, Turned}
use Rattle.or_turn.specs.Stays.{HasBusBegun, MadeTurns}
use Rattle.or_turn.proofs.shared.Shared.turn.Goals.{In-Some, After-wait_for_bus, After-index-as_mut_slice-0, After-stay, After-fetch_add}
use Rattle.or_turn.proofs.Turning.{finishes}
use Rattle.or_turn.proofs.Turn as turn
use Rattle.or_turn.proofs.shared.Shared.turn.Goals as goal

slot_is : (l : List (ℕ × Option Transfer)) (x y : Option Transfer) (r s : List (ℕ × Option Transfer)) → l ≡ (0, x) ∷ r → l ≡ (0, y) ∷ s → x ≡ y
slot_is l x y r s a b = let e : (0, x) ∷ r ≡ (0, y) ∷ s = sym a ∙ b in let p : (0, x) ≡ (0, y) = cc in ap (λ (q : ℕ × Option Transfer). q.1) p

some_is : (x y : Transfer) (o : Option Transfer) → o ≡ Some x → o ≡ Some y → x ≡ y
some_is x y o a b = cc

none_is : (f : Bool) → None ≡ Some f → ⊥
none_is f e = cc

has : (g : _) (c : In-Some g) → HasBegun c.args.unit.now.seat.me.0 c.in-Some.follows
has g c = c.args.unit.now.ready c.in-Some.follows c.in-Some.is

items_is : (g : _) (c : In-Some g) → c.args.unit.now.cores.items ≡ begun_core c.args.unit.now.seat.me.0 (only_of c.args.unit.now.seat.me.0) ∷ []
items_is g c = let v : View = c.args.unit.now.seat.me.0 in c.args.unit.now.shown ∙ (ap (λ (o : Option Bool). cores_shown v o) c.in-Some.is ∙ ap (λ (l : List ℕ). map (begun_core v) l) (has g c).0)

took : (g : _) (c : After-wait_for_bus g) → TakesBus c.args.unit.now.seat.me.0 c.wait_for_bus.new.seat.me
took g c = c.wait_for_bus.ensures.took

pub wait_for_bus-requires-clause-ready : goal.wait_for_bus-requires-clause-ready
unfolding core_of
wait_for_bus-requires-clause-ready g c = let h = has g (goal.at.wait_for_bus-requires-clause-ready g c).In-Some in (only_of c.args.unit.now.seat.me.0, c.args.unit.now.idle, h.0, h.1, c.args.unit.now.bare)

pub exchange-requires : goal.exchange-requires
exchange-requires g c = let k = took g (goal.at.exchange-requires g c).After-wait_for_bus in (search rules, (Some k.transfer, k.slots ∙ ap (λ cs. (0, Some k.transfer) ∷ rest cs) (sym k.slots)))

core_is : (g : _) (c : After-index-as_mut_slice-0 g) → get_or c.as_mut_slice.result.now 0 c.index-as_mut_slice-0.result ≡ begun_core c.args.unit.now.seat.me.0 (only_of c.args.unit.now.seat.me.0)
core_is g c = let h = items_is g (goal.at.After-index-as_mut_slice-0 g c).In-Some in ap (λ (xs : List Core). get_or xs 0 c.index-as_mut_slice-0.result) (c.as_mut_slice.ensures.value ∙ h)

transfer_is : (g : _) (c : After-index-as_mut_slice-0 g) (tk : TakesBus c.args.unit.now.seat.me.0 c.wait_for_bus.new.seat.me) → c.unwrap-transfer.result ≡ tk.transfer
transfer_is g c tk = some_is c.unwrap-transfer.result tk.transfer c.exchange.result c.unwrap-transfer.ensures (slot_is c.wait_for_bus.new.seat.me.1 c.exchange.result (Some tk.transfer) _ _ c.exchange.ensures.2 tk.slots)

-- the unit's core has the bus, in the middle of its turn, however often RAM was read meanwhile
begun : (g : _) (c : After-index-as_mut_slice-0 g) (now : Transfer) → now.bus.value ≡ record c.unwrap-transfer.result.bus.value { reads = now.bus.value.reads }
    → now.schedule ≡ c.unwrap-transfer.result.schedule → now.marks ≡ c.unwrap-transfer.result.marks → let v : View = c.args.unit.now.seat.me.0 in
    HasBusBegun v.settings (took g (goal.at.After-index-as_mut_slice-0 g c).After-wait_for_bus).schedule (only_of v) (get_or c.as_mut_slice.result.now 0 c.index-as_mut_slice-0.result) c.in-Some.follows now
begun g c now bus schedule marks = let at = goal.at.After-index-as_mut_slice-0 g c in let v : View = c.args.unit.now.seat.me.0 in let h = has g at.In-Some in let tk = took g at.After-wait_for_bus in
    let u = transfer_is g c tk in let k = core_is g c in
    turn.begun_again _ _ _ _ _ c.unwrap-transfer.result now
    (subst (λ (p : Core × Transfer). HasBusBegun v.settings tk.schedule (only_of v) p.0 c.in-Some.follows p.1) (λ i. (sym k i, sym u i)) (turn.taken v _ h _ tk))
    bus schedule marks

pub stay-requires-clause-begun : goal.stay-requires-clause-begun
stay-requires-clause-begun g c = let at = goal.at.stay-requires-clause-begun g c in let v : View = c.args.unit.now.seat.me.0 in let h = has g at.In-Some in let tk = took g at.After-wait_for_bus in
    (v.settings, tk.schedule, only_of v, begun g at.After-index-as_mut_slice-0 _ (search rules) refl refl)

-- the turns of this stay
stayed : (g : _) (c : After-stay g) → let v : View = c.args.unit.now.seat.me.0 in MadeTurns v.settings (took g (goal.at.After-stay g c).After-wait_for_bus).schedule (only_of v) 1 c.args.most c.stay.new.core c.stay.new.transfer
stayed g c = let at = goal.at.After-stay g c in let v : View = c.args.unit.now.seat.me.0 in let tk = took g at.After-wait_for_bus in
    c.stay.ensures v.settings tk.schedule (only_of v) (begun g at.After-index-as_mut_slice-0 _ (search rules) refl refl)

-- what a seat has that took the slot out and put it back
put_is : (m m' m'' : SeatState) (v : View) (out put : Transfer) → m' ≡ (m.0, (0, None) ∷ rest m.1) → m'' ≡ (m'.0, (0, Some put) ∷ rest m'.1) → m.0 ≡ v → m.1 ≡ (0, Some out) ∷ []
    → m'' ≡ (v, (0, Some put) ∷ [])
put_is m m' m'' v out put a b view slots = b ∙ ap (λ (x : SeatState). let r : SeatState = (x.0, (0, Some put) ∷ rest x.1) in r)
    (a ∙ ap (λ (x : SeatState). let r : SeatState = (x.0, (0, None) ∷ rest x.1) in r) (λ i. (view i, slots i)))

pub fetch_add-requires : goal.fetch_add-requires
fetch_add-requires g c = let at = goal.at.fetch_add-requires g c in let v : View = c.args.unit.now.seat.me.0 in let h = has g at.In-Some in let tk = took g at.After-wait_for_bus in
    let e = put_is _ _ _ _ _ _ c.exchange.ensures.3 c.exchange-2.ensures.3 tk.view tk.slots in let m = stayed g at.After-stay in let same : c.exchange-2.new.seat.me.0 ≡ holding_view v tk.schedule = ap (λ (x : SeatState). x.0) e in (
      search rules,
      search rules,
      finishes (settings_of c.args.self.now.table.shared.key) _ _ c.exchange-2.new.seat.me
          (only_of v)
          m.made
          _
          (ap (λ (x : View). x.stage) same)
          (ap (λ (x : View). x.cores) same ∙ h.0)
          (ap (λ (x : SeatState). x.1) e)
          m.some
          (subst (λ (x : View). IsDefined (x.settings) (x.seen ++ replicate m.made (only_of v))) (sym same) m.has.defined)
          (subst (λ (x : View). SlotHolds (x.settings) (x.seen ++ replicate m.made (only_of v)) c.stay.new.transfer) (sym same) m.has.holds),
    )

after_is : (g : _) (c : After-fetch_add g) (tk : TakesBus c.args.unit.now.seat.me.0 c.wait_for_bus.new.seat.me)
    → c.fetch_add.new.seat.me ≡ (done_view (holding_view c.args.unit.now.seat.me.0 tk.schedule) c.stay.new.transfer.schedule.items, [])
after_is g c tk = let e = put_is _ _ _ _ _ _ c.exchange.ensures.3 c.exchange-2.ensures.3 tk.view tk.slots in let told = c.fetch_add.ensures.2 in let gives = told.1 _ (ap (λ (m : SeatState). m.1) e) in
    (λ i. (gives i, told.0 i)) ∙ ap (λ (m : SeatState). let r : SeatState = (done_view m.0 c.stay.new.transfer.schedule.items, []) in r) e

pub invariant_of-unit : goal.invariant_of-unit
invariant_of-unit g c = let at = goal.at.invariant_of-unit g c in let v : View = c.args.unit.now.seat.me.0 in let h = has g at.In-Some in let tk = took g at.After-wait_for_bus in
    let e = after_is g at.After-fetch_add tk in let m = stayed g at.After-stay in let w : View = turn.after v _ h _ tk _ _ _ m in
    let core = turn.core_after_stay v _ h _ tk _ _ _ m in record {
      bare = ap (λ (x : SeatState). x.1) e;
      idle = ap (λ (x : SeatState). x.0.stage) e;
      shown = ap (λ (xs : List Core). refill (length xs) xs (set c.as_mut_slice.result.now 0 c.stay.new.core)) (items_is g at.In-Some)
          ∙ (ap (λ (xs : List Core). refill 1 (begun_core v (only_of v) ∷ []) (set xs 0 c.stay.new.core)) (c.as_mut_slice.ensures.value ∙ items_is g at.In-Some)
          ∙ (ap (λ (x : Core). x ∷ []) core ∙ (ap (λ (l : List ℕ). map (core_of w) l) (sym h.0) ∙ ap (λ (x : SeatState). map (core_of x.0) x.0.cores) (sym e))));
      ready = λ f x. absurd (none_is f x);
    }

pub returns-clause-turned : goal.returns-clause-turned
returns-clause-turned g c = λ d one. let at = goal.at.returns-clause-turned g c in let v : View = c.args.unit.now.seat.me.0 in let h = has g at.In-Some in let tk = took g at.After-wait_for_bus in
    let e = after_is g at.After-fetch_add tk in let m = stayed g at.After-stay in let same : only_of v ≡ d = ap (λ (l : List ℕ). get_or l 0 0) one in
    subst (λ (p : View × ℕ). Turned v p.0 p.1 c.args.most) (λ i. (sym (ap (λ (x : SeatState). x.0) e) i, same i)) (turn.turned v _ h _ tk _ _ _ m c.args.unit.now.idle)
