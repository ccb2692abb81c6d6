use Rattle.std.proofs.Common.{◌≡◌, ℕ, Bool, List, length, map, Option, None, Some, refl, sym, ap, ◌∙◌, subst, arith}
use mathlib.Core.Option.{some-injective}
use lib.ListN.{length-map}
use Rattle.or_turn.specs.declared.view.Settings.{Settings}
use Rattle.or_model.specs.Core.{Core}
use Rattle.or_replay.specs.Marks.{marks}
use Rattle.or_turn.specs.Schedules.{IsDefined, count, core_at, board_of, first_board}
use Rattle.or_bus.specs.State.{BusState}
use Rattle.or_bus.specs.Represents.{Represents}
use Rattle.or_turn.specs.declared.view.Transfer.{Transfer}
use Rattle.or_turn.specs.declared.view.View.{View}
use Rattle.or_turn.specs.Ordered.{Numbered, Among}
use Rattle.or_turn.specs.Rule.{settings_of}
use Rattle.or_turn.specs.SeatViews.{core_of, cores_shown}
use Rattle.or_turn.proofs.Joining.{shuts, LastKnows}
use Rattle.or_turn.proofs.Units.{shut_core, shut_length, shut_numbered, shut_row, shut_order}
use Rattle.or_turn.proofs.shared.Shared.close.Goals.{After-take}
use Rattle.or_turn.proofs.shared.Shared.close.Goals as goal

some_is : (x y : Transfer) (o : Option Transfer) → o ≡ Some x → o ≡ Some y → x ≡ y
some_is x y o a b = cc

cores_are : (v : View) (o : Option Bool) (xs : List Core) → xs ≡ cores_shown v o → o ≡ None → xs ≡ map (core_of v) v.cores
cores_are v o xs e none = e ∙ ap (λ (z : Option Bool). cores_shown v z) none

shut : (c : After-take) → (transfer : Transfer) × (c.take.result ≡ Some transfer) × LastKnows c.args.last.seat.me.0 transfer
shut c = let r = shuts (settings_of c.args.self.table.shared.key) c.args.last.seat.id c.args.last.seat.me.0 _ _ c.args.last.idle c.requires.whole c.close_with-closed.ensures.values.2 in
    (r.0, some-injective _ _ (sym c.take.ensures.value ∙ r.1), r.2)

pub unwrap-transfer-requires : goal.unwrap-transfer-requires
unwrap-transfer-requires c = let s = shut (goal.at.unwrap-transfer-requires c).After-take in rw s.1 refl

pub in_order-requires : goal.in_order-requires
in_order-requires c = λ n l. let s = shut (goal.at.in_order-requires c).After-take in let v : View = c.args.last.seat.me.0 in
    let are = cores_are v c.args.last.begun c.args.last.cores.items c.args.last.shown c.requires.rests in let e = ap (λ (xs : List Core). length xs) are in let m = length-map v.cores (core_of v) in
    let z = shut_length v s.0 s.2 c.requires.whole in subst (Numbered n) (sym are) (shut_numbered v s.0 s.2 c.requires.whole n (omega arith))

pub returns : goal.returns
returns c = let at = goal.at.returns c in let s = shut at.After-take in let v : View = c.args.last.seat.me.0 in let st : Settings = v.settings in
    let are = cores_are v c.args.last.begun c.args.last.cores.items c.args.last.shown c.requires.rests in let m = length-map v.cores (core_of v) in
    let same : c.unwrap-transfer.result ≡ s.0 = some_is _ _ c.take.result c.unwrap-transfer.ensures s.1 in
    let schedule : c.unwrap-transfer.result.schedule.items ≡ s.2.schedule = ap (λ (x : Transfer). x.schedule.items) same ∙ s.2.holds.schedule in
    let bus : c.into_inner.result ≡ s.0.bus.value = c.into_inner.ensures ∙ ap (λ (x : Transfer). x.bus.value) same in
    let row = shut_row v s.0 s.2 c.requires.whole c.in_order.result.items (c.in_order.ensures.len ∙ (ap (λ (xs : List Core). length xs) are ∙ m))
    (λ n l. subst (λ (xs : List Core). ((core_at c.in_order.result.items n).number ≡ n) × Among (core_at c.in_order.result.items n) xs) are (c.in_order.ensures.each n (let e = ap (λ (xs : List Core). length xs) are in omega arith))) in record {
      defined = subst (λ (xs : List ℕ). IsDefined st xs) (sym schedule) s.2.defined;
      cores = row ∙ ap (λ (xs : List ℕ). (board_of st xs).cores) (sym schedule);
      own = λ d h. ap (λ (xs : List Core). core_at xs d) row ∙ sym (shut_core v s.0 s.2 c.requires.whole d h);
      bus = subst (λ (p : BusState × List ℕ). Represents p.0 (board_of st p.1).world) (λ i. (sym bus i, sym schedule i)) s.2.holds.bus;
      order = shut_order v s.0 s.2 c.requires.whole c.in_order.result.items c.into_inner.result row (ap (λ (b : BusState). b.cores) bus);
      begins = subst (λ (xs : List ℕ). Rattle.or_turn.specs.Rule.Begins v.seen xs) (sym schedule) s.2.begins;
      told = λ d h. s.2.told d h ∙ ap (count d) (sym schedule);
      marks = ap (λ (x : Transfer). x.marks.items) same ∙ (s.2.holds.marks ∙ ap (λ (xs : List ℕ). marks (first_board st) xs) (sym schedule));
    }
