use Rattle.std.proofs.Common.{◌≡◌, ◌*◌, List, [], ◌∷◌, ◌++◌, length, Option, Some, sym, ap, ◌∙◌, subst, arith}
use Rattle.atomic_table.specs.Table.{opening}
use Rattle.or_model.specs.Core.{Core}
use Rattle.or_model.specs.Turn.{Board}
use Rattle.or_bus.specs.State.{BusState}
use Rattle.or_bus.specs.Represents.{Represents}
use Rattle.or_replay.specs.Board.{steps_left}
use Rattle.or_replay.proofs.Reset.{left-reset_cores}
use Rattle.or_turn.specs.declared.view.Settings.{Settings}
use Rattle.or_turn.specs.declared.view.Transfer.{Transfer}
use Rattle.or_turn.specs.declared.view.OpenedWith.{OpenedWith}
use Rattle.or_turn.specs.Rule.{Turns, SlotHolds, first_view, settings_of}
use Rattle.or_turn.specs.Schedules.{first_board}
use Rattle.or_turn.proofs.Replays.{board_none}
use Rattle.or_turn.proofs.Steps.{first_cores, first_sound}
use Rattle.or_replay.proofs.Replaying.{marks_none}
use Rattle.or_turn.proofs.Opening.{starts}
use Rattle.or_turn.proofs.shared.opening.share.Goals as goal

pub new-requires : goal.new-requires
new-requires c =
    let k : OpenedWith = c.args.opened.now in let st : Settings = settings_of k in let transfer : Transfer = c.in_ok-transfer.transfer in
    let t = c.in_ok-transfer.ensures in let p = c.into_parts-row.ensures in
    let bus_is : transfer.bus.value ≡ c.args.board.bus = t.bus ∙ p.bus in
    let row : c.into_parts-row.result.0.items ≡ (first_board st).cores = p.cores ∙ c.requires.board.same_cores in
    let many : length c.into_parts-row.result.0.items ≡ st.config.cores = ap (λ (l : List Core). length l) row ∙ (first_sound st c.requires.fits).as_many in
    let left : steps_left c.into_parts-row.result.0.items ≡ st.config.cores * st.config.budget = ap steps_left (row ∙ first_cores st) ∙ left-reset_cores st.config st.config.cores in
    let spare : transfer.bus.value.spare ≡ c.into_parts-row.result.1.spare = ap (λ (b : BusState). b.spare) t.bus in
    let room = p.room in
    let holds : SlotHolds st [] transfer = record {
      bus = subst (λ (q : BusState × Board). Represents q.0 q.1.world) (λ i. (sym bus_is i, sym (board_none st) i)) c.requires.board.represents;
      cores = ap (λ (b : BusState). b.cores) t.bus ∙ (sym p.order.many ∙ many);
      schedule = t.none.0;
      marks = t.none.1 ∙ sym (marks_none (first_board st));
      console_room = omega arith;
      schedule_room = t.room.0;
      marks_room = t.room.1;
    } in
    let slots : c.push_reserved.new.self.items ≡ Some transfer ∷ [] = c.push_reserved.ensures.items ∙ ap (λ (xs : List (Option Transfer)). xs ++ Some transfer ∷ []) c.in_ok-slots.ensures.items in
    subst (λ (xs : List (Option Transfer)). Turns k (opening (0 ∷ 0 ∷ 0 ∷ []) xs (first_view k))) (sym slots) (starts k transfer c.requires.fits holds)
