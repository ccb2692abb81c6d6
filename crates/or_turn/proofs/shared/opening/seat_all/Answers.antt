use Rattle.std.proofs.Common.{rules, ◌≡◌, ◌-◌, List, length, ap, ◌∙◌, arith, lit<, length-drop}
use Rattle.or_model.specs.Core.{Core}
use Rattle.or_turn.specs.Schedules.{first_board}
use Rattle.or_turn.proofs.Steps.{first_sound}
use Rattle.or_turn.proofs.Removals.{row_rest}
use Rattle.or_turn.proofs.Units.{each_pushed}
use Rattle.or_turn.specs.Units.{Fresh}
use Rattle.or_turn.proofs.shared.opening.seat_all.Goals as goal

pub remove-requires : goal.remove-requires
remove-requires c = let st = c.args.first.me.0.settings in let f = c.requires.fits in let as_many = (first_sound st f.0).as_many in
    let l : length c.loop-number.row.items ≡ length (first_board st).cores - c.loop-number.number = ap (λ (xs : List Core). length xs) c.loop-number.invariant.row ∙ length-drop c.loop-number.number (first_board st).cores in
    let same = f.1 in let low = c.loop-number-test.true in (lit< tt, omega arith)

pub loop-number-preserved : goal.loop-number-preserved
loop-number-preserved c = record {
  table = search rules;
  seat = search rules;
  len = search rules;
  room = search rules;
  row = c.remove.ensures.items ∙ row_rest c.loop-number.row.items (first_board c.args.first.me.0.settings).cores c.loop-number.number c.loop-number.invariant.row;
  each = each_pushed (Fresh c.args.top.now.table_id c.args.first.me.0.settings) c.loop-number.units.items _ c.fresh.result c.loop-number.number c.push_reserved.ensures.items (let e = c.loop-number.units.ok.0 in let l = c.loop-number.invariant.len in omega arith) c.loop-number.invariant.each
      (record { of = search rules; view_is = search rules; rests = c.fresh.ensures.1 });
}
