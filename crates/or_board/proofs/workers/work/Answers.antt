use Rattle.std.proofs.Common.{◌≡◌, List, length, get_or, sym, ap, subst, arith}
use Rattle.atomic_table.specs.Seated.{TableId}
use Rattle.or_words.specs.Settings.{Fits}
use Rattle.or_sched.specs.Schedule.{IsSchedule}
use Rattle.or_turn.specs.declared.view.Settings.{Settings}
use Rattle.or_turn.specs.declared.unit.TurnUnit.{TurnUnit}
use Rattle.or_turn.specs.Schedules.{first_board}
use Rattle.or_turn.specs.Units.{settings_in, id_of}
use Rattle.or_board.specs.Works.{Starts, IsThreadedRun}
use Rattle.or_board.proofs.Joins.{fresh_starts, end_run, end_schedule, end_marks}
use Rattle.or_board.proofs.workers.work.Goals as goal

pub work_all-requires-clause-starts : goal.work_all-requires-clause-starts
work_all-requires-clause-starts g c κs within = λ n d h. let s = c.set_looks.ensures in let e = c.as_mut_slice.ensures.value in let o = c.args.units.ok.0 in
    let l : length c.as_mut_slice.result.now ≡ length c.args.units.items = ap (λ (xs : List TurnUnit). length xs) e in let many = c.requires.opened.many in
    let fresh : Starts (id_of c.args.shared) (settings_in c.args.shared) n (get_or c.args.units.items n d) = fresh_starts _ _ n _ (c.requires.opened.each n d (omega arith)) (omega arith) in
    let there = subst (λ (p : TableId × Settings). Starts p.0 p.1 n (get_or c.args.units.items n d)) (λ i. (sym s.0 i, sym s.1 i)) fresh in
    subst (λ (xs : List TurnUnit). Starts (id_of c.set_looks.new.self) (settings_in c.set_looks.new.self) n (get_or xs n d)) (sym e) there

pub returns-clause-run : goal.returns-clause-run
returns-clause-run g c = let s = c.set_looks.ensures.1 in let fits = subst (λ (st : Settings). Fits st.config) (sym s) c.requires.fits in
    subst (λ (st : Settings). IsThreadedRun (first_board st) c.close.result) s (end_run _ (settings_in c.set_looks.new.self) fits _ _ c.join_all-last.ensures c.close.ensures)

pub returns-clause-schedule : goal.returns-clause-schedule
returns-clause-schedule g c = let s = c.set_looks.ensures.1 in let fits = subst (λ (st : Settings). Fits st.config) (sym s) c.requires.fits in
    subst (λ (st : Settings). IsSchedule st.config c.close.result.schedule.items) s (end_schedule _ (settings_in c.set_looks.new.self) fits _ _ c.join_all-last.ensures c.close.ensures)

pub returns-clause-marks : goal.returns-clause-marks
returns-clause-marks g c = let fits = subst (λ (st : Settings). Fits st.config) (sym c.set_looks.ensures.1) c.requires.fits in
    end_marks _ (settings_in c.set_looks.new.self) fits _ _ c.join_all-last.ensures c.close.ensures
