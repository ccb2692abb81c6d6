use Rattle.std.proofs.Common.{◌≡◌, ℕ, ◌+◌, ◌<◌, List, [], ◌∷◌, ◌++◌, length, get_or, Option, sym, ap, ◌∙◌, subst, arith, length-append}
use Rattle.std.specs.Option.{option_to_list}
use Rattle.or_turn.specs.declared.view.Settings.{Settings}
use Rattle.or_turn.specs.declared.unit.TurnUnit.{TurnUnit}
use Rattle.or_turn.specs.Units.{settings_in, id_of}
use Rattle.or_sched.specs.declared.recording.Mark.{Mark}
use Rattle.or_replay.proofs.Replaying.{length_marks}
use Rattle.or_board.specs.Works.{Starts, HasFrom}
use Rattle.or_board.proofs.Joins.{popped, fresh_starts, worked_has, joined_has}
use Rattle.or_board.proofs.tests.two_callers.Goals as goal

pub join-first-requires-after_bounds : goal.join-first-requires-after_bounds
join-first-requires-after_bounds g c κs within =
    let opened = c.in-Ok.ensures.opened.1 in let z = id_of c.in-Ok.shared in let st = settings_in c.in-Ok.shared in
    let us : List TurnUnit = c.in-Ok.units.items in let vs : List TurnUnit = c.pop.new.self.items in let ws : List TurnUnit = c.pop-2.new.self.items in
    let u : TurnUnit = c.unwrap-second.result in let w : TurnUnit = c.unwrap-first.result in
    let cut : us ≡ vs ++ u ∷ [] = c.pop.ensures.items ∙ ap (λ (o : Option TurnUnit). vs ++ option_to_list o) c.unwrap-second.ensures in
    let cut2 : vs ≡ ws ++ w ∷ [] = c.pop-2.ensures.items ∙ ap (λ (o : Option TurnUnit). ws ++ option_to_list o) c.unwrap-first.ensures in
    let two = c.requires.two in let many = opened.many in let ok = c.in-Ok.units.ok.0 in
    let a : length us ≡ length vs + 1 = ap (λ (xs : List TurnUnit). length xs) cut ∙ length-append vs (u ∷ []) in
    let b : length vs ≡ length ws + 1 = ap (λ (xs : List TurnUnit). length xs) cut2 ∙ length-append ws (w ∷ []) in
    let same = opened.settings in
    let given : (n : ℕ) (d : TurnUnit) → n < length vs + 1 → Starts z st n (get_or us n d) = λ n d h.
    subst (λ (x : Settings). Starts z x n (get_or us n d)) (sym same) (fresh_starts z _ n _ (opened.each n d (omega arith)) (omega arith)) in
    let last = popped (Starts z st) us vs u cut given in let first = popped (Starts z st) vs ws w cut2 (λ n d h. last.0 n d (omega arith)) in
    let fits = subst (λ (x : Settings). Rattle.or_words.specs.Settings.Fits x.config) (sym same) c.requires.fits in
    let one : length vs ≡ 1 = omega arith in let none : length ws ≡ 0 = omega arith in
    ((fits, subst (λ (n : ℕ). Starts z st n w) none first.1), (fits, subst (λ (n : ℕ). Starts z st n u) one last.1))

pub close-requires-clause-whole : goal.close-requires-clause-whole
close-requires-clause-whole g c =
    let opened = c.in-Ok.ensures.opened.1 in let z = id_of c.in-Ok.shared in let st = settings_in c.in-Ok.shared in
    let two : 1 + 1 ≡ st.config.cores = sym c.requires.two ∙ ap (λ (x : Settings). x.config.cores) (sym opened.settings) in
    let t = c.join.ensures in let e = c.join-first.ensures in
    let has : HasFrom z st 0 c.join.new.into = joined_has z st 0 c.join-first.result.1 c.join-first.result.0 c.join.new.into (worked_has z st 1 c.join-first.result.1 e.second two) e.first t.of t.rest t.view t.first t.second t.told t.other_told in
    λ d h. has.has d (omega arith) (subst (λ (x : Settings). d < x.config.cores) has.settings h)

pub returns-clause-marks : goal.returns-clause-marks
returns-clause-marks g c = ap (λ (l : List Mark). length l) c.close.ensures.marks ∙ length_marks _ _
