use Rattle.std.proofs.Common.{◌≡◌, ℕ, ◌+◌, List, [], ◌∷◌, ◌++◌, length, vec_len, Option, ap, ◌∙◌, subst, arith, length-append}
use Rattle.std.specs.Option.{option_to_list}
use Rattle.or_turn.specs.declared.unit.TurnUnit.{TurnUnit}
use Rattle.or_turn.specs.Units.{settings_in, id_of}
use Rattle.or_board.specs.Works.{Worked, HasFrom}
use Rattle.or_board.proofs.Joins.{popped, worked_has, joined_has}
use Rattle.or_board.proofs.workers.join_all.Goals as goal

pub loop-unit-init : goal.loop-unit-init
loop-unit-init c =
    let us : List TurnUnit = c.args.units.items in let vs : List TurnUnit = c.pop.new.self.items in let u : TurnUnit = c.unwrap-last.result in
    let z = id_of c.args.shared.now in let st = settings_in c.args.shared.now in
    let cut : us ≡ vs ++ u ∷ [] = c.pop.ensures.items ∙ ap (λ (o : Option TurnUnit). vs ++ option_to_list o) c.unwrap-last.ensures in
    let n : length us ≡ length vs + 1 = ap (λ (xs : List TurnUnit). length xs) cut ∙ length-append vs (u ∷ []) in
    let a = c.args.units.ok.0 in let b = c.pop.new.self.ok.0 in let many = c.requires.some.1 in
    let k = popped (Worked z st) us vs u cut (λ i d h. c.requires.worked i d (omega arith)) in
    let same : length vs ≡ vec_len c.pop.new.self = omega arith in record {
      few = omega arith;
      worked = λ i d h. k.0 i d (omega arith);
      last = subst (λ (i : ℕ). HasFrom z st i u) same (worked_has z st (length vs) u k.1 (omega arith));
    }

pub loop-unit-preserved : goal.loop-unit-preserved
loop-unit-preserved c =
    let us : List TurnUnit = c.loop-unit.units.items in let vs : List TurnUnit = c.pop-in-loop-unit.new.self.items in let u : TurnUnit = c.in-Some.unit in
    let z = id_of c.args.shared.now in let st = settings_in c.args.shared.now in let i = c.loop-unit.invariant in
    let cut : us ≡ vs ++ u ∷ [] = c.pop-in-loop-unit.ensures.items ∙ ap (λ (o : Option TurnUnit). vs ++ option_to_list o) c.in-Some.is in
    let n : length us ≡ length vs + 1 = ap (λ (xs : List TurnUnit). length xs) cut ∙ length-append vs (u ∷ []) in
    let a = c.loop-unit.units.ok.0 in let b = c.pop-in-loop-unit.new.self.ok.0 in let few = i.few in
    let k = popped (Worked z st) us vs u cut (λ j d h. i.worked j d (omega arith)) in
    let same : length vs ≡ vec_len c.pop-in-loop-unit.new.self = omega arith in let more : vec_len c.loop-unit.units ≡ length vs + 1 = omega arith in
    let t = c.join.ensures in record {
      few = omega arith;
      worked = λ j d h. k.0 j d (omega arith);
      last = subst (λ (j : ℕ). HasFrom z st j c.join.new.into) same
          (joined_has z st (length vs) c.loop-unit.last u c.join.new.into (subst (λ (j : ℕ). HasFrom z st j c.loop-unit.last) more i.last) k.1 t.of t.rest t.view t.first t.second t.told t.other_told);
    }
