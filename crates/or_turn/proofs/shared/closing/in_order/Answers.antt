use Rattle.std.proofs.Common.{◌≡◌, ℕ, ◌<◌, List, [], ◌∷◌, ◌++◌, length, sym, ap, ◌∙◌, subst, arith}
use Rattle.std.specs.List.{remove}
use mathlib.Core.Logic.{dite}
use native.Mathlib.Decide.{dec_lt}
use Rattle.or_model.specs.Core.{Core}
use Rattle.or_turn.specs.Schedules.{core_at}
use Rattle.or_turn.specs.Ordered.{Numbered, Among}
use Rattle.or_turn.proofs.Removals.{left_among, still_numbered, or_any, snoc_below, snoc_end}
use Rattle.or_turn.proofs.shared.closing.in_order.Goals as goal

pub place_of-at-requires : goal.place_of-at-requires
place_of-at-requires c = let n : ℕ = c.loop-number.number in subst (Numbered n) (sym c.as_slice.ensures.value) (c.loop-number.invariant.numbered n (omega arith) (let l = c.loop-number-test.true in let e = c.len-total.ensures.value in omega arith))

pub loop-number-preserved : goal.loop-number-preserved
loop-number-preserved c =
    let i = c.loop-number.invariant in let n : ℕ = c.loop-number.number in let xs : List Core = c.loop-number.cores.items in let ys : List Core = c.remove.new.self.items in let p : ℕ = c.place_of-at.result in
    let slice : c.as_slice.result.now ≡ xs = c.as_slice.ensures.value in let at = subst (λ (l : List Core). (p < length l) × ((core_at l p).number ≡ n)) slice c.place_of-at.ensures in
    let inside = at.0 in let items : ys ≡ remove xs p = c.remove.ensures.items in
    let taken : c.remove.result ≡ core_at xs p = c.remove.ensures.value ∙ or_any xs p _ _ inside in
    let pushed : c.push.new.self.items ≡ c.loop-number.ordered.items ++ c.remove.result ∷ [] = c.push.ensures.items in
    let fewer = c.remove.ensures.len in let more = c.push.ensures.len in let length_is = i.len in let left = i.left in record {
      len = omega arith;
      left = omega arith;
      few = i.few;
      numbered = λ m low high. subst (Numbered m) (sym items) (still_numbered xs p m inside (λ e. let z = at.1 in omega arith) (i.numbered m (omega arith) high));
      among = λ j l. let k = left_among xs p j inside (subst (λ (zs : List Core). j < length zs) items l) in let q = i.among k.0 k.1 in (q.0, q.1, q.2 ∙ (k.2 ∙ ap (λ (zs : List Core). core_at zs j) (sym items)));
      placed = λ m l. dite (dec_lt m n)
          (λ h. subst (λ (k : Core). (k.number ≡ m) × Among k c.args.cores.items) (sym (ap (λ (zs : List Core). core_at zs m) pushed ∙ snoc_below c.loop-number.ordered.items c.remove.result m (omega arith))) (i.placed m h))
          (λ h. let same : m ≡ n = omega arith in let q = i.among p inside in
          subst (λ (k : Core). (k.number ≡ m) × Among k c.args.cores.items) (sym (ap (λ (zs : List Core). core_at zs m) pushed ∙ (snoc_end c.loop-number.ordered.items c.remove.result m (omega arith) ∙ taken))) (at.1 ∙ sym same, q));
    }

pub returns-clause-each : goal.returns-clause-each
returns-clause-each c = λ n l. c.loop-number.invariant.placed n (let t = c.loop-number-test.false in let e = c.len-total.ensures.value in omega arith)
