use Rattle.std.proofs.Common.{rules, ◌≡◌, ◌∷◌, ap, sym, ◌∙◌, subst, length, ℕ}
use Rattle.std.specs.List.{All, fold}
use Rattle.or_elf.specs.Fault.{IsInside}
use Rattle.or_elf.specs.Placed.{place_segment}
use Rattle.or_replay.proofs.Placing.{all_later}
use Rattle.or_replay.proofs.opening.place_all.Goals as goal

pub loop-segment-preserved : goal.loop-segment-preserved
loop-segment-preserved c =
    let parts : c.loop-segment.rest.now ≡ c.in-Some.segment.now ∷ c.in-Some.others.now = search rules in
    let size = length c.args.image.now in
    let all : All (IsInside size (length c.loop-segment.ram.bytes)) (c.in-Some.segment.now ∷ c.in-Some.others.now) =
    subst (All (IsInside size (length c.loop-segment.ram.bytes))) parts c.loop-segment.invariant.inside in
    record {
      placed = ap (λ r. fold (place_segment c.args.image.now) r c.in-Some.others.now) c.place.ensures.bytes
          ∙ sym (ap (fold (place_segment c.args.image.now) c.loop-segment.ram.bytes) parts) ∙ c.loop-segment.invariant.placed;
      inside = subst (λ (n : ℕ). All (IsInside size n) c.in-Some.others.now) (sym c.place.ensures.size)
          (all_later (IsInside size (length c.loop-segment.ram.bytes)) c.in-Some.segment.now c.in-Some.others.now all);
      size = c.place.ensures.size ∙ c.loop-segment.invariant.size;
    }
