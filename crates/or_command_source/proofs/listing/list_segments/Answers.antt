use Rattle.std.proofs.Common.{rules, arith, suc, subst, ◌≡◌, ◌∷◌, ℕ, List, length}
use Rattle.std.specs.List.{All, flat_map}
use Rattle.or_elf.specs.Fault.{IsInside}
use Rattle.or_elf.specs.declared.segment.Segment.{Segment}
use Rattle.or_command.proofs.TellsLemmas.{silent_then}
use Rattle.or_command_source.specs.Listing.{segment_lines}
use Rattle.or_command.specs.Pieces.{SoFar}
use Rattle.or_command.proofs.PiecesLemmas.{goes_on, stops}
use Rattle.or_command_source.proofs.listing.list_segments.Goals as goal

pub loop-segment-preserved : goal.loop-segment-preserved
loop-segment-preserved g c =
    let a = g.H.Host.state c.args.host.now in
    let b = g.H.Host.state c.loop-segment.host in
    let d = g.H.Host.state c.list_segment.new.host in
    let bytes = c.args.bytes.now in
    let lines : Segment → List ℕ = segment_lines bytes in
    let whole = flat_map lines c.args.segments.now in
    let parts : c.loop-segment.rest.now ≡ c.in-Some.segment.now ∷ c.in-Some.others.now = search rules in
    record {
      inside = λ k other below.
          subst (λ (rest : List Segment). All (IsInside (length bytes) 268435456) rest) parts c.loop-segment.invariant.inside (suc k) other (omega arith);
      so_far = goes_on (lines c.in-Some.segment.now) (flat_map lines c.in-Some.others.now) whole a b d
          (subst (λ (rest : List Segment). SoFar (flat_map lines rest) whole a b) parts c.loop-segment.invariant.so_far) c.in-Ok.ensures.lists;
      silent = silent_then a b d c.loop-segment.invariant.silent c.list_segment.ensures.silent;
    }

pub returns-in-Err-clause-lists : goal.returns-in-Err-clause-lists
returns-in-Err-clause-lists g c =
    let a = g.H.Host.state c.args.host.now in
    let b = g.H.Host.state c.loop-segment.host in
    let d = g.H.Host.state c.list_segment.new.host in
    let lines : Segment → List ℕ = segment_lines c.args.bytes.now in
    let whole = flat_map lines c.args.segments.now in
    let parts : c.loop-segment.rest.now ≡ c.in-Some.segment.now ∷ c.in-Some.others.now = search rules in
    stops c.in-Err.stop (lines c.in-Some.segment.now) (flat_map lines c.in-Some.others.now) whole a b d
    (subst (λ (rest : List Segment). SoFar (flat_map lines rest) whole a b) parts c.loop-segment.invariant.so_far) c.in-Err.ensures.lists
