use Rattle.std.proofs.Common.{rules, ◌≡◌, ◌++◌, ◌∷◌, [], ap}
use Rattle.or_elf.specs.Header.{segments, segment_at}
use Rattle.or_elf.proofs.Headers.{segment_taken, header_passed, none_left, room_taken, room_passed}
use Rattle.or_elf.proofs.reader.collect.Goals as goal
use Rattle.or_elf.proofs.reader.collect.Goals.{then-word-eq1, else-word-eq1}

pub loop-index-init : goal.loop-index-init
unfolding segments
loop-index-init c = record { read = search rules; room = search rules }

pub loop-index-preserved : goal.loop-index-preserved
loop-index-preserved c =
    let bytes = c.args.bytes.now in
    let index = c.loop-index.index in
    let old = c.loop-index.segments.items in
    let new = c.if-word-eq1.segments.items in
    elim c.if-word-eq1.branch [
      | then-word-eq1 w ↦
          let taken : new ≡ old ++ segment_at bytes index ∷ [] = search rules in record {
            read = segment_taken bytes index c.from-count.result old new (segments bytes) (search rules) (search rules) taken c.loop-index.invariant.read;
            room = room_taken index old new (segment_at bytes index) taken c.loop-index.invariant.room;
          }
      | else-word-eq1 w ↦
          let same : new ≡ old = ap (λ s. s.items) w.segments-is in record {
            read = header_passed bytes index c.from-count.result old new (segments bytes) (search rules) (search rules) same c.loop-index.invariant.read;
            room = room_passed index old new same c.loop-index.invariant.room;
          }
    ]

pub returns : goal.returns
returns c = none_left c.args.bytes.now c.loop-index.index c.from-count.result c.loop-index.segments.items _ (search rules) c.loop-index.invariant.read
