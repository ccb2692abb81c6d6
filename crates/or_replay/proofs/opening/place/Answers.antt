use Rattle.std.proofs.Common.{ap}
use Rattle.or_replay.proofs.Placing.{placed_segment}
use Rattle.or_replay.proofs.opening.place.Goals as goal

pub returns-clause-bytes : goal.returns-clause-bytes
returns-clause-bytes c =
    placed_segment c.args.image.now c.args.ram.now.bytes c.load.new.self.bytes c.clear.new.self.bytes c.bytes_of.result.now c.args.segment.now
    c.requires.inside c.bytes_of.ensures (ap (λ r. r.bytes) c.load.ensures) (ap (λ r. r.bytes) c.clear.ensures)
