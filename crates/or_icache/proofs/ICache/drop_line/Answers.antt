use Rattle.std.proofs.Common.{arith}
use Rattle.or_icache.proofs.Decodes.{decoded-dropped}
use Rattle.or_icache.proofs.ICache.drop_line.Goals as goal

pub invariant_of-self : goal.invariant_of-self
invariant_of-self c =
    decoded-dropped c.self.inside.lines c.self.inside.insns c.index_of-index.result (omega arith) c.self.invariant
