use Rattle.std.proofs.Common.{arith}
use Rattle.or_icache.proofs.Decodes.{decoded-filled}
use Rattle.or_icache.proofs.ICache.fill.Goals as goal

pub invariant_of-self : goal.invariant_of-self
invariant_of-self c =
    decoded-filled c.self.inside.lines c.self.inside.insns c.decode_line.new.insns c.index_of-index.result (record { address = c.line_of.result; bytes = c.args.line.now }) (omega arith) c.self.invariant
    c.decode_line.ensures.here c.decode_line.ensures.elsewhere
