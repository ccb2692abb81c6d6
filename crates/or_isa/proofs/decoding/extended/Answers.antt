use Rattle.std.proofs.Common.{rules}
use Rattle.or_isa.proofs.Arithmetic.{at_extend}
use Rattle.or_isa.proofs.decoding.extended.Goals as goal

pub returns : goal.returns
returns c = let row = at_extend c.args.width c.args.signed c.args.w c.ranges.w.fits c.requires.opcode c.requires.code in search rules
