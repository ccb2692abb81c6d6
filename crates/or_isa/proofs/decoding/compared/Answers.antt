use Rattle.std.proofs.Common.{rules}
use Rattle.or_isa.proofs.Comparisons.{at_compare}
use Rattle.or_isa.proofs.decoding.compared.Goals as goal

pub returns : goal.returns
returns c = let row = at_compare c.args.code c.args.w c.ranges.w.fits c.requires.opcode c.requires.low c.requires.code in search rules
