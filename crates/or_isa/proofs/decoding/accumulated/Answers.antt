use Rattle.std.proofs.Common.{rules}
use Rattle.or_isa.proofs.Accumulations.{at_accumulation}
use Rattle.or_isa.proofs.decoding.accumulated.Goals as goal

pub returns : goal.returns
returns c = let row = at_accumulation c.args.kind c.args.w c.ranges.w.fits c.requires.opcode c.requires.code in search rules
