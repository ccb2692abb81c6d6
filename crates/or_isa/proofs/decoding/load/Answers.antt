use Rattle.std.proofs.Common.{rules}
use Rattle.or_isa.proofs.Opcodes.{at_load}
use Rattle.or_isa.proofs.decoding.load.Goals as goal

pub returns : goal.returns
returns c = let row = at_load c.args.width c.args.signed c.args.w c.ranges.w.fits c.requires in search rules
