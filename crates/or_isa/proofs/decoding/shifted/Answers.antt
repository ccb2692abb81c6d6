use Rattle.std.proofs.Common.{rules}
use Rattle.or_isa.proofs.Arithmetic.{at_register_shift}
use Rattle.or_isa.proofs.decoding.shifted.Goals as goal

pub returns : goal.returns
returns c = let row = at_register_shift c.args.kind c.args.w c.ranges.w.fits c.requires.opcode c.requires.code in search rules
