use Rattle.std.proofs.Common.{rules}
use Rattle.or_isa.proofs.Shifts.{at_shift}
use Rattle.or_isa.proofs.decoding.shift_by.Goals as goal

pub returns : goal.returns
returns c = let row = at_shift c.args.kind c.args.w c.ranges.w.fits c.requires.opcode c.requires.code in search rules
