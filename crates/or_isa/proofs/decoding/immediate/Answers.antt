use Rattle.std.proofs.Common.{rules}
use Rattle.or_isa.proofs.Opcodes.{at_immediate}
use Rattle.or_isa.proofs.decoding.immediate.Goals as goal

pub returns : goal.returns
returns c = let row = at_immediate c.args.kind c.args.w c.ranges.w.fits c.requires in search rules
