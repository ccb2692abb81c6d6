use Rattle.std.proofs.Common.{rules}
use Rattle.or_isa.proofs.Opcodes.{at_store}
use Rattle.or_isa.proofs.decoding.store.Goals as goal

pub returns : goal.returns
returns c = let row = at_store c.args.width c.args.w c.ranges.w.fits c.requires in search rules
