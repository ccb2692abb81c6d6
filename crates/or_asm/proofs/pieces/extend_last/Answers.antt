use Rattle.std.proofs.Common.{rules}
use Rattle.or_asm.proofs.LastPiece.{extend_step}
use Rattle.or_asm.proofs.pieces.extend_last.Goals as goal

pub returns-in_ok-push-in-Some : goal.returns-in_ok-push-in-Some
returns-in_ok-push-in-Some c = extend_step c.args.word c.args.pieces.now.items c.pop.new.self.items c.push.new.self.items c.in-Some.piece c.in_ok-longer-in-Some.longer (search rules) (search rules) (search rules)
