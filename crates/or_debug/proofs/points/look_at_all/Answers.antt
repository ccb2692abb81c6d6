use Rattle.std.proofs.Common.{◌∙◌, None}
use Rattle.or_debug.specs.Standing.{seen}
use Rattle.or_debug.proofs.Seen.{seen_more}
use Rattle.or_debug.proofs.points.look_at_all.Goals as goal

pub loop-point-preserved : goal.loop-point-preserved
loop-point-preserved c = record {
  points = λ now is.
      seen_more (seen now.world.ram) c.args.points.now c.loop-point.points c.loop-point.point-index (record { address = 0; word = None }) c.look.result
      (c.loop-point.invariant.points now is) c.loop-point-test.true (c.look.ensures.point now (c.loop-point.invariant.board now is));
  board = λ now is. c.look.ensures.board now (c.loop-point.invariant.board now is);
  config = c.look.ensures.config ∙ c.loop-point.invariant.config;
}
