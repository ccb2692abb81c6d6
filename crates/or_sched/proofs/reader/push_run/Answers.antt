use Rattle.std.proofs.Common.{◌∙◌, ap, arith, ◌++◌, ◌∷◌, [], ◌-◌, append_assoc}
use Rattle.std.specs.Prelude.{replicate}
use Rattle.or_sched.proofs.Pushes.{replicate_more, replicate_front}
use Rattle.or_sched.proofs.reader.push_run.Goals as goal

pub returns-in-Err : goal.returns-in-Err
returns-in-Err c = (
  replicate (c.args.turns - c.loop-left.left) c.args.core,
  c.in-Err.ensures.items ∙ c.loop-left.invariant.pushed,
  replicate_front c.args.turns c.loop-left.left c.args.core c.loop-left.invariant.fits,
)

pub loop-left-preserved : goal.loop-left-preserved
loop-left-preserved c = record {
  fits = omega arith;
  pushed = c.in-Ok.ensures.items ∙ ap (λ t. t ++ c.args.core ∷ []) c.loop-left.invariant.pushed
      ∙ append_assoc c.args.out.now.items (replicate (c.args.turns - c.loop-left.left) c.args.core) (c.args.core ∷ [])
      ∙ ap (λ t. c.args.out.now.items ++ t) (replicate_more (c.args.turns - c.loop-left.left) (c.args.turns - (c.loop-left.left - 1)) c.args.core (omega arith));
}
