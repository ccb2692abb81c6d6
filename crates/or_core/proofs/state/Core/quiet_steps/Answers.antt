use Rattle.std.proofs.Common.{◌≡◌, ◌-◌, ◌+◌, ◌∙◌, sym, ap, arith, rules}
use Rattle.or_model.specs.Turn.{begun_within}
use Rattle.or_core.proofs.Begins.{begun_within-more}
use Rattle.or_core.proofs.state.Core.quiet_steps.Goals as goal

pub loop-made-preserved : goal.loop-made-preserved
loop-made-preserved c =
    let facts = c.plain_step.ensures in
    let stepped = facts.made (search rules) in
    let more = begun_within-more (256 - c.loop-made.made) c.loop-made.self (omega arith) c.loop-made.invariant.running stepped.0 in
    let left : 256 - (c.loop-made.made + 1) ≡ 256 - c.loop-made.made - 1 = omega arith in
    record {
      left = ap (λ n. begun_within n c.plain_step.new.self) left ∙ ap (begun_within (256 - c.loop-made.made - 1)) stepped.1 ∙ sym more ∙ c.loop-made.invariant.left;
      quiet = facts.quiet;
      running = facts.running;
      steps = omega (arith, facts.steps (search rules), c.loop-made.invariant.steps);
      settings = search (rules, facts.settings, c.loop-made.invariant.settings);
    }
