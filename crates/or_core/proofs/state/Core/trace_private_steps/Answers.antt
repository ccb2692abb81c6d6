use Rattle.std.proofs.Common.{rules, ◌≡◌, ◌∙◌, ap, None, true}
use Rattle.or_model.specs.Step.{is_private}
use Rattle.or_bus.specs.State.{BusState}
use Rattle.or_core.proofs.TracedSteps.{noted-more, begun-more, represents-more, aligned-more}
use Rattle.or_core.proofs.state.Core.trace_private_steps.Goals as goal

pub loop-noted-preserved : goal.loop-noted-preserved
loop-noted-preserved c =
    let core = c.loop-noted.self in
    let now = c.loop-noted.invariant in
    let next = c.traced_step.new.self in
    let bus = c.traced_step.new.bus in
    let running : core.stop ≡ None = search rules in
    let alone : is_private core ≡ true = search rules in
    let made = c.traced_step.ensures.alone alone in
    record {
      left = begun-more c.loop-noted.noted core next _ (search rules) running alone made.0 now.left;
      settings = search rules;
      traced = λ world represents. noted-more c.loop-noted.noted core next world c.loop-noted.steps.items c.push.new.self.items _ c.traced_step.result (search rules)
          running alone made.0 (c.traced_step.ensures.step world (now.tracks world represents)) (search rules) (now.traced world represents);
      aligned = aligned-more c.loop-noted.steps.items c.push.new.self.items c.traced_step.result now.aligned c.traced_step.ensures.aligned (search rules);
      each = search rules;
      made = search rules;
      after = made.1 ∙ ap (λ (b : BusState). record b { reads = bus.reads }) now.after;
      tracks = λ world represents. represents-more core next world bus alone (c.traced_step.ensures.state world (now.tracks world represents));
    }
