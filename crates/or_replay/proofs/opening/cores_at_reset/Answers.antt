use Rattle.std.proofs.Common.{rules, sym, ◌∙◌, ap, ◌++◌, ◌∷◌, []}
use Rattle.or_model.specs.Turn.{reset_cores}
use Rattle.or_replay.proofs.Reset.{reset_cores-more, reset_cores-none}
use Rattle.or_replay.proofs.opening.cores_at_reset.Goals as goal

pub loop-number-init : goal.loop-number-init
loop-number-init c = record { so_many = search rules; so_far = (search rules) ∙ sym (reset_cores-none c.args.config.now 0 (search rules)) }

pub loop-number-preserved : goal.loop-number-preserved
loop-number-preserved c = record {
  so_many = search rules;
  so_far = c.push.ensures.items ∙ ap (λ l. l ++ c.reset.result ∷ []) c.loop-number.invariant.so_far
      ∙ ap (λ core. reset_cores c.args.config.now c.loop-number.number ++ core ∷ []) c.reset.ensures ∙ sym (reset_cores-more c.args.config.now c.loop-number.number);
}
