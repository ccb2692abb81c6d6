use Rattle.std.proofs.Common.{◌∙◌, Ok, append-nil, sym, ap, subst, arith, rules}
use Rattle.or_script.specs.Parts.{parts_behind, length_behind}
use Rattle.or_script.specs.Script.{AreFew, script_from, behind}
use Rattle.or_script.proofs.Few.{few_script}
use Rattle.or_script.proofs.Lines.{command_later}
use Rattle.or_script.proofs.script.commands.Goals as goal

pub loop-rest-preserved : goal.loop-rest-preserved
loop-rest-preserved c =
    let config = c.args.config.now in
    let parts = ap (parts_behind 10) c.in-Some.is ∙ c.cut.ensures.parts in
    record {
      commands = sym (command_later config c.loop-rest.at c.loop-rest.points c.add_point-points.result c.cut.result.0.now (parts_behind 10 c.loop-rest.rest) (parts_behind 10 c.cut.result.1)
          c.in-Ok.command c.loop-rest.commands.items c.push.new.self.items (sym c.in-Ok.ensures.is) parts c.add_point-points.ensures (search rules)) ∙ c.loop-rest.invariant.commands;
      few = subst AreFew (sym c.add_point-points.ensures) (c.in-Ok.ensures.few c.loop-rest.invariant.few);
      small = omega (arith, c.cut.ensures.shorter, ap length_behind c.in-Some.is, c.loop-rest.invariant.small);
    }

pub returns-clause-few : goal.returns-clause-few
returns-clause-few c =
    few_script c.args.config.now c.args.script.now c.loop-rest.commands.items
    (sym c.loop-rest.invariant.commands ∙ ap (λ o. behind c.loop-rest.commands.items (script_from c.args.config.now c.loop-rest.at c.loop-rest.points (parts_behind 10 o))) c.in_default.is
    ∙ ap Ok (append-nil c.loop-rest.commands.items))
