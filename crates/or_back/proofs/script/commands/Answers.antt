use Rattle.std.proofs.Common.{◌∙◌, sym, ap, subst, arith, rules}
use Rattle.or_script.specs.Parts.{parts_behind, length_behind}
use Rattle.or_script.specs.Script.{AreFew}
use Rattle.or_back.proofs.Scripts.{command_later}
use Rattle.or_back.proofs.script.commands.Goals as goal

pub loop-rest-preserved : goal.loop-rest-preserved
loop-rest-preserved c =
    let config = c.args.config.now in
    let parts = ap (parts_behind 10) c.in-Some.is ∙ c.cut.ensures.parts in
    record {
      commands = sym (command_later config c.loop-rest.at c.loop-rest.points c.add_points-points.result c.cut.result.0.now (parts_behind 10 c.loop-rest.rest) (parts_behind 10 c.cut.result.1)
          c.in-Ok.command c.loop-rest.commands.items c.push.new.self.items (sym c.in-Ok.ensures.is) parts c.add_points-points.ensures (search rules)) ∙ c.loop-rest.invariant.commands;
      few = subst AreFew (sym c.add_points-points.ensures) (c.in-Ok.ensures.few c.loop-rest.invariant.few);
      small = omega (arith, c.cut.ensures.shorter, ap length_behind c.in-Some.is, c.loop-rest.invariant.small);
    }
