use Rattle.std.proofs.Common.{◌∙◌, sym, ap, ◌∷◌}
use Rattle.or_script.specs.Parts.{parts_behind}
use Rattle.or_script.specs.Command.{form_of}
use Rattle.or_script.proofs.Cuts.{four_words}
use Rattle.or_script.proofs.command.last_operand.Goals as goal

pub returns-in-Some : goal.returns-in-Some
returns-in-Some c =
    let config = c.args.config.now in
    let name = c.args.name.now in
    let first = c.args.first.now in
    let second = c.cut.result.0.now in
    sym (ap (λ l. form_of config (name ∷ first ∷ l)) c.cut.ensures.parts
    ∙ ap (λ o. form_of config (name ∷ first ∷ second ∷ parts_behind 32 o)) c.in-Some.is
    ∙ four_words config name first second c.in-Some.field-0.now)
