use Rattle.std.proofs.Common.{◌∙◌, sym, ap, ◌∷◌}
use Rattle.or_script.specs.Parts.{parts_behind}
use Rattle.or_back.specs.Lines.{move_of}
use Rattle.or_back.proofs.OtherTurns.{three_words}
use Rattle.or_back.proofs.lines.move_behind.Goals as goal

pub returns-in-Some : goal.returns-in-Some
returns-in-Some c =
    let name = c.args.name.now in
    let word = c.cut.result.0.now in
    sym (ap (λ l. move_of (name ∷ l)) c.cut.ensures.parts
    ∙ ap (λ o. move_of (name ∷ word ∷ parts_behind 32 o)) c.in-Some.is
    ∙ three_words name word c.in-Some.field-0.now)
