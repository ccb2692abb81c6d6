use Rattle.std.proofs.Common.{◌∙◌, sym, ap, ◌++◌, codes, decimal}
use Rattle.or_asm.proofs.ShownText.{dotted}
use Rattle.or_asm.proofs.fault.unknown_name.Goals as goal

pub returns-then-is_dot : goal.returns-then-is_dot
returns-then-is_dot c =
    c.at_word-then-is_dot.ensures
    ∙ ap (λ t. codes "line " ++ decimal c.args.line ++ codes ": " ++ t) (dotted c.args.word.now c.in-len1-up.len_at_least (sym c.is_dot.ensures ∙ c.if-is_dot.true))
