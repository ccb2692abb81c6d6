use Rattle.std.proofs.Common.{sym, subst}
use Rattle.std.specs.Str.{IsUtf8}
use Rattle.or_asm.proofs.ShownText.{printable_text}
use Rattle.or_asm.proofs.shown.shown.Goals as goal

-- a printable text is UTF-8
pub returns-in-Err : goal.returns-in-Err
returns-in-Err c = absurd (c.in-Err.ensures.cases.0 (subst IsUtf8 (sym c.printable.ensures) (printable_text c.front.result.now)))
