use Rattle.std.proofs.Common.{rules}
use Rattle.or_core.proofs.Accesses.{conditional-in_ram, conditional-outside}
use Rattle.or_core.proofs.state.Core.store_conditional.Goals as goal

pub returns-in-Ok-clause-access : goal.returns-in-Ok-clause-access
returns-in-Ok-clause-access c = λ world represents.
    let inside = conditional-in_ram world _ _ _ _ _ _ _ (c.in-Ok.ensures.answer world represents) in search (rules, inside.0, inside.1)

pub returns-in-Err-clause-access : goal.returns-in-Err-clause-access
returns-in-Err-clause-access c = λ world represents.
    let outside = conditional-outside world _ _ _ _ _ _ _ (c.in-Err.ensures.answer world represents) in search (rules, outside)
