use Rattle.std.proofs.Common.{sym, ◌∙◌}
use Rattle.or_core.proofs.Accesses.{misplaced_none}
use Rattle.or_core.proofs.state.Core.attempt_on_bus.Goals as goal

pub returns-then-is_misplaced-clause-access : goal.returns-then-is_misplaced-clause-access
returns-then-is_misplaced-clause-access c =
    let none = misplaced_none c.args.self.now c.args.insn (sym c.is_misplaced.ensures ∙ c.if-is_misplaced.true) in λ world represents. rw none
