use Rattle.std.proofs.Common.{sym, subst}
use Rattle.std.specs.Prelude.{IfSome}
use Rattle.or_core.specs.Next.{IsExecuted}
use Rattle.or_core.specs.Quiet.{IsQuiet}
use Rattle.or_core.proofs.Quiets.{quiet-look}
use Rattle.or_core.proofs.state.Core.quiet_insn.Goals as goal

pub returns-then-pc-lt-UNCACHED : goal.returns-then-pc-lt-UNCACHED
returns-then-pc-lt-UNCACHED c =
    subst (λ core. IfSome c.look.result (IsExecuted core)) c.self.view_is
    (quiet-look _ c.look.result (subst IsQuiet (sym c.self.view_is) c.requires) c.if-pc-eq0.true c.if-pc-lt-UNCACHED.true c.look.ensures.value c.look.ensures.fits)
