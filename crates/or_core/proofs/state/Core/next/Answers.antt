use Rattle.std.proofs.Common.{sym}
use Rattle.or_core.proofs.Nexts.{executed-beside}
use Rattle.or_core.proofs.state.Core.next.Goals as goal

pub returns-in-Some-cached_insn : goal.returns-in-Some-cached_insn
returns-in-Some-cached_insn c =
    executed-beside c.args.self.now c.in-At.pa c.in-At.cached c.in-Some-cached_insn.insn (sym c.in-None.ensures) (sym c.in-At.ensures.value) c.in-Some-cached_insn.ensures.0 c.in-Some-cached_insn.ensures.1
