use Rattle.std.proofs.Common.{◌≡◌, sym, subst, refl, List}
use Rattle.or_elf.specs.declared.symbols.Symbol.{Symbol as Function}
use Rattle.or_elf.specs.Symbols.{innermost}
use Rattle.or_prof.proofs.Spans.{none_left}
use Rattle.or_prof.proofs.finding.end_of.Goals as goal

pub returns-clause-same : goal.returns-clause-same
unfolding innermost
returns-clause-same c = λ p from below.
    let pc = c.args.pc in
    c.loop-function.invariant.same p from below
    (subst (λ (left : List Function). innermost left p 1 ≡ innermost left pc 1) (sym (none_left c.loop-function.rest.now c.in_default.ensures.cases)) refl)
