use Rattle.std.proofs.Common.{arith, rules}
use Rattle.or_parts.specs.Lines.{held_word}
use Rattle.or_icache.proofs.Decodes.{decoded-held}
use Rattle.or_icache.proofs.ICache.look.Goals as goal

pub returns-then-line-line_of-clause-value : goal.returns-then-line-line_of-clause-value
unfolding held_word
returns-then-line-line_of-clause-value c =
    let beside = decoded-held c.self.inside.lines c.self.inside.insns c.args.pa c.in-Some.line c.self.invariant c.requires (search rules) in
    grind (arith, beside.value)

pub returns-then-line-line_of-clause-fits : goal.returns-then-line-line_of-clause-fits
returns-then-line-line_of-clause-fits c =
    (decoded-held c.self.inside.lines c.self.inside.insns c.args.pa c.in-Some.line c.self.invariant c.requires (search rules)).fits
