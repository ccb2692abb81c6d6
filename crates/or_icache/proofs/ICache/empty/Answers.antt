use Rattle.or_icache.proofs.Decodes.{no_line}
use Rattle.or_icache.proofs.ICache.empty.Goals as goal

pub invariant_of-result : goal.invariant_of-result
invariant_of-result c = λ place line inside is. absurd (no_line place line inside is)
