use Rattle.or_host.proofs.FailingLemmas.{takes_listed}
use Rattle.or_host.proofs.memory.MemHostHost.load.Goals as goal

pub returns-then-matches-clause-taken : goal.returns-then-matches-clause-taken
returns-then-matches-clause-taken c = takes_listed _ _ _ _ _ _ c.load_bytes-result.ensures

pub returns-then-matches-2-clause-taken : goal.returns-then-matches-2-clause-taken
returns-then-matches-2-clause-taken c = takes_listed _ _ _ _ _ _ c.load_bytes-result.ensures

pub returns-else-matches-2-clause-taken : goal.returns-else-matches-2-clause-taken
returns-else-matches-2-clause-taken c = takes_listed _ _ _ _ _ _ c.load_bytes-result.ensures
