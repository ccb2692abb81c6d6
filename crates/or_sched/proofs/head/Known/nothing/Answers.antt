use Rattle.std.proofs.Common.{lit<, ◌<◌, ℕ}
use Rattle.std.specs.Prelude.{replicate}
use Rattle.std.proofs.lemmas.List.Elements.{All-replicate}
use Rattle.std.proofs.lemmas.List.{length-replicate}
use Rattle.or_sched.specs.HeadText.{IsDigest}
use Rattle.or_sched.proofs.head.Known.nothing.Goals as goal

zeros : IsDigest (replicate 32 0)
zeros = record { long = length-replicate {A = ℕ} 32 0; bytes = All-replicate (λ byte. byte < 256) 32 0 (lit< tt) }

pub returns : goal.returns
returns c = (zeros, zeros)
