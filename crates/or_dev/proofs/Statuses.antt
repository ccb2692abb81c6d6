-- The words of a board's cores among eight.
use Rattle.std.proofs.Common.{◌≡◌, ◌∙◌, ℕ, ◌-◌, ◌<◌, ◌≤◌, List, length, take, drop, replicate, arith}
use Rattle.std.proofs.Math.Seq.{take-set-lt}
use Rattle.std.proofs.lemmas.List.{take-replicate, drop-replicate, drop-set-lt, get_or-take, length-take-le}

pub ruleset statuses = (take-replicate, drop-replicate, take-set-lt, drop-set-lt, get_or-take, length-take-le)
