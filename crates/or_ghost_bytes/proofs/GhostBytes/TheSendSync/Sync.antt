use denote.Param.Send.{IsSync, part_keyless}
use Rattle.or_ghost_bytes.specs.contracts.GhostBytes.{the_row}
use Rattle.or_ghost_bytes.proofs.GhostBytes.TheSendSync.Send.{send}

pub sync : IsSync the_row
sync = record { shared = λ d b o κ q. part_keyless the_row send q d b o }
