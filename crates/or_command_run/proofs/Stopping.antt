-- From a check that fails to how a command ends.
use Rattle.std.proofs.Common.{ℕ, List, Option, refl}
use Rattle.or_host.specs.HostState.{HostState}
use Rattle.or_command.specs.Writes.{File}
use Rattle.or_command.specs.Ends.{FailedCheck, CommandEnd, done, unread, too_long, refused, unwritten, no_memory}
use Rattle.or_command.specs.Answered.{Stops, StopsInCheck, FinishEnds}

-- a check that takes no memory
pub stops_in_check : (verdict : Option FailedCheck) (end : CommandEnd) → Stops verdict end → StopsInCheck verdict end
stops_in_check verdict (refused fault) stops = stops
stops_in_check verdict no_memory stops = tt
stops_in_check verdict done stops = absurd stops
stops_in_check verdict (unread name) stops = absurd stops
stops_in_check verdict (too_long name limit) stops = absurd stops
stops_in_check verdict (unwritten name) stops = absurd stops

-- a command that stops behind its loads has left all as it was
pub stops_end : (verdict : List (List ℕ) → Option FailedCheck) (Writes : List (List ℕ) → List File → List ℕ → Type 0) (files : List (List ℕ)) (end : CommandEnd) (state : HostState)
    → StopsInCheck (verdict files) end → FinishEnds verdict Writes files end state state
stops_end verdict Writes files (refused fault) state found = (found, refl)
stops_end verdict Writes files no_memory state found = refl
stops_end verdict Writes files done state found = absurd found
stops_end verdict Writes files (unread name) state found = absurd found
stops_end verdict Writes files (too_long name limit) state found = absurd found
stops_end verdict Writes files (unwritten name) state found = absurd found
