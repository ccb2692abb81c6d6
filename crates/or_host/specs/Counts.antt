-- Counts of faults, and the blame.
use Rattle.std.specs.Prelude.{◌≡◌, ℕ, ◌+◌, ◌-◌, ◌^◌, ◌≤◌, min, Result, Ok, Err, Some}
use Rattle.or_host.specs.declared.host.LoadFail.{LoadFail}
use Rattle.or_host.specs.declared.host.LoadFail.TheVariants.{Failed, TooLong, NoMemory}
use Rattle.or_host.specs.Blamed.{Blamed}
use Rattle.or_host.specs.HostState.{HostState}

-- where a count stands still: the last value of a u64
abbrev pub last_count : ℕ
last_count = 2 ^ 64 - 1

-- one more, or the last value
abbrev pub raised : ℕ → ℕ
raised count = min (count + 1) last_count

-- The count is greater than before, or stands at its last value.
abbrev pub Rose : ℕ → ℕ → Type 0
Rose before after = raised before ≤ after

-- no count rose, and the blame is as before
pub record Steady (old new : HostState) : Type 0 where
  pub faults : new.faults ≡ old.faults
  pub say_faults : new.say_faults ≡ old.say_faults
  pub lacks : new.lacks ≡ old.lacks
  pub blame : new.blame ≡ old.blame

-- the count of faults rose, and this is to blame
pub record Faulted (who : Blamed) (old new : HostState) : Type 0 where
  pub rose : Rose old.faults new.faults
  pub later : old.faults ≤ new.faults
  pub say_later : old.say_faults ≤ new.say_faults
  pub lacks : new.lacks ≡ old.lacks
  pub blame : new.blame ≡ Some who

-- say's count alone rose
pub record SayFaulted (old new : HostState) : Type 0 where
  pub rose : Rose old.say_faults new.say_faults
  pub later : old.say_faults ≤ new.say_faults
  pub faults : new.faults ≡ old.faults
  pub lacks : new.lacks ≡ old.lacks
  pub blame : new.blame ≡ old.blame

-- the count of loads that found no memory alone rose
pub record Lacked (old new : HostState) : Type 0 where
  pub rose : Rose old.lacks new.lacks
  pub faults : new.faults ≡ old.faults
  pub say_faults : new.say_faults ≡ old.say_faults
  pub blame : new.blame ≡ old.blame

-- A load answers `Failed` only for a fault, and `NoMemory` only where that is counted. Else the counts and the blame stay.
abbrev pub LoadCounts : {U : Type 0} → Result U LoadFail → Blamed → HostState → HostState → Type 0
LoadCounts (Ok _) who old new = Steady old new
LoadCounts (Err Failed) who old new = Faulted who old new
LoadCounts (Err TooLong) who old new = Steady old new
LoadCounts (Err NoMemory) who old new = Lacked old new

-- A write fails only for a fault. Else the counts and the blame stay.
abbrev pub WriteCounts : {U E : Type 0} → Result U E → Blamed → HostState → HostState → Type 0
WriteCounts (Ok _) who old new = Steady old new
WriteCounts (Err _) who old new = Faulted who old new

-- A say fails only for a fault of its own. Else the counts and the blame stay.
abbrev pub SayCounts : {U E : Type 0} → Result U E → HostState → HostState → Type 0
SayCounts (Ok _) old new = Steady old new
SayCounts (Err _) old new = SayFaulted old new
