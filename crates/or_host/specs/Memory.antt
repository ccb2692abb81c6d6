-- What a host in memory holds, and the numbers of its calls.
use Rattle.std.specs.Prelude.{◌≡◌, ◌≤◌, ◌+◌, ◌==◌, ◌||◌, ℕ, List, Bool, Some, None, String, vec_capacity}
use Rattle.std.specs.declared.alloc.Global.{Global}
use Rattle.std.specs.Str.{bytes_eq}
use Rattle.std.specs.List.{list_any}
use Rattle.or_host.specs.declared.memory.MemHost.{MemHost}
use Rattle.or_host.specs.Told.{Content}
use Rattle.or_host.specs.Counts.{raised}
use Rattle.or_host.specs.HostState.{HostState}
use Rattle.or_host.specs.Links.{are_linked}
use Rattle.or_host.specs.Store.{content_of, room_of}

-- what a name holds, and how many bytes it can hold before it takes more memory
abbrev pub file_of : MemHost → List ℕ → Content
file_of host name = content_of host.files name

abbrev pub file_room : MemHost → List ℕ → ℕ
file_room host name = room_of host.files name

-- what was written out, what was said, and how many bytes these can hold before they take more memory
abbrev pub bytes_out : MemHost → List ℕ
bytes_out host = host.written.items

abbrev pub bytes_said : MemHost → List ℕ
bytes_said host = host.said.items

abbrev pub out_room : MemHost → ℕ
out_room host = vec_capacity host.written

abbrev pub say_room : MemHost → ℕ
say_room host = vec_capacity host.said

-- the number of the next call, and whether it is listed to fail
abbrev pub call_number : MemHost → ℕ
call_number host = raised host.calls

abbrev pub is_listed : MemHost → Bool
is_listed host = list_any (λ number. number == call_number host) host.failing.items

-- what contracts see of it as a host: it tells everything
abbrev pub memory_state : MemHost → HostState
memory_state host = record {
  holds = λ name. Some (content_of host.files name);
  pairs = λ one other. Some (bytes_eq one other || are_linked host.links.items one other);
  written = Some host.written.items;
  said = Some host.said.items;
  faults = host.faults;
  say_faults = host.say_faults;
  lacks = host.lacks;
  blame = host.blame;
}

-- a new host, whose calls with these numbers are to fail, and in which these pairs of names lead to one file
pub record StartsWith (failing : List ℕ) (links : List (String Global × String Global)) (host : MemHost) : Type 0 where
  pub listed : host.failing.items ≡ failing
  pub linked : host.links.items ≡ links
  pub calls : host.calls ≡ 0
  pub faults : host.faults ≡ 0
  pub say_faults : host.say_faults ≡ 0
  pub lacks : host.lacks ≡ 0
  pub blame : host.blame ≡ None

-- nothing but files changes
pub record KeepsAllButFiles (old new : MemHost) : Type 0 where
  pub written : new.written ≡ old.written
  pub said : new.said ≡ old.said
  pub faults : new.faults ≡ old.faults
  pub say_faults : new.say_faults ≡ old.say_faults
  pub lacks : new.lacks ≡ old.lacks
  pub blame : new.blame ≡ old.blame
  pub calls : new.calls ≡ old.calls
  pub failing : new.failing ≡ old.failing
  pub links : new.links ≡ old.links

-- A call is counted and keeps the list. It raises each other count by one at most.
pub record CountsCall (old new : MemHost) : Type 0 where
  pub calls : new.calls ≡ call_number old
  pub failing : new.failing.items ≡ old.failing.items
  pub links : new.links.items ≡ old.links.items
  pub faults : new.faults ≤ old.faults + 1
  pub say_faults : new.say_faults ≤ old.say_faults + 1
  pub lacks : new.lacks ≤ old.lacks + 1
