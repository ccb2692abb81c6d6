-- A file that is loaded, and then those behind it.
use Rattle.std.proofs.Common.{◌≡◌, ◌∙◌, sym, ap, refl, ℕ, List, [], ◌∷◌, ◌++◌, length, Some, append_assoc, append-nil}
use Rattle.or_host.specs.HostState.{HostState}
use Rattle.or_command.specs.declared.loading.LoadStop.{LoadStop}
use Rattle.or_command.specs.declared.loading.LoadStop.TheVariants.{Unread, TooLong, NoMemory}
use Rattle.or_command.specs.Leaves.{Untouched}
use Rattle.or_command.specs.Loads.{Load, AreRead, OneRead, OneStops, StopsLoading, LoadsAll, LoadsSome}
use Rattle.or_command.proofs.TellsLemmas.{told_then, rose_after, untouched_then, no_fault_then, untouched_refl, no_fault_refl}

-- no file is loaded
pub none_loaded : (held : List (List ℕ)) (a : HostState) → LoadsAll [] held held a a
none_loaded held a = record {
  files = [];
  stands = sym (append-nil held);
  all = record { read = tt; untouched = untouched_refl a; no_fault = no_fault_refl a; lacks = refl };
}

-- one file is pushed behind others, and further ones behind it
pushed_then : (held mid kept files : List (List ℕ)) (file : List ℕ) → mid ≡ held ++ file ∷ [] → kept ≡ mid ++ files → kept ≡ held ++ file ∷ files
pushed_then held mid kept files file pushed stands =
    stands ∙ ap (λ (m : List (List ℕ)). m ++ files) pushed ∙ append_assoc held (file ∷ []) files

read_then : (load : Load) (loads : List Load) (file : List ℕ) (files : List (List ℕ)) (a b c : HostState) → OneRead load file a b → Untouched b c
    → AreRead loads files c → AreRead (load ∷ loads) (file ∷ files) c
read_then load loads file files a b c one same read =
    (told_then (λ content. content ≡ Some file) (b.holds load.name) (c.holds load.name) (same.names load.name) one.told, one.fits, read)

pub first_loaded : (load : Load) (loads : List Load) (file : List ℕ) (held mid kept : List (List ℕ)) (a b c : HostState)
    → OneRead load file a b → mid ≡ held ++ file ∷ [] → LoadsAll loads mid kept b c → LoadsAll (load ∷ loads) held kept a c
first_loaded load loads file held mid kept a b c one pushed later = record {
  files = file ∷ later.files;
  stands = pushed_then held mid kept later.files file pushed later.stands;
  all = record {
    read = read_then load loads file later.files a b c one later.all.untouched later.all.read;
    untouched = untouched_then a b c one.untouched later.all.untouched;
    no_fault = no_fault_then a b c one.no_fault later.all.no_fault;
    lacks = later.all.lacks ∙ one.lacks;
  };
}

stops_first : (load : Load) (loads : List Load) (stop : LoadStop) (a b : HostState) → OneStops load stop a b → StopsLoading (load ∷ loads) stop [] a b
stops_first load loads (Unread name) a b one = record {
  front = [];
  load = load;
  rest = loads;
  order = refl;
  named = one.0;
  read = tt;
  cause = one.1;
  untouched = one.2;
}
stops_first load loads (TooLong name limit) a b one = record {
  front = [];
  load = load;
  rest = loads;
  order = refl;
  named = one.0;
  limited = one.1;
  read = tt;
  taken = one.2.taken;
  long = one.2.long;
  told = one.2.told;
  untouched = one.2.untouched;
  no_fault = one.2.no_fault;
}
stops_first load loads NoMemory a b one = record {
  front = [];
  load = load;
  rest = loads;
  order = refl;
  read = tt;
  lacked = one.2;
  untouched = one.0;
  no_fault = one.1;
}

pub first_stops : (load : Load) (loads : List Load) (stop : LoadStop) (held : List (List ℕ)) (a b : HostState) → OneStops load stop a b
    → LoadsSome (load ∷ loads) stop held held a b
first_stops load loads stop held a b one = record { files = []; stands = sym (append-nil held); stops = stops_first load loads stop a b one }

stops_later : (load : Load) (loads : List Load) (file : List ℕ) (files : List (List ℕ)) (stop : LoadStop) (a b c : HostState)
    → OneRead load file a b → StopsLoading loads stop files b c → StopsLoading (load ∷ loads) stop (file ∷ files) a c
stops_later load loads file files (Unread name) a b c one later = record {
  front = load ∷ later.front;
  load = later.load;
  rest = later.rest;
  order = ap (λ (ls : List Load). load ∷ ls) later.order;
  named = later.named;
  read = read_then load later.front file files a b c one later.untouched later.read;
  cause = record { rose = rose_after a.faults b.faults c.faults (sym one.no_fault.faults) later.cause.rose; blame = later.cause.blame };
  untouched = untouched_then a b c one.untouched later.untouched;
}
stops_later load loads file files (TooLong name limit) a b c one later = record {
  front = load ∷ later.front;
  load = later.load;
  rest = later.rest;
  order = ap (λ (ls : List Load). load ∷ ls) later.order;
  named = later.named;
  limited = later.limited;
  read = read_then load later.front file files a b c one later.untouched later.read;
  taken = later.taken;
  long = later.long;
  told = later.told;
  untouched = untouched_then a b c one.untouched later.untouched;
  no_fault = no_fault_then a b c one.no_fault later.no_fault;
}
stops_later load loads file files NoMemory a b c one later = record {
  front = load ∷ later.front;
  load = later.load;
  rest = later.rest;
  order = ap (λ (ls : List Load). load ∷ ls) later.order;
  read = read_then load later.front file files a b c one later.untouched later.read;
  lacked = rose_after a.lacks b.lacks c.lacks (sym one.lacks) later.lacked;
  untouched = untouched_then a b c one.untouched later.untouched;
  no_fault = no_fault_then a b c one.no_fault later.no_fault;
}

pub later_stops : (load : Load) (loads : List Load) (file : List ℕ) (stop : LoadStop) (held mid kept : List (List ℕ)) (a b c : HostState)
    → OneRead load file a b → mid ≡ held ++ file ∷ [] → LoadsSome loads stop mid kept b c → LoadsSome (load ∷ loads) stop held kept a c
later_stops load loads file stop held mid kept a b c one pushed later = record {
  files = file ∷ later.files;
  stands = pushed_then held mid kept later.files file pushed later.stands;
  stops = stops_later load loads file later.files stop a b c one later.stops;
}

pub empty_list : {T : Type 0} (xs : List T) → length xs ≡ 0 → xs ≡ []
empty_list [] e = refl
empty_list (x ∷ xs) e = cc
