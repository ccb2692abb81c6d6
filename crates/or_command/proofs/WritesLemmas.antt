-- A file that is written, and then those behind it.
use Rattle.std.proofs.Common.{◌≡◌, ◌≢◌, sym, ap, refl, subst, ℕ, List, [], ◌∷◌, ◌++◌, Some, inr}
use Rattle.or_host.specs.Bytes.{Adds, AddsPrefix}
use Rattle.or_host.specs.Told.{TellsStep, TellsSame}
use Rattle.or_host.specs.HostState.{HostState}
use Rattle.or_host.specs.Calls.{dash}
use Rattle.or_host.specs.declared.host.Operation.TheVariants.{Write}
use Rattle.or_command.specs.Leaves.{NoFault, FaultOf}
use Rattle.or_command.specs.Writes.{File, AllHold, IsOther, AreFiles, FileWritten, FileStopped, FilesWritten, FilesStopped, AllWritten, WriteStopped}
use Rattle.or_command.proofs.TellsLemmas.{same_refl, same_then, told_then, same_then_part, same_then_step, adds_none, rose_after, no_fault_then, no_fault_refl}

pub none_written : (a : HostState) → FilesWritten [] a a
none_written a = record { whole = tt; others = λ name _. same_refl (a.holds name); written = same_refl a.written; no_fault = no_fault_refl a }

pub first_written : (file : File) (files : List File) (a b c : HostState) → AreFiles (file ∷ files)
    → FileWritten file.name file.text a b → FilesWritten files b c → FilesWritten (file ∷ files) a c
first_written file files a b c are here later = record {
  whole = (told_then (λ content. content ≡ Some file.text) (b.holds file.name) (c.holds file.name) (later.others file.name are.1) here.file, later.whole);
  others = λ name other. same_then (a.holds name) (b.holds name) (c.holds name) (here.others name other.0) (later.others name other.1);
  written = same_then a.written b.written c.written here.written later.written;
  no_fault = no_fault_then a b c here.no_fault later.no_fault;
}

pub first_stopped : (file : File) (files : List File) (name : List ℕ) (a b : HostState) → name ≡ file.name → FileStopped file.name file.text a b
    → FilesStopped (file ∷ files) name a b
first_stopped file files name a b named here = record {
  front = [];
  failed = file;
  rest = files;
  order = refl;
  named = named;
  whole = tt;
  part = here.file;
  others = λ other _ ne. here.others other ne;
  written = here.written;
  cause = here.cause;
}

split_other : (name : List ℕ) (front : List File) (failed : File) (rest : List File) → IsOther name (front ++ failed ∷ rest) → IsOther name front × (name ≢ failed.name)
split_other name [] failed rest h = (tt, h.0)
split_other name (f ∷ front) failed rest h = let later = split_other name front failed rest h.1 in ((h.0, later.0), later.1)

-- a name that none of the files has, none of the first of them has
front_other : (name : List ℕ) (front : List File) (failed : File) (rest files : List File) → files ≡ front ++ failed ∷ rest → IsOther name files → IsOther name front × (name ≢ failed.name)
front_other name front failed rest files order other = split_other name front failed rest (subst (IsOther name) order other)

pub later_stopped : (file : File) (files : List File) (name : List ℕ) (a b c : HostState) → AreFiles (file ∷ files)
    → FileWritten file.name file.text a b → FilesStopped files name b c → FilesStopped (file ∷ files) name a c
later_stopped file files name a b c are here later =
    let apart = front_other file.name later.front later.failed later.rest files later.order are.1 in
    let other : later.failed.name ≢ file.name = λ e. apart.1 (sym e) in
    record {
      front = file ∷ later.front;
      failed = later.failed;
      rest = later.rest;
      order = ap (λ (fs : List File). file ∷ fs) later.order;
      named = later.named;
      whole = (told_then (λ content. content ≡ Some file.text) (b.holds file.name) (c.holds file.name) (later.others file.name apart.0 apart.1) here.file, later.whole);
      part = same_then_part later.failed.text (a.holds later.failed.name) (b.holds later.failed.name) (c.holds later.failed.name) (here.others later.failed.name other) later.part;
      others = λ name x y. same_then (a.holds name) (b.holds name) (c.holds name) (here.others name x.0) (later.others name x.1 y);
      written = same_then a.written b.written c.written here.written later.written;
      cause = record { rose = rose_after a.faults b.faults c.faults (sym here.no_fault.faults) later.cause.rose; blame = later.cause.blame };
    }

-- nothing goes out behind the files
pub no_console : (files : List File) (a b : HostState) → FilesWritten files a b → AllWritten files [] a b
no_console files a b written = record {
  whole = written.whole;
  others = written.others;
  written = adds_none a.written b.written written.written;
  no_fault = written.no_fault;
}

keeps_whole : (files : List File) (b c : HostState) → ((name : List ℕ) → TellsSame (b.holds name) (c.holds name)) → AllHold b files → AllHold c files
keeps_whole [] b c same whole = tt
keeps_whole (file ∷ files) b c same whole =
    (told_then (λ content. content ≡ Some file.text) (b.holds file.name) (c.holds file.name) (same file.name) whole.0, keeps_whole files b c same whole.1)

-- the console goes out behind the files
pub then_console : (files : List File) (console : List ℕ) (a b c : HostState) → FilesWritten files a b → ((name : List ℕ) → TellsSame (b.holds name) (c.holds name))
    → TellsStep (Adds console) b.written c.written → NoFault b c → AllWritten files console a c
then_console files console a b c files_written same out no_fault = record {
  whole = keeps_whole files b c same files_written.whole;
  others = λ name other. same_then (a.holds name) (b.holds name) (c.holds name) (files_written.others name other) (same name);
  written = same_then_step (Adds console) a.written b.written c.written files_written.written out;
  no_fault = no_fault_then a b c files_written.no_fault no_fault;
}

-- a prefix of it does, where that fails
pub console_stopped : (files : List File) (console : List ℕ) (a b c : HostState) → FilesWritten files a b → ((name : List ℕ) → TellsSame (b.holds name) (c.holds name))
    → TellsStep (AddsPrefix console) b.written c.written → FaultOf Write dash b c → WriteStopped files console dash a c
console_stopped files console a b c files_written same out cause = inr (
  refl,
  record {
    whole = keeps_whole files b c same files_written.whole;
    others = λ name other. same_then (a.holds name) (b.holds name) (c.holds name) (files_written.others name other) (same name);
    written = same_then_step (AddsPrefix console) a.written b.written c.written files_written.written out;
    cause = record { rose = rose_after a.faults b.faults c.faults (sym files_written.no_fault.faults) cause.rose; blame = cause.blame };
  },
)
