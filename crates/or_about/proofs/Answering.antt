-- From an answer to the outcome of a command that loads nothing.
use Rattle.std.proofs.Common.{◌≡◌, refl, ℕ, List, []}
use Rattle.or_host.specs.HostState.{HostState}
use Rattle.or_command.specs.Writes.{File}
use Rattle.or_command.specs.Loads.{LoadsAll}
use Rattle.or_command.specs.Ends.{CommandEnd, done, unread, too_long, refused, unwritten, no_memory}
use Rattle.or_command.specs.Outcomes.{AreApart}
use Rattle.or_command.specs.Finishing.{WriteEnds}
use Rattle.or_command.specs.Answered.{FinishEnds}
use Rattle.or_command.proofs.TellsLemmas.{untouched_refl, no_fault_refl}
use Rattle.or_about.specs.About.{about_loads, about_check, AboutWrites}

-- a text that is written out, or not
pub written_ends : (text : List ℕ) (end : CommandEnd) (a b : HostState) → WriteEnds [] text end a b → FinishEnds about_check (AboutWrites text) [] end a b
written_ends text done a b ends = record { sound = refl; outs = []; console = text; writes = record { none = refl; told = refl }; ends = ends }
written_ends text (unwritten name) a b ends = record { sound = refl; outs = []; console = text; writes = record { none = refl; told = refl }; ends = ends }
written_ends text (unread name) a b ends = absurd ends
written_ends text (too_long name limit) a b ends = absurd ends
written_ends text (refused fault) a b ends = absurd ends
written_ends text no_memory a b ends = absurd ends

-- no file is loaded
pub none_loaded : (a : HostState) → LoadsAll about_loads [] [] a a
none_loaded a = record {
  files = [];
  stands = refl;
  all = record { read = tt; untouched = untouched_refl a; no_fault = no_fault_refl a; lacks = refl };
}

pub about_apart : (text : List ℕ) (files : List (List ℕ)) (outs : List File) (console : List ℕ) → AboutWrites text files outs console → AreApart about_loads outs
about_apart text files outs console writes = tt
