-- From how `asm` and `dis` end behind their loads to what they come to.
use Rattle.std.proofs.Common.{◌≡◌, ◌≢◌, ◌∙◌, sym, ap, refl, subst, ℕ, Bool, List, [], ◌∷◌, ◌++◌, Option, Some, None, inl, inr, arith, append-nil, ◌≤◌, length}
use Rattle.std.specs.Prelude.{Result, Ok, Err, ⊤}
use Rattle.or_asm.specs.Source.{SourceFault, source_of}
use Rattle.or_elf.specs.declared.fault.ElfFault.{ElfFault}
use Rattle.or_elf.specs.Fault.{elf_fault}
use Rattle.or_elf.specs.Text.{Piece, word_count, elf_text}
use Rattle.or_elf.proofs.WrittenFault.{length-elf_text}
use Rattle.or_host.specs.Bytes.{AddsPrefix}
use Rattle.or_host.specs.Told.{TellsSame, TellsStep}
use Rattle.or_host.specs.Counts.{Rose}
use Rattle.or_host.specs.HostState.{HostState}
use Rattle.or_command.specs.Writes.{File, AllWritten}
use Rattle.or_command.specs.Loads.{AreRead, AllRead, LoadsAll}
use Rattle.or_command.specs.Said.{OnlySays}
use Rattle.or_command.specs.Ends.{FailedCheck, CommandEnd, done, unread, too_long, refused, unwritten, no_memory}
use Rattle.or_command.specs.Outcomes.{LeavesAll, AreApart, CommandOutcome, Computes}
use Rattle.or_command.specs.Finishing.{IfNoMemory}
use Rattle.or_command.specs.Answered.{FinishEnds}
use Rattle.or_command.specs.Carried.{IsCarriedOut}
use Rattle.or_command.proofs.TellsLemmas.{none_prefix, same_refl, same_then, same_then_step, step_then_same, no_fault_then}
use Rattle.or_command.proofs.OutcomesLemmas.{read_stays, done_outcome, unwritten_outcome, refusal_outcome, load_lacks}
use Rattle.or_command.proofs.FinishingLemmas.{loaded_goes_behind}
use Rattle.or_command_source.specs.Assembly.{asm_loads, asm_check, source_told, source_check, AsmWrites, AsmLacks, only_file}
use Rattle.or_command_source.specs.Listing.{dis_loads, dis_check, fault_told, fault_check, DisWrites, DisLacks, HasListed, listing}
use Rattle.or_command_line.specs.declared.Workload.{Workload}
use Rattle.or_command_source.specs.Generation.{gen_loads, gen_check, GenWrites}
use Rattle.or_command.specs.Pieces.{Wrote}
use Rattle.or_command_source.specs.Listed.{DisEnds}

-- the source is not the image that is written
asm_apart : (source image : List ℕ) (symbols : Bool) → image ≢ source → (files : List (List ℕ)) (outs : List File) (console : List ℕ)
    → AsmWrites image symbols files outs console → AreApart (asm_loads source) outs
asm_apart source image symbols apart files outs console writes = subst (AreApart (asm_loads source)) (sym writes.outputs) ((λ e. apart (sym e), tt), tt)

-- no check need pass before memory is asked for
any_end : (end : CommandEnd) → IfNoMemory end ⊤
any_end done = tt
any_end (unwritten name) = tt
any_end (unread name) = tt
any_end (too_long name limit) = tt
any_end (refused fault) = tt
any_end no_memory = tt

-- the command behind a source that was loaded
pub asm_goes_on : (source image : List ℕ) (symbols : Bool) → image ≢ source → (held kept : List (List ℕ)) (end : CommandEnd) (a b c : HostState) → held ≡ []
    → LoadsAll (asm_loads source) held kept a b → FinishEnds (asm_check source) (AsmWrites image symbols) kept end b c
    → CommandOutcome (asm_loads source) (asm_check source) (AsmWrites image symbols) (AsmLacks source) end a c
asm_goes_on source image symbols apart held kept end a b c none loads ends =
    loaded_goes_behind (asm_loads source) (Computes (asm_check source)) (AsmWrites image symbols) (asm_apart source image symbols apart)
    (λ files. ⊤) held kept end a b c none loads ends (any_end end)

-- memory that runs out before a source is read
pub source_lacks : (source : List ℕ) (a b : HostState) → LeavesAll a b → Rose a.lacks b.lacks → AsmLacks source a b
source_lacks source a b left rose = load_lacks (asm_loads source) (λ files. ⊤) a b left rose

pub source_status : (name : List ℕ) (said : Result (List Piece) SourceFault) (fault : FailedCheck) → source_check name said ≡ Some fault → fault.status ≡ 9
source_status name (Ok program) fault e = absurd (let b : ⊥ = cc in b)
source_status name (Err refusal) fault e =
    let same : source_told name refusal ≡ fault = cc in sym (ap (λ (f : FailedCheck). f.status) same)

image_status : (name : List ℕ) (found : Option ElfFault) (fault : FailedCheck) → fault_check name found ≡ Some fault → fault.status ≡ 3
image_status name None fault e = absurd (let b : ⊥ = cc in b)
image_status name (Some found) fault e =
    let same : fault_told name found ≡ fault = cc in sym (ap (λ (f : FailedCheck). f.status) same)

-- neither check has status 2 or 16
pub asm_carried : (source : List ℕ) (files : List (List ℕ)) (fault : FailedCheck) → asm_check source files ≡ Some fault → IsCarriedOut fault.status
asm_carried source files fault found = let nine = source_status source (source_of (only_file files)) fault found in (λ two. absurd (omega (arith, nine, two)), λ same. absurd (omega (arith, nine, same)))

pub dis_carried : (image : List ℕ) (files : List (List ℕ)) (fault : FailedCheck) → dis_check image files ≡ Some fault → IsCarriedOut fault.status
dis_carried image files fault found = let three = image_status image (elf_fault (only_file files) 268435456) fault found in (λ two. absurd (omega (arith, three, two)), λ same. absurd (omega (arith, three, same)))

-- memory that runs out before an image is read leaves all as it was
pub lacks_none : (image : List ℕ) (a b : HostState) → LeavesAll a b → Rose a.lacks b.lacks → DisLacks image a b
lacks_none image a b left rose = record {
  names = left.untouched.names;
  no_fault = left.no_fault;
  text = [];
  of_image = inl (refl, rose);
  written = none_prefix a.written b.written left.untouched.written;
}

listed_then : (image text : List ℕ) (a b c : HostState) → OnlySays b c → HasListed image text a b → HasListed image text a c
listed_then image text a b c only (inl none) = inl (none.0, subst (λ (n : ℕ). Rose a.lacks n) (sym only.lacks) none.1)
listed_then image text a b c only (inr at) =
    inr (record { files = at.files; read = read_stays (dis_loads image) at.files b c only.names at.read; sound = at.sound; listed = at.listed })

-- what is said changes none of it
pub lacks_then_said : (image : List ℕ) (a b c : HostState) → OnlySays b c → DisLacks image a b → DisLacks image a c
lacks_then_said image a b c only lacks = record {
  names = λ name. same_then (a.holds name) (b.holds name) (c.holds name) (lacks.names name) (only.names name);
  no_fault = record { faults = only.faults ∙ lacks.no_fault.faults; blame = only.blame ∙ lacks.no_fault.blame };
  text = lacks.text;
  of_image = listed_then image lacks.text a b c only lacks.of_image;
  written = step_then_same (AddsPrefix lacks.text) a.written b.written c.written lacks.written only.written;
}

wrote_all : (text : List ℕ) (b c : HostState) → Wrote text b c → AllWritten [] text b c
wrote_all text b c wrote = record { whole = tt; others = λ name _. wrote.names name; written = wrote.written; no_fault = wrote.no_fault }

sound_of : (image : List ℕ) (found : Option ElfFault) → found ≡ None → fault_check image found ≡ None
sound_of image found e = ap (fault_check image) e

-- the command behind an image that was loaded
dis_finished : (image : List ℕ) (files : List (List ℕ)) (end : CommandEnd) (a b c : HostState) → AllRead (dis_loads image) files a b
    → DisEnds image (only_file files) end b c → CommandOutcome (dis_loads image) (dis_check image) DisWrites (DisLacks image) end a c
dis_finished image files done a b c all ends =
    done_outcome (dis_loads image) (dis_check image) DisWrites (DisLacks image) files [] (listing (only_file files)) a b c
    (tt, tt) all (sound_of image (elf_fault (only_file files) 268435456) ends.0) (record { none = refl; listed = refl }) (wrote_all (listing (only_file files)) b c ends.1)
dis_finished image files (unwritten name) a b c all ends =
    unwritten_outcome (dis_loads image) (dis_check image) DisWrites (DisLacks image) files [] (listing (only_file files)) name a b c
    (tt, tt) all (sound_of image (elf_fault (only_file files) 268435456) ends.0) (record { none = refl; listed = refl })
    (inr (ends.1, record { whole = tt; others = λ other _. ends.2.names other; written = ends.2.written; cause = ends.2.cause }))
dis_finished image files (refused fault) a b c all ends =
    subst (λ (s : HostState). CommandOutcome (dis_loads image) (dis_check image) DisWrites (DisLacks image) (refused fault) a s) (sym ends.1)
    (refusal_outcome (dis_loads image) (dis_check image) DisWrites (DisLacks image) files fault a b all ends.0)
dis_finished image files no_memory a b c all ends = record {
  names = λ name. same_then (a.holds name) (b.holds name) (c.holds name) (all.untouched.names name) (ends.1.names name);
  no_fault = no_fault_then a b c all.no_fault ends.1.no_fault;
  text = listing (only_file files);
  of_image = inr (record {
    files = files;
    read = read_stays (dis_loads image) files b c ends.1.names all.read;
    sound = sound_of image (elf_fault (only_file files) 268435456) ends.0;
    listed = refl;
  });
  written = same_then_step (AddsPrefix (listing (only_file files))) a.written b.written c.written all.untouched.written ends.1.written;
}
dis_finished image files (unread name) a b c all ends = absurd ends
dis_finished image files (too_long name limit) a b c all ends = absurd ends

pub dis_goes_on : (image : List ℕ) (held kept : List (List ℕ)) (end : CommandEnd) (a b c : HostState) → held ≡ [] → LoadsAll (dis_loads image) held kept a b
    → DisEnds image (only_file kept) end b c → CommandOutcome (dis_loads image) (dis_check image) DisWrites (DisLacks image) end a c
dis_goes_on image held kept end a b c none loads ends =
    let same : kept ≡ loads.files = loads.stands ∙ ap (λ l. l ++ loads.files) none in
    dis_finished image loads.files end a b c loads.all (subst (λ (files : List (List ℕ)). DisEnds image (only_file files) end b c) same ends)

-- no file is loaded
pub none_loaded : (a : HostState) → LoadsAll gen_loads [] [] a a
none_loaded a = record {
  files = [];
  stands = refl;
  all = record {
    read = tt;
    untouched = record { names = λ name. same_refl (a.holds name); written = same_refl a.written };
    no_fault = record { faults = refl; blame = refl };
    lacks = refl;
  };
}

pub gen_apart : (numbers : Workload) (source : List ℕ) (files : List (List ℕ)) (outs : List File) (console : List ℕ)
    → GenWrites numbers source files outs console → AreApart gen_loads outs
gen_apart numbers source files outs console writes = tt

pub gen_carried : (files : List (List ℕ)) (fault : FailedCheck) → gen_check files ≡ Some fault → IsCarriedOut fault.status
gen_carried files fault found = absurd (let b : ⊥ = cc in b)

-- a file that was read is within the limit
pub source_small : (source : List ℕ) (files : List (List ℕ)) (state : HostState) → AreRead (asm_loads source) files state → length (only_file files) ≤ 4194304
source_small source [] state read = absurd read
source_small source (file ∷ files) state read = read.1

pub image_small : (image : List ℕ) (files : List (List ℕ)) (state : HostState) → AreRead (dis_loads image) files state → length (only_file files) ≤ 67108864
image_small image [] state read = absurd read
image_small image (file ∷ files) state read = read.1

pub ruleset limits = (source_small, image_small)

-- the file of a program that the writer takes is within the limit of an image
pub file_small : (program : List Piece) → length program ≤ 64 → word_count program ≤ 16000000 → length (elf_text program) ≤ 67108864
file_small program few short = omega (arith, length-elf_text program, few, short)

pub ruleset files = (file_small)
