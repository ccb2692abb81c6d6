-- Where no fault came, a command comes to what its files come to.
use Rattle.std.proofs.Common.{◌≡◌, ◌∙◌, sym, ap, refl, subst, ℕ, List, [], ◌∷◌, ◌++◌, ◌+◌, ◌<◌, ◌≤◌, length, Option, Some, None, true, false, cond, inl, inr, arith, length-append}
use Rattle.std.specs.Prelude.{IfSome, ◌⊎◌, nat_lt}
use Rattle.std.proofs.lemmas.Bool.Decides.{nat_tests}
use Rattle.or_host.specs.Bytes.{IsPrefix}
use Rattle.or_host.specs.Told.{Content, IsPrefixOfFile}
use Rattle.or_host.specs.Counts.{Rose}
use Rattle.or_host.specs.HostState.{HostState}
use Rattle.or_command.specs.Writes.{File, WriteStopped}
use Rattle.or_command.specs.Loads.{Load, AreRead}
use Rattle.or_command.specs.Ends.{FailedCheck, CommandEnd, done, unread, too_long, refused, unwritten, no_memory}
use Rattle.or_command.specs.Answered.{AllFit}
use Rattle.or_command.specs.Outcomes.{first_long, end_by, AllTold, OutcomeBy, IsJudged, EndsBy, IsEndOf, Computes, CommandOutcome, end_of_files}

-- what is told is what was read
told_is : (b : HostState) (name taken file : List ℕ) → IfSome (b.holds name) (λ c. c ≡ Some taken) → b.holds name ≡ Some (Some file) → taken ≡ file
told_is b name taken file read told =
    let P : Option Content → Type 0 = λ held. IfSome held (λ c. c ≡ Some taken) in
    let e : (let c : Content = Some file in c) ≡ Some taken = subst P told read in cc

same_read : (loads : List Load) (got files : List (List ℕ)) (b : HostState) → AreRead loads got b → AllTold loads files b → got ≡ files
same_read [] [] [] b read told = refl
same_read [] [] (file ∷ files) b read told = absurd told
same_read [] (g ∷ got) files b read told = absurd read
same_read (load ∷ loads) [] files b read told = absurd read
same_read (load ∷ loads) (g ∷ got) [] b read told = absurd told
same_read (load ∷ loads) (g ∷ got) (file ∷ files) b read told =
    let here : g ≡ file = told_is b load.name g file read.0 told.0 in
    let later : got ≡ files = same_read loads got files b read.2 told.1 in cc

short_test : (limit n : ℕ) → n ≤ limit → nat_lt limit n ≡ false
short_test limit n fits = grind (arith, nat_tests)

long_test : (limit n : ℕ) → limit < n → nat_lt limit n ≡ true
long_test limit n over = grind (arith, nat_tests)

none_long : (loads : List Load) (files : List (List ℕ)) (b : HostState) → AreRead loads files b → first_long loads files ≡ None
none_long [] files b read = refl
none_long (load ∷ loads) [] b read = refl
none_long (load ∷ loads) (file ∷ files) b read =
    let short : nat_lt load.limit (length file) ≡ false = short_test load.limit (length file) read.1 in
    ap (λ t. cond t (Some load) (first_long loads files)) short ∙ none_long loads files b read.2

-- the first file that was too long is the first that is longer than its limit
long_at : (front : List Load) (load : Load) (rest : List Load) (before files : List (List ℕ)) (taken : List ℕ) (b : HostState)
    → AreRead front before b → AllTold (front ++ load ∷ rest) files b → IfSome (b.holds load.name) (IsPrefixOfFile taken)
    → length taken ≡ load.limit + 1 → first_long (front ++ load ∷ rest) files ≡ Some load
long_at [] load rest (g ∷ before) files taken b read told front long = absurd read
long_at [] load rest [] [] taken b read told front long = absurd told
long_at [] load rest [] (file ∷ files) taken b read told front long =
    let P : Option Content → Type 0 = λ held. IfSome held (IsPrefixOfFile taken) in
    let is_prefix : IsPrefix taken file = subst P told.0 front in
    let over : load.limit < length file = omega (arith, ap length is_prefix.parts, length-append taken is_prefix.rest, long) in
    ap (λ t. cond t (Some load) (first_long rest files)) (long_test load.limit (length file) over)
long_at (f ∷ front) load rest [] files taken b read told is_front long = absurd read
long_at (f ∷ front) load rest (g ∷ before) [] taken b read told is_front long = absurd told
long_at (f ∷ front) load rest (g ∷ before) (file ∷ files) taken b read told is_front long =
    let here : g ≡ file = told_is b f.name g file read.0 told.0 in
    let fits : length file ≤ f.limit = subst (λ (x : List ℕ). length x ≤ f.limit) here read.1 in
    ap (λ t. cond t (Some f) (first_long (front ++ load ∷ rest) files)) (short_test f.limit (length file) fits)
    ∙ long_at front load rest before files taken b read.2 told.1 is_front long

stops_rose : (outs : List File) (console name : List ℕ) (a b : HostState) → WriteStopped outs console name a b → Rose a.faults b.faults
stops_rose outs console name a b (inl at) = at.cause.rose
stops_rose outs console name a b (inr at) = at.1.cause.rose

-- Where the host tells all files and no fault came, a command comes to what its files come to, or memory ran out.
pub complete_by : (loads : List Load) (Verdict : List (List ℕ) → Option FailedCheck → Type 0) (Writes : List (List ℕ) → List File → List ℕ → Type 0)
    (OnNoMemory : HostState → HostState → Type 0) (end : CommandEnd) (a b : HostState) (files : List (List ℕ))
    → OutcomeBy loads Verdict Writes OnNoMemory end a b → AllTold loads files b → (Rose a.faults b.faults → ⊥)
    → IsEndOf loads Verdict Writes OnNoMemory files end ⊎ ((end ≡ no_memory) × OnNoMemory a b)
complete_by loads Verdict Writes OnNoMemory done a b files outcome told sound =
    let same : outcome.files ≡ files = same_read loads outcome.files files b outcome.read told in
    let fits : first_long loads files ≡ None = subst (λ (x : List (List ℕ)). first_long loads x ≡ None) same (none_long loads outcome.files b outcome.read) in
    let judged : IsJudged loads Verdict Writes OnNoMemory files done =
    record { found = None; verdict = subst (λ (x : List (List ℕ)). Verdict x None) same outcome.sound; is_end = refl } in
    inl (subst (λ (l : Option Load). EndsBy loads Verdict Writes OnNoMemory l files done) (sym fits) judged)
complete_by loads Verdict Writes OnNoMemory (refused r) a b files outcome told sound =
    let same : outcome.files ≡ files = same_read loads outcome.files files b outcome.read told in
    let fits : first_long loads files ≡ None = subst (λ (x : List (List ℕ)). first_long loads x ≡ None) same (none_long loads outcome.files b outcome.read) in
    let judged : IsJudged loads Verdict Writes OnNoMemory files (refused r) =
    record { found = Some r; verdict = subst (λ (x : List (List ℕ)). Verdict x (Some r)) same outcome.found; is_end = refl } in
    inl (subst (λ (l : Option Load). EndsBy loads Verdict Writes OnNoMemory l files (refused r)) (sym fits) judged)
complete_by loads Verdict Writes OnNoMemory (too_long name limit) a b files outcome told sound =
    let told_here : AllTold (outcome.stopped.front ++ outcome.stopped.load ∷ outcome.stopped.rest) files b = subst (λ (ls : List Load). AllTold ls files b) outcome.stopped.order told in
    let first : first_long loads files ≡ Some outcome.stopped.load =
    ap (λ ls. first_long ls files) outcome.stopped.order
    ∙ long_at outcome.stopped.front outcome.stopped.load outcome.stopped.rest outcome.before files outcome.stopped.taken b outcome.stopped.read told_here outcome.stopped.told outcome.stopped.long in
    let is : too_long name limit ≡ too_long outcome.stopped.load.name outcome.stopped.load.limit =
    ap (λ n. too_long n limit) outcome.stopped.named ∙ ap (λ n. too_long outcome.stopped.load.name n) outcome.stopped.limited in
    inl (subst (λ (l : Option Load). EndsBy loads Verdict Writes OnNoMemory l files (too_long name limit)) (sym first) is)
complete_by loads Verdict Writes OnNoMemory (unread name) a b files outcome told sound = absurd (sound outcome.stopped.cause.rose)
complete_by loads Verdict Writes OnNoMemory (unwritten name) a b files outcome told sound = absurd (sound (stops_rose outcome.outs outcome.console name a b outcome.stopped))
complete_by loads Verdict Writes OnNoMemory no_memory a b files outcome told sound = inr (refl, outcome)

-- a file that was read is within its limit
long_not_read : (front : List Load) (load : Load) (rest : List Load) (files : List (List ℕ)) (file : List ℕ) (b : HostState)
    → AreRead (front ++ load ∷ rest) files b → b.holds load.name ≡ Some (Some file) → load.limit < length file → ⊥
long_not_read [] load rest [] file b read told over = read
long_not_read [] load rest (got ∷ files) file b read told over =
    let same : got ≡ file = told_is b load.name got file read.0 told in
    let fits : length file ≤ load.limit = subst (λ (x : List ℕ). length x ≤ load.limit) same read.1 in
    omega arith
long_not_read (f ∷ front) load rest [] file b read told over = read
long_not_read (f ∷ front) load rest (got ∷ files) file b read told over = long_not_read front load rest files file b read.2 told over

-- two files, each the first that is too long, are one
same_long : (front front' : List Load) (load load' : Load) (rest rest' : List Load) (before told : List (List ℕ)) (taken file : List ℕ) (b : HostState)
    → front ++ load ∷ rest ≡ front' ++ load' ∷ rest' → AreRead front before b → IfSome (b.holds load.name) (IsPrefixOfFile taken) → length taken ≡ load.limit + 1
    → AllTold front' told b → AllFit front' told → b.holds load'.name ≡ Some (Some file) → load'.limit < length file → load ≡ load'
same_long [] [] load load' rest rest' before told taken file b order read is_front long tells fits held over = cc
same_long [] (f ∷ front') load load' rest rest' before [] taken file b order read is_front long tells fits held over = absurd tells
same_long [] (f ∷ front') load load' rest rest' before (g ∷ told) taken file b order read is_front long tells fits held over =
    let same : f ≡ load = cc in
    let here : b.holds load.name ≡ Some (Some g) = subst (λ (x : Load). b.holds x.name ≡ Some (Some g)) same tells.0 in
    let small : length g ≤ load.limit = subst (λ (x : Load). length g ≤ x.limit) same fits.0 in
    let P : Option Content → Type 0 = λ held. IfSome held (IsPrefixOfFile taken) in
    let is_prefix : IsPrefix taken g = subst P here is_front in
    absurd (omega (arith, ap length is_prefix.parts, length-append taken is_prefix.rest, long))
same_long (f ∷ front) [] load load' rest rest' [] told taken file b order read is_front long tells fits held over = absurd read
same_long (f ∷ front) [] load load' rest rest' (g ∷ before) told taken file b order read is_front long tells fits held over =
    let same : load' ≡ f = cc in
    let here : b.holds f.name ≡ Some (Some file) = subst (λ (x : Load). b.holds x.name ≡ Some (Some file)) same held in
    let more : f.limit < length file = subst (λ (x : Load). x.limit < length file) same over in
    let is : g ≡ file = told_is b f.name g file read.0 here in
    let small : length file ≤ f.limit = subst (λ (x : List ℕ). length x ≤ f.limit) is read.1 in
    absurd (omega arith)
same_long (f ∷ front) (f' ∷ front') load load' rest rest' [] told taken file b order read is_front long tells fits held over = absurd read
same_long (f ∷ front) (f' ∷ front') load load' rest rest' (g ∷ before) [] taken file b order read is_front long tells fits held over = absurd tells
same_long (f ∷ front) (f' ∷ front') load load' rest rest' (g ∷ before) (h ∷ told) taken file b order read is_front long tells fits held over =
    let later : front ++ load ∷ rest ≡ front' ++ load' ∷ rest' = cc in
    same_long front front' load load' rest rest' before told taken file b later read.2 is_front long tells.1 fits.1 held over

-- Where the host tells the files up to one that is the first to hold more than its limit, and no fault came, a command comes
-- to this file, or memory ran out.
pub long_file_decides_by : (loads : List Load) (Verdict : List (List ℕ) → Option FailedCheck → Type 0) (Writes : List (List ℕ) → List File → List ℕ → Type 0)
    (OnNoMemory : HostState → HostState → Type 0) (end : CommandEnd) (a b : HostState) (front : List Load) (load : Load) (rest : List Load) (told : List (List ℕ)) (file : List ℕ)
    → OutcomeBy loads Verdict Writes OnNoMemory end a b → loads ≡ front ++ load ∷ rest → AllTold front told b → AllFit front told
    → b.holds load.name ≡ Some (Some file) → load.limit < length file → (Rose a.faults b.faults → ⊥)
    → (end ≡ too_long load.name load.limit) ⊎ ((end ≡ no_memory) × OnNoMemory a b)
long_file_decides_by loads Verdict Writes OnNoMemory done a b front load rest told file outcome order tells fits held over sound =
    absurd (long_not_read front load rest outcome.files file b (subst (λ (ls : List Load). AreRead ls outcome.files b) order outcome.read) held over)
long_file_decides_by loads Verdict Writes OnNoMemory (refused r) a b front load rest told file outcome order tells fits held over sound =
    absurd (long_not_read front load rest outcome.files file b (subst (λ (ls : List Load). AreRead ls outcome.files b) order outcome.read) held over)
long_file_decides_by loads Verdict Writes OnNoMemory (too_long name limit) a b front load rest told file outcome order tells fits held over sound =
    let at : outcome.stopped.load ≡ load = same_long outcome.stopped.front front outcome.stopped.load load outcome.stopped.rest rest outcome.before told outcome.stopped.taken file b
    (sym outcome.stopped.order ∙ order) outcome.stopped.read outcome.stopped.told outcome.stopped.long tells fits held over in
    inl (ap (λ n. too_long n limit) outcome.stopped.named ∙ ap (λ n. too_long outcome.stopped.load.name n) outcome.stopped.limited
    ∙ ap (λ (l : Load). too_long l.name l.limit) at)
long_file_decides_by loads Verdict Writes OnNoMemory (unread name) a b front load rest told file outcome order tells fits held over sound = absurd (sound outcome.stopped.cause.rose)
long_file_decides_by loads Verdict Writes OnNoMemory (unwritten name) a b front load rest told file outcome order tells fits held over sound =
    absurd (sound (stops_rose outcome.outs outcome.console name a b outcome.stopped))
long_file_decides_by loads Verdict Writes OnNoMemory no_memory a b front load rest told file outcome order tells fits held over sound = inr (refl, outcome)

computed_end : (loads : List Load) (verdict : List (List ℕ) → Option FailedCheck) (Writes : List (List ℕ) → List File → List ℕ → Type 0)
    (OnNoMemory : HostState → HostState → Type 0) (long : Option Load) (files : List (List ℕ)) (end : CommandEnd)
    → EndsBy loads (Computes verdict) Writes OnNoMemory long files end → end ≡ end_by long (verdict files)
computed_end loads verdict Writes OnNoMemory (Some load) files end is = is
computed_end loads verdict Writes OnNoMemory None files end is = is.is_end ∙ ap (end_by None) (sym is.verdict)

-- the same of a command whose verdict is a function of its files
module _ (loads : List Load) (verdict : List (List ℕ) → Option FailedCheck) (Writes : List (List ℕ) → List File → List ℕ → Type 0)
    (OnNoMemory : HostState → HostState → Type 0) where
  pub complete : (end : CommandEnd) (a b : HostState) (files : List (List ℕ)) → CommandOutcome loads verdict Writes OnNoMemory end a b → AllTold loads files b
      → (Rose a.faults b.faults → ⊥) → (end ≡ end_of_files loads verdict Writes OnNoMemory files) ⊎ ((end ≡ no_memory) × OnNoMemory a b)
  complete end a b files outcome told sound = elim (complete_by loads (Computes verdict) Writes OnNoMemory end a b files outcome told sound) [
    | inl e ↦ inl (computed_end loads verdict Writes OnNoMemory (first_long loads files) files end e)
    | inr e ↦ inr e
  ]

  pub long_file_decides : (end : CommandEnd) (a b : HostState) (front : List Load) (load : Load) (rest : List Load) (told : List (List ℕ)) (file : List ℕ)
      → CommandOutcome loads verdict Writes OnNoMemory end a b → loads ≡ front ++ load ∷ rest → AllTold front told b → AllFit front told
      → b.holds load.name ≡ Some (Some file) → load.limit < length file → (Rose a.faults b.faults → ⊥)
      → (end ≡ too_long load.name load.limit) ⊎ ((end ≡ no_memory) × OnNoMemory a b)
  long_file_decides end a b front load rest told file outcome order tells fits held over sound =
      long_file_decides_by loads (Computes verdict) Writes OnNoMemory end a b front load rest told file outcome order tells fits held over sound
