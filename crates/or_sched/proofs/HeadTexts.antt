-- The texts that the first place of the head completes are the four lines.
use Rattle.std.proofs.Common.{◌≡◌, ◌∙◌, sym, ap, subst, ℕ, List, ◌++◌, ◌∷◌, [], ◌+◌, ◌≤◌, arith, refl, inl, inr, ◌⊎◌, decimal, None, true, false}
use Rattle.std.specs.Prelude.{codes, Bool}
use Rattle.std.proofs.lemmas.Fmt.{decimal_digit}
use Rattle.or_text.specs.Hexadecimal.{digest_text}
use Rattle.or_sched.specs.HeadText.{form_text, IsDigest}
use Rattle.or_sched.specs.declared.head.Known.{Known}
use Rattle.or_sched.specs.declared.head.Literal.TheVariants.{Orsched, Cores, Budget, Ram, Latched, Image, Input}
use Rattle.or_sched.specs.declared.head.HeadPlace.TheVariants.{Text}
use Rattle.or_sched.specs.Places.{InNumber}
use Rattle.or_sched.specs.HeadPlaces.{InText, literal_bytes, AtRam, AtBudget, AtCores, AtFirst, AtSecond, AtVersion, AtImage, AtInput, HeadCompletes, AreDigests}
use Rattle.or_sched.specs.HeadLines.{input_text, image_text, ram_text, budget_text, cores_text, KnownFits, IsHeadText}
use Rattle.or_sched.proofs.Digests.{digest_from}

-- a number with its end
field_text : (end value : ℕ) (more rest : List ℕ) → InNumber None end value more rest → rest ≡ decimal value ++ end ∷ more
field_text end value more rest n = n.text ∙ ap (λ t. t ++ end ∷ more) n.digits

field_of : (end value : ℕ) (more rest : List ℕ) → rest ≡ decimal value ++ end ∷ more → InNumber None end value more rest
field_of end value more rest e = record { tail = decimal value; digits = refl; text = e }

-- a text of which nothing has come
text_of : (C : List ℕ → Type 0) (text rest more : List ℕ) → rest ≡ text ++ more → C more → InText C text 0 rest
text_of C text rest more e c = record { more = more; whole = e; follows = c }

record ImageSays (final known : Known) (end rest : List ℕ) : Type 0 where
  text : rest ≡ digest_text final.image ++ 10 ∷ input_text final end
  version : final.version ≡ known.version
  cores : final.cores ≡ known.cores
  budget : final.budget ≡ known.budget
  ram : final.ram ≡ known.ram
  latched : final.latched ≡ known.latched
  digests : AreDigests final

image_says : (final known : Known) (end rest : List ℕ) → AtImage final end known [] rest → ImageSays final known end rest
image_says final known end rest d =
    let t : InText (AtInput final end (record known { image = d.bytes }) []) (literal_bytes Input) 0 d.more = d.follows in
    let i : AtInput final end (record known { image = d.bytes }) [] t.more = t.follows in
    let is : final ≡ record known { image = d.bytes; input = i.bytes } = i.follows.0 in
    let image : final.image ≡ d.bytes = ap (λ k. k.image) is in
    let input : final.input ≡ i.bytes = ap (λ k. k.input) is in
    record {
      text = d.text ∙ ap (λ x. x ++ 10 ∷ d.more) d.digits
          ∙ ap (λ m. digest_text d.bytes ++ 10 ∷ m) (t.whole ∙ ap (λ m. literal_bytes Input ++ m) (i.text ∙ ap (λ x. x ++ 10 ∷ i.more) i.digits ∙ ap (λ e. digest_text i.bytes ++ 10 ∷ e) i.follows.1))
          ∙ ap (λ b. digest_text b ++ 10 ∷ (codes "input " ++ (digest_text i.bytes ++ 10 ∷ end))) (sym image)
          ∙ ap (λ b. digest_text final.image ++ 10 ∷ (codes "input " ++ (digest_text b ++ 10 ∷ end))) (sym input);
      version = ap (λ k. k.version) is;
      cores = ap (λ k. k.cores) is;
      budget = ap (λ k. k.budget) is;
      ram = ap (λ k. k.ram) is;
      latched = ap (λ k. k.latched) is;
      digests = (subst IsDigest (sym image) d.is, subst IsDigest (sym input) i.is);
    }

record RamSays (final known : Known) (end rest : List ℕ) : Type 0 where
  text : rest ≡ ram_text final.latched final end
  version : final.version ≡ known.version
  cores : final.cores ≡ known.cores
  budget : final.budget ≡ known.budget
  ram : (1 ≤ final.ram) × (final.ram ≤ 256)
  latched : final.latched ≡ true → final.version ≡ 2
  digests : AreDigests final

ram_says : (final known : Known) (end rest : List ℕ) → AtRam final end known None rest → RamSays final known end rest
ram_says final known end rest (inl f) =
    let s : ImageSays final (record known { ram = f.value; latched = false }) end f.follows.more =
    image_says final (record known { ram = f.value; latched = false }) end f.follows.more f.follows.follows in
    record {
      text = field_text 10 f.value f.more rest f.digits ∙ ap (λ t. decimal f.value ++ 10 ∷ t) (f.follows.whole ∙ ap (λ t. literal_bytes Image ++ t) s.text)
          ∙ ap (λ b. decimal f.value ++ (form_text b ++ 10 ∷ image_text final end)) (sym s.latched) ∙ ap (λ n. decimal n ++ (form_text final.latched ++ 10 ∷ image_text final end)) (sym s.ram);
      version = s.version;
      cores = s.cores;
      budget = s.budget;
      ram = (omega (arith, s.ram, f.large), omega (arith, s.ram, f.small));
      latched = λ e. let no : true ≡ false = sym e ∙ s.latched in cc;
      digests = s.digests;
    }
ram_says final known end rest (inr r) =
    let l : AtSecond final end (record known { ram = r.1.value; latched = true }) r.1.follows.more = r.1.follows.follows in
    let s : ImageSays final (record known { ram = r.1.value; latched = true }) end l.2.more =
    image_says final (record known { ram = r.1.value; latched = true }) end l.2.more l.2.follows in
    record {
      text = field_text 32 r.1.value r.1.more rest r.1.digits
          ∙ ap (λ t. decimal r.1.value ++ 32 ∷ t) (r.1.follows.whole ∙ ap (λ t. literal_bytes Latched ++ t) (l.1 ∙ ap (λ t. 10 ∷ t) (l.2.whole ∙ ap (λ t. literal_bytes Image ++ t) s.text)))
          ∙ ap (λ b. decimal r.1.value ++ (form_text b ++ 10 ∷ image_text final end)) (sym s.latched) ∙ ap (λ n. decimal n ++ (form_text final.latched ++ 10 ∷ image_text final end)) (sym s.ram);
      version = s.version;
      cores = s.cores;
      budget = s.budget;
      ram = (omega (arith, s.ram, r.1.large), omega (arith, s.ram, r.1.small));
      latched = λ e. s.version ∙ r.0;
      digests = s.digests;
    }

version_text : (v : ℕ) → (v ≡ 1) ⊎ (v ≡ 2) → decimal v ≡ (48 + v) ∷ []
version_text v (inl e) = decimal_digit v (omega arith)
version_text v (inr e) = decimal_digit v (omega arith)

pub head_from : (final known : Known) (end rest : List ℕ) → HeadCompletes final end known (Text Orsched 0) rest → IsHeadText final end rest
head_from final known end rest t =
    let v : AtVersion final end known t.more = t.follows in
    let l : AtFirst final end (record known { version = v.0 }) v.1 = v.4 in
    let c : AtCores final end (record known { version = v.0 }) None l.2.more = l.2.follows in
    let b : AtBudget final end (record known { version = v.0; cores = c.value }) None c.follows.more = c.follows.follows in
    let s : RamSays final (record known { version = v.0; cores = c.value; budget = b.value }) end b.follows.more =
    ram_says final (record known { version = v.0; cores = c.value; budget = b.value }) end b.follows.more b.follows.follows in
    let behind_budget : c.follows.more ≡ budget_text final end =
    field_text 32 b.value b.more c.follows.more b.digits ∙ ap (λ x. decimal b.value ++ 32 ∷ x) (b.follows.whole ∙ ap (λ x. literal_bytes Ram ++ x) s.text)
    ∙ ap (λ n. decimal n ++ (codes " ram " ++ ram_text final.latched final end)) (sym s.budget) in
    let behind_cores : l.2.more ≡ cores_text final end =
    field_text 32 c.value c.more l.2.more c.digits ∙ ap (λ x. decimal c.value ++ 32 ∷ x) (c.follows.whole ∙ ap (λ x. literal_bytes Budget ++ x) behind_budget)
    ∙ ap (λ n. decimal n ++ (codes " budget " ++ budget_text final end)) (sym s.cores) in
    record {
      text = t.whole ∙ ap (λ x. codes "orsched " ++ x) (v.2 ∙ ap (λ x. (48 + v.0) ∷ x) (l.1 ∙ ap (λ x. 10 ∷ x) (l.2.whole ∙ ap (λ x. literal_bytes Cores ++ x) behind_cores))
          ∙ ap (λ d. d ++ 10 ∷ (codes "cores " ++ cores_text final end)) (sym (version_text v.0 v.3))
          ∙ ap (λ n. decimal n ++ 10 ∷ (codes "cores " ++ cores_text final end)) (sym s.version));
      fits = record {
        version = is_version v.0 v.3 s.version;
        cores = (omega (arith, s.cores, c.large), omega (arith, s.cores, c.small));
        budget = (omega (arith, s.budget, b.large), omega (arith, s.budget, b.small));
        ram = s.ram;
        latched = s.latched;
        digests = s.digests;
      };
    }
  where
    is_version : (v : ℕ) → (v ≡ 1) ⊎ (v ≡ 2) → final.version ≡ v → (final.version ≡ 1) ⊎ (final.version ≡ 2)
    is_version v (inl e) same = inl (same ∙ e)
    is_version v (inr e) same = inr (same ∙ e)

image_reads : (final known : Known) (end rest : List ℕ) → rest ≡ digest_text final.image ++ 10 ∷ input_text final end → AreDigests final
    → final ≡ record known { image = final.image; input = final.input } → AtImage final end known [] rest
image_reads final known end rest text are same =
    digest_from _ final.image rest (input_text final end) are.0 text
    (text_of _ (literal_bytes Input) (input_text final end) (digest_text final.input ++ 10 ∷ end) refl
    (digest_from _ final.input (digest_text final.input ++ 10 ∷ end) end are.1 refl (same, refl)))

same_known : (final known : Known) (latched : Bool) → final.version ≡ known.version → final.cores ≡ known.cores → final.budget ≡ known.budget → latched ≡ final.latched
    → final ≡ record known { ram = final.ram; latched = latched; image = final.image; input = final.input }
same_known final known latched version cores budget is =
    ap (λ v. record final { version = v }) version
    ∙ ap (λ v. record final { version = known.version; cores = v }) cores
    ∙ ap (λ v. record final { version = known.version; cores = known.cores; budget = v }) budget
    ∙ ap (λ v. record final { version = known.version; cores = known.cores; budget = known.budget; latched = v }) (sym is)

ram_reads : (latched : Bool) (final known : Known) (end rest : List ℕ) → rest ≡ ram_text latched final end → latched ≡ final.latched → KnownFits final
    → final.version ≡ known.version → final.cores ≡ known.cores → final.budget ≡ known.budget → AtRam final end known None rest
ram_reads false final known end rest text is fits version cores budget = inl (record {
  value = final.ram;
  more = image_text final end;
  digits = field_of 10 final.ram (image_text final end) rest text;
  large = fits.ram.0;
  small = fits.ram.1;
  follows = text_of _ (literal_bytes Image) (image_text final end) (digest_text final.image ++ 10 ∷ input_text final end) refl
      (image_reads final (record known { ram = final.ram; latched = false }) end (digest_text final.image ++ 10 ∷ input_text final end) refl fits.digests (same_known final known false version cores budget is));
})
ram_reads true final known end rest text is fits version cores budget = inr (
  sym version ∙ fits.latched (sym is),
  record {
    value = final.ram;
    more = literal_bytes Latched ++ 10 ∷ image_text final end;
    digits = field_of 32 final.ram (literal_bytes Latched ++ 10 ∷ image_text final end) rest text;
    large = fits.ram.0;
    small = fits.ram.1;
    follows = text_of _ (literal_bytes Latched) (literal_bytes Latched ++ 10 ∷ image_text final end) (10 ∷ image_text final end) refl (
      image_text final end,
      refl,
      text_of _ (literal_bytes Image) (image_text final end) (digest_text final.image ++ 10 ∷ input_text final end) refl
          (image_reads final (record known { ram = final.ram; latched = true }) end (digest_text final.image ++ 10 ∷ input_text final end) refl fits.digests (same_known final known true version cores budget is)),
    );
  },
)

pub head_to : (final known : Known) (end rest : List ℕ) → IsHeadText final end rest → HeadCompletes final end known (Text Orsched 0) rest
head_to final known end rest top =
    text_of _ (literal_bytes Orsched) rest (decimal final.version ++ 10 ∷ (codes "cores " ++ cores_text final end)) top.text (
      final.version,
      10 ∷ (codes "cores " ++ cores_text final end),
      ap (λ d. d ++ 10 ∷ (codes "cores " ++ cores_text final end)) (version_text final.version top.fits.version),
      top.fits.version,
      (
        codes "cores " ++ cores_text final end,
        refl,
        text_of _ (literal_bytes Cores) (codes "cores " ++ cores_text final end) (cores_text final end) refl
            (record {
              value = final.cores;
              more = literal_bytes Budget ++ budget_text final end;
              digits = field_of 32 final.cores (literal_bytes Budget ++ budget_text final end) (cores_text final end) refl;
              large = top.fits.cores.0;
              small = top.fits.cores.1;
              follows = text_of _ (literal_bytes Budget) (literal_bytes Budget ++ budget_text final end) (budget_text final end) refl
                  (record {
                    value = final.budget;
                    more = literal_bytes Ram ++ ram_text final.latched final end;
                    digits = field_of 32 final.budget (literal_bytes Ram ++ ram_text final.latched final end) (budget_text final end) refl;
                    large = top.fits.budget.0;
                    small = top.fits.budget.1;
                    follows = text_of _ (literal_bytes Ram) (literal_bytes Ram ++ ram_text final.latched final end) (ram_text final.latched final end) refl
                        (ram_reads final.latched final (record known { version = final.version; cores = final.cores; budget = final.budget }) end (ram_text final.latched final end) refl refl top.fits refl refl refl);
                  });
            }),
      ),
    )
