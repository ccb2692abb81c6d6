-- A recording is its head and what stands behind it.
use Rattle.std.proofs.Common.{◌≡◌, ◌≢◌, ◌∙◌, sym, ap, subst, ℕ, List, ◌++◌, ◌∷◌, [], ◌*◌, ◌≤◌, ◌<◌, append_assoc, append-nil, arith, refl, length, length-append, inl, inr, ◌⊎◌, decimal, Bool, true, false, None, min}
use Rattle.std.proofs.Math.Nat.{mul-le-mul}
use Rattle.std.specs.Prelude.{codes, map, All}
use Rattle.std.proofs.lemmas.Fmt.{decimal_digit}
use Rattle.std.proofs.lemmas.List.Elements.{All-replicate}
use Rattle.or_sched.specs.declared.recording.Head.{Head}
use Rattle.or_sched.specs.declared.recording.Mark.{Mark}
use Rattle.or_sched.specs.declared.head.Known.{Known}
use Rattle.or_sched.specs.declared.head.HeadPlace.TheVariants.{Behind}
use Rattle.or_sched.specs.declared.places.Place.TheVariants.{First}
use Rattle.or_text.specs.Hexadecimal.{digest_text}
use Rattle.or_sched.specs.HeadText.{form_text, config_line, digest_line, head_text1, head_text2}
use Rattle.or_sched.specs.RecText.{rec_text1, rec_text2}
use Rattle.or_sched.specs.HeadLines.{cores_text, known_text, KnownFits, IsHeadText}
use Rattle.or_sched.specs.Schedule.{IsSchedule, AreMarks}
use Rattle.or_sched.specs.Runs.{runs, expand, block_text}
use Rattle.or_sched.specs.Blocks.{Item, run_item, blocks_items, blocks_text, turns_of, marks_of}
use Rattle.or_sched.specs.BlockRests.{later_items, behind_of, Behind as BehindBlock}
use Rattle.or_sched.specs.Places.{Completes, AreLimits}
use Rattle.or_sched.proofs.Body.{IsBody1, IsBody2}
use Rattle.or_sched.specs.Recording.{IsHead, IsRecording1, IsRecording2, IsRecording}
use Rattle.or_sched.specs.Reading.{HeadRead, head_of, limits_of, first_of, first_block_of}
use Rattle.or_sched.proofs.ExpandLemmas.{expand_runs}
use Rattle.or_sched.proofs.BodyLemmas.{body1_from, body1_to, turns_of_runs}
use Rattle.or_sched.proofs.BlockTexts.{body2_to, marks_of_runs}
use Rattle.or_sched.proofs.BlockTurns.{body2_from}
use Rattle.or_sched.proofs.Steps.{letter_back}

-- what the head's lines say
abbrev pub known_of : ℕ → Head → Known
known_of version head = record {
  version = version;
  cores = head.config.cores;
  budget = head.config.budget;
  ram = head.config.ram;
  latched = head.config.latched;
  image = head.image;
  input = head.input;
}

regroup : (cores d1 budget d2 ram d3 form image t1 input t2 n end : List ℕ)
    → ((cores ++ d1 ++ budget ++ d2 ++ ram ++ d3 ++ form ++ n) ++ (image ++ t1 ++ n) ++ (input ++ t2 ++ n)) ++ end
    ≡ cores ++ (d1 ++ (budget ++ (d2 ++ (ram ++ (d3 ++ (form ++ (n ++ (image ++ (t1 ++ (n ++ (input ++ (t2 ++ (n ++ end)))))))))))))
regroup cores d1 budget d2 ram d3 form image t1 input t2 n end = simp append_assoc

settings_same : (known : Known) (end : List ℕ)
    → (config_line (head_of known).config ++ digest_line (codes "image ") known.image ++ digest_line (codes "input ") known.input) ++ end
    ≡ codes "cores " ++ cores_text known end
settings_same known end =
    regroup (codes "cores ") (decimal known.cores) (codes " budget ") (decimal known.budget) (codes " ram ") (decimal known.ram) (form_text known.latched)
    (codes "image ") (digest_text known.image) (codes "input ") (digest_text known.input) (codes "\n") end

pub text1 : (known : Known) (end : List ℕ) → known.version ≡ 1 → head_text1 (head_of known) ++ end ≡ known_text known end
text1 known end one =
    let digit : decimal known.version ≡ 49 ∷ [] = ap decimal one ∙ decimal_digit 1 (omega arith) in
    ap (λ t. codes "orsched 1\n" ++ t) (settings_same known end)
    ∙ sym (ap (λ d. codes "orsched " ++ (d ++ 10 ∷ (codes "cores " ++ cores_text known end))) digit)

pub text2 : (known : Known) (end : List ℕ) → known.version ≡ 2 → head_text2 (head_of known) ++ end ≡ known_text known end
text2 known end two =
    let digit : decimal known.version ≡ 50 ∷ [] = ap decimal two ∙ decimal_digit 2 (omega arith) in
    ap (λ t. codes "orsched 2\n" ++ t) (settings_same known end)
    ∙ sym (ap (λ d. codes "orsched " ++ (d ++ 10 ∷ (codes "cores " ++ cores_text known end))) digit)

known_fits : (known : Known) → (known.version ≡ 1) ⊎ (known.version ≡ 2) → IsHead (head_of known) → (known.latched ≡ true → known.version ≡ 2) → KnownFits known
known_fits known version is latched = record {
  version = version;
  cores = (is.settings.some_core, is.settings.few_cores);
  budget = (is.settings.some_step, is.settings.few_steps);
  ram = (is.settings.some_ram, is.settings.little_ram);
  latched = latched;
  digests = (is.image, is.input);
}

is_head : (known : Known) → KnownFits known → IsHead (head_of known)
is_head known fits = record {
  settings = record {
    some_core = fits.cores.0;
    few_cores = fits.cores.1;
    some_step = fits.budget.0;
    few_steps = fits.budget.1;
    some_ram = fits.ram.0;
    little_ram = fits.ram.1;
  };
  image = fits.digests.0;
  input = fits.digests.1;
}

pub are_limits : (known : Known) → KnownFits known → AreLimits (limits_of known)
are_limits known fits = record {
  cores = fits.cores;
  turns = (omega (arith, mul-le-mul fits.cores.0 fits.budget.0), omega (arith, mul-le-mul fits.cores.1 fits.budget.1));
  block = omega arith;
}

level : (known : Known) → KnownFits known → known.version ≡ 1 → known.latched ≡ false
level known fits one = go known.latched fits.latched
  where
    go : (latched : Bool) → (latched ≡ true → known.version ≡ 2) → latched ≡ false
    go false says = refl
    go true says = let no_two : known.version ≡ 2 = says refl in absurd (omega arith)

pub says1 : (bytes : List ℕ) (head : Head) (turns : List ℕ) → IsRecording1 bytes head turns → IsHeadText (known_of 1 head) (block_text turns) bytes
unfolding rec_text1
says1 bytes head turns is = record {
  text = is.text ∙ text1 (known_of 1 head) (block_text turns) refl;
  fits = known_fits (known_of 1 head) (inl refl) is.is_head (λ e. let none : true ≡ false = sym e ∙ is.level in cc);
}

pub says2 : (bytes : List ℕ) (head : Head) (turns : List ℕ) (marks : List Mark) → IsRecording2 bytes head turns marks
    → IsHeadText (known_of 2 head) (blocks_text 65536 marks turns) bytes
unfolding rec_text2
says2 bytes head turns marks is = record {
  text = is.text ∙ text2 (known_of 2 head) (blocks_text 65536 marks turns) refl;
  fits = known_fits (known_of 2 head) (inr refl) is.is_head (λ e. refl);
}

pub recorded1 : (known : Known) (bytes turns : List ℕ) → known.version ≡ 1 → IsHeadText known (block_text turns) bytes → IsSchedule (head_of known).config turns
    → IsRecording1 bytes (head_of known) turns
unfolding rec_text1
recorded1 known bytes turns one is schedule = record {
  text = is.text ∙ sym (text1 known (block_text turns) one);
  is_head = is_head known is.fits;
  level = level known is.fits one;
  schedule = schedule;
}

pub recorded2 : (known : Known) (bytes turns : List ℕ) (marks : List Mark) → known.version ≡ 2 → IsHeadText known (blocks_text 65536 marks turns) bytes
    → IsSchedule (head_of known).config turns → AreMarks turns marks → IsRecording2 bytes (head_of known) turns marks
unfolding rec_text2
recorded2 known bytes turns marks two is schedule are = record {
  text = is.text ∙ sym (text2 known (blocks_text 65536 marks turns) two);
  is_head = is_head known is.fits;
  schedule = schedule;
  are_marks = are;
}

-- a recording of one turn
one_turn : (known : Known) → KnownFits known → IsSchedule (head_of known).config (0 ∷ [])
one_turn known fits = record {
  some_turn = omega arith;
  few_turns = omega (arith, mul-le-mul fits.cores.0 fits.budget.0);
  cores = All-replicate (λ turn. turn < known.cores) 1 0 (omega (arith, fits.cores.0));
}

pub some_recording : (known : Known) (bytes : List ℕ) → IsHeadText known (block_text (0 ∷ [])) bytes → IsRecording bytes (head_of known) (0 ∷ []) []
some_recording known bytes is = go is.fits.version
  where
    go : (known.version ≡ 1) ⊎ (known.version ≡ 2) → IsRecording bytes (head_of known) (0 ∷ []) []
    go (inl one) = inl (recorded1 known bytes (0 ∷ []) one is (one_turn known is.fits), refl)
    go (inr two) = inr (recorded2 known bytes (0 ∷ []) [] two is (one_turn known is.fits) (record { whole_blocks = refl; numbers = tt }))

not_empty : (turns : List ℕ) → 1 ≤ length turns → turns ≢ []
not_empty turns some none = omega (arith, ap length none)

pub first1 : (known : Known) → known.version ≡ 1 → first_of known ≡ First (record { left = known.cores * known.budget; behind = None })
first1 known one = ap (λ v. First (first_block_of v (known.cores * known.budget))) one

pub first2 : (known : Known) → known.version ≡ 2
    → first_of known ≡ First (record { left = min (limits_of known).turns (limits_of known).block; behind = behind_of (limits_of known) (limits_of known).turns })
first2 known two = ap (λ v. First (first_block_of v (known.cores * known.budget))) two

-- what stands behind the head, where the head is known
pub record Behind1 (known : Known) (front text : List ℕ) (head : Head) (turns : List ℕ) : Type 0 where
  pub head_is : head ≡ head_of known
  pub long : length front ≡ length (head_text1 head)
  pub completes : Completes (limits_of known) (first_of known) text (map run_item (runs turns))
  pub turns_are : turns_of (map run_item (runs turns)) ≡ turns
  pub marks_are : marks_of (map run_item (runs turns)) ≡ []

pub record Behind2 (known : Known) (front text : List ℕ) (head : Head) (turns : List ℕ) (marks : List Mark) : Type 0 where
  pub head_is : head ≡ head_of known
  pub long : length front ≡ length (head_text2 head)
  pub completes : Completes (limits_of known) (first_of known) text (blocks_items 65536 marks turns)
  pub turns_are : turns_of (blocks_items 65536 marks turns) ≡ turns
  pub marks_are : marks_of (blocks_items 65536 marks turns) ≡ marks

front_long : (front text head_text body : List ℕ) → front ++ text ≡ head_text ++ body → text ≡ body → length front ≡ length head_text
front_long front text head_text body whole same = omega (arith, ap length whole, ap length same, length-append front text, length-append head_text body)

turns_of_all : (all : List (ℕ × ℕ)) → turns_of (map run_item all) ≡ expand all
turns_of_all all = ap turns_of (sym (append-nil (map run_item all))) ∙ turns_of_runs all [] ∙ append-nil (expand all)

marks_of_all : (all : List (ℕ × ℕ)) → marks_of (map run_item all) ≡ []
marks_of_all all = ap marks_of (sym (append-nil (map run_item all))) ∙ marks_of_runs all []

pub behind1 : (known : Known) (front text : List ℕ) (head : Head) (turns : List ℕ) → HeadRead front known Behind → IsRecording1 (front ++ text) head turns → Behind1 known front text head turns
unfolding rec_text1
behind1 known front text head turns read is =
    let k : (known_of 1 head ≡ known) × (text ≡ block_text turns) = read.keeps (known_of 1 head) (block_text turns) text (says1 (front ++ text) head turns is) in
    let head_is : head ≡ head_of known = ap head_of k.0 in
    let config : head.config ≡ (head_of known).config = ap (λ h. h.config) head_is in
    let schedule : IsSchedule (head_of known).config turns = subst (λ c. IsSchedule c turns) config is.schedule in
    let body : IsBody1 known.cores (known.cores * known.budget) text turns =
    record { text = k.1; some = not_empty turns schedule.some_turn; few = schedule.few_turns; are = schedule.cores } in
    record {
      head_is = head_is;
      long = front_long front text (head_text1 head) (block_text turns) is.text k.1;
      completes = subst (λ p. Completes (limits_of known) p text (map run_item (runs turns))) (sym (first1 known (sym (ap (λ v. v.version) k.0))))
          (subst (λ d. Completes (limits_of known) (First (record { left = known.cores * known.budget; behind = None })) text d) (append-nil (map run_item (runs turns)))
          (body1_to (limits_of known) (known.cores * known.budget) text turns body));
      turns_are = turns_of_all (runs turns) ∙ expand_runs turns;
      marks_are = marks_of_all (runs turns);
    }

pub behind2 : (known : Known) (front text : List ℕ) (head : Head) (turns : List ℕ) (marks : List Mark) → HeadRead front known Behind → IsRecording2 (front ++ text) head turns marks
    → Behind2 known front text head turns marks
unfolding rec_text2
behind2 known front text head turns marks read is =
    let says : IsHeadText (known_of 2 head) (blocks_text 65536 marks turns) (front ++ text) = says2 (front ++ text) head turns marks is in
    let k : (known_of 2 head ≡ known) × (text ≡ blocks_text 65536 marks turns) = read.keeps (known_of 2 head) (blocks_text 65536 marks turns) text says in
    let head_is : head ≡ head_of known = ap head_of k.0 in
    let config : head.config ≡ (head_of known).config = ap (λ h. h.config) head_is in
    let schedule : IsSchedule (head_of known).config turns = subst (λ c. IsSchedule c turns) config is.schedule in
    let fits : KnownFits known = subst KnownFits k.0 says.fits in
    let body : IsBody2 (limits_of known).cores (limits_of known).turns (limits_of known).block text turns marks =
    record {
      text = k.1;
      some = not_empty turns schedule.some_turn;
      few = schedule.few_turns;
      are = schedule.cores;
      whole = omega (arith, is.are_marks.whole_blocks);
      part = omega (arith, is.are_marks.whole_blocks);
      numbers = is.are_marks.numbers;
    } in
    let d : (decoded : List Item) × Completes (limits_of known) (First (record { left = min (limits_of known).turns (limits_of known).block; behind = behind_of (limits_of known) (limits_of known).turns })) text decoded
    × (turns_of decoded ≡ turns) × (marks_of decoded ≡ marks) × (decoded ≡ blocks_items 65536 marks turns) =
    body2_to (limits_of known) text turns marks (are_limits known fits) body in
    record {
      head_is = head_is;
      long = front_long front text (head_text2 head) (blocks_text 65536 marks turns) is.text k.1;
      completes = subst (λ p. Completes (limits_of known) p text (blocks_items 65536 marks turns)) (sym (first2 known (sym (ap (λ v. v.version) k.0))))
          (subst (λ i. Completes (limits_of known) (First (record { left = min (limits_of known).turns (limits_of known).block; behind = behind_of (limits_of known) (limits_of known).turns })) text i) d.4 d.1);
      turns_are = sym (ap turns_of d.4) ∙ d.2;
      marks_are = sym (ap marks_of d.4) ∙ d.3;
    }

-- the head's bytes and a text
pub head_text_of : (known : Known) (front text : List ℕ) → HeadRead front known Behind → IsHeadText known text (front ++ text)
head_text_of known front text read = read.back known text text (refl, refl)

schedule_of : (known : Known) (turns : List ℕ) → turns ≢ [] → length turns ≤ known.cores * known.budget → All (λ turn. turn < known.cores) turns → IsSchedule (head_of known).config turns
schedule_of known turns some few are = record { some_turn = at_least turns some; few_turns = few; cores = are }
  where
    at_least : (turns : List ℕ) → turns ≢ [] → 1 ≤ length turns
    at_least [] some = absurd (some refl)
    at_least (turn ∷ turns) some = omega arith

-- and what is read of both is a recording
pub recording_of : (known : Known) (front text : List ℕ) (decoded : List Item) → HeadRead front known Behind → Completes (limits_of known) (first_of known) text decoded
    → IsRecording (front ++ text) (head_of known) (turns_of decoded) (marks_of decoded)
recording_of known front text decoded read completes = go (head_text_of known front text read).fits.version
  where
    fits : KnownFits known
    fits = (head_text_of known front text read).fits

    no_marks : Completes (limits_of known) (First (record { left = known.cores * known.budget; behind = None })) text decoded → marks_of decoded ≡ []
    no_marks t =
        ap marks_of t.parts ∙ marks_of_runs t.all (later_items t.later)
        ∙ ap (λ l. marks_of (later_items l)) (letter_back (BehindBlock (limits_of known) None) (limits_of known).cores (limits_of known).cores 15 (known.cores * known.budget) text t.all t.later t.holds).behind.1

    go : (known.version ≡ 1) ⊎ (known.version ≡ 2) → IsRecording (front ++ text) (head_of known) (turns_of decoded) (marks_of decoded)
    go (inl one) =
        let c : Completes (limits_of known) (First (record { left = known.cores * known.budget; behind = None })) text decoded =
        subst (λ p. Completes (limits_of known) p text decoded) (first1 known one) completes in
        let b : IsBody1 known.cores (known.cores * known.budget) text (turns_of decoded) = body1_from (limits_of known) (known.cores * known.budget) text decoded c in
        inl (
          recorded1 known (front ++ text) (turns_of decoded) one
              (subst (λ t. IsHeadText known t (front ++ text)) b.text (head_text_of known front text read)) (schedule_of known (turns_of decoded) b.some b.few b.are),
          no_marks c,
        )
    go (inr two) =
        let c : Completes (limits_of known) (First (record { left = min (limits_of known).turns (limits_of known).block; behind = behind_of (limits_of known) (limits_of known).turns })) text decoded =
        subst (λ p. Completes (limits_of known) p text decoded) (first2 known two) completes in
        let b : IsBody2 (limits_of known).cores (limits_of known).turns (limits_of known).block text (turns_of decoded) (marks_of decoded) =
        body2_from (limits_of known) text decoded (are_limits known fits) c in
        inr (recorded2 known (front ++ text) (turns_of decoded) (marks_of decoded) two
        (subst (λ t. IsHeadText known t (front ++ text)) b.text (head_text_of known front text read)) (schedule_of known (turns_of decoded) b.some b.few b.are)
        (record { whole_blocks = omega (arith, b.whole, b.part); numbers = b.numbers }))
