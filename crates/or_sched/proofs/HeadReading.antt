-- What the bytes of a head tell.
use Rattle.std.proofs.Common.{◌≡◌, sym, ap, subst, ℕ, List, ◌++◌, ◌∷◌, [], ◌+◌, ◌-◌, ◌^◌, ◌≤◌, ◌<◌, append_assoc, arith, refl, length, length-append, length-take, inl, inr, ◌⊎◌, decimal, zero-add, Bool, true, false, cond, Option, None, take}
use Rattle.std.specs.Prelude.{codes, ◌==◌, map}
use Rattle.std.proofs.lemmas.List.{take_at, take_all}
use Rattle.std.proofs.lemmas.List.Sums.{sum_by-append}
use Rattle.or_sched.specs.declared.recording.Head.{Head}
use Rattle.or_sched.specs.declared.recording.Mark.{Mark}
use Rattle.or_sched.specs.declared.head.Known.{Known}
use Rattle.or_sched.specs.declared.head.Literal.{Literal}
use Rattle.or_sched.specs.declared.head.Literal.TheVariants.{Orsched, Cores, Budget, Ram, Latched, Image, Input}
use Rattle.or_sched.specs.declared.head.Field.TheVariants.{Cores as CoresField, Budget as BudgetField, Ram as RamField}
use Rattle.or_sched.specs.declared.head.TopLine.TheVariants.{First, Second}
use Rattle.or_sched.specs.declared.head.DigestLine.TheVariants.{Image as ImageLine, Input as InputLine}
use Rattle.or_sched.specs.declared.head.HeadPlace.{HeadPlace}
use Rattle.or_sched.specs.declared.head.HeadPlace.TheVariants.{Text, Version, LineEnd, Number, Digits, Behind}
use Rattle.or_sched.specs.HeadText.{head_text1, head_text2, form_text}
use Rattle.or_text.specs.Hexadecimal.{digest_text}
use Rattle.or_sched.specs.HeadPlaces.{InText, InField, InDigest, literal_bytes, AtRam, AtBudget, AtCores, AtFirst, AtSecond, AtVersion, AtImage, AtInput, HeadCompletes, HeadStepKeeps, HeadSound, AreDigests, FollowsLiteral, line_of, feed}
use Rattle.or_sched.specs.HeadLines.{input_text, image_text, ram_text, budget_text, cores_text, known_text, KnownFits, IsHeadText}
use Rattle.or_sched.specs.RecText.{rec_text1, rec_text2}
use Rattle.or_sched.specs.Runs.{runs, block_text}
use Rattle.or_sched.specs.Blocks.{Item, run_item, blocks_items, blocks_text, turns_of, marks_of}
use Rattle.or_sched.specs.Ended.{ended_in}
use Rattle.or_sched.specs.Recording.{IsRecording, Begins, FaultAt, Ended, AreEnded, line_feeds}
use Rattle.or_sched.specs.Reading.{HeadRead, head_of}
use Rattle.or_sched.proofs.HeadTexts.{head_from, head_to}
use Rattle.or_sched.proofs.HeadWitness.{Completed, head_completes}
use Rattle.or_sched.proofs.EndedLemmas.{run_open, mark_open}
use Rattle.or_sched.proofs.Lengths.{decimal_length}
use Rattle.or_sched.proofs.Digests.{digest_length}
use Rattle.or_sched.proofs.Wholes.{known_of, says1, says2, some_recording}

pub line_feeds_append : (a b : List ℕ) → line_feeds (a ++ b) ≡ line_feeds a + line_feeds b
line_feeds_append a b = sum_by-append (λ byte. cond (byte == 10) 1 0) a b

one_feed : (byte : ℕ) → line_feeds (byte ∷ []) ≡ feed byte
one_feed byte = zero-add (feed byte)

pub head_read_none : (known : Known) → AreDigests known → HeadRead [] known (Text Orsched 0)
head_read_none known are = record {
  keeps = λ final end rest t. head_to final known end rest t;
  back = λ final end rest c. head_from final known end rest c;
  lines = refl;
  digests = are;
}

pub head_read_moves : (bytes : List ℕ) (known known_next : Known) (place next : HeadPlace) (byte : ℕ) → HeadRead bytes known place
    → HeadStepKeeps known place byte known_next next → AreDigests known_next → line_of next ≡ line_of place + feed byte → HeadRead (bytes ++ byte ∷ []) known_next next
head_read_moves bytes known known_next place next byte read step are lines = record {
  keeps = λ final end rest t. step.keeps final end rest (read.keeps final end (byte ∷ rest) (subst (IsHeadText final end) (append_assoc bytes (byte ∷ []) rest) t));
  back = λ final end rest c. subst (IsHeadText final end) (sym (append_assoc bytes (byte ∷ []) rest)) (read.back final end (byte ∷ rest) (step.back final end rest c));
  lines = omega (arith, lines, read.lines, line_feeds_append bytes (byte ∷ []), one_feed byte);
  digests = are;
}

-- some recording begins so
pub head_begins : (bytes : List ℕ) (known : Known) (place : HeadPlace) → HeadRead bytes known place → HeadSound place → Begins bytes
head_begins bytes known place read sound =
    let w : Completed (λ final end rest. HeadCompletes final end known place rest) = head_completes known place read.digests sound in
    let end : List ℕ = block_text (0 ∷ []) in
    record {
      rest = w.rest (block_text (0 ∷ []));
      head = head_of w.final;
      turns = 0 ∷ [];
      marks = [];
      is = some_recording w.final (bytes ++ w.rest (block_text (0 ∷ []))) (read.back w.final (block_text (0 ∷ [])) (w.rest (block_text (0 ∷ []))) (w.holds (block_text (0 ∷ []))));
    }

-- a recording has a head
pub record HasHead (bytes : List ℕ) : Type 0 where
  pub final : Known
  pub end : List ℕ
  pub is : IsHeadText final end bytes

pub has_head : (bytes : List ℕ) (head : Head) (turns : List ℕ) (marks : List Mark) → IsRecording bytes head turns marks → HasHead bytes
has_head bytes head turns marks (inl is) = record { final = known_of 1 head; end = block_text turns; is = says1 bytes head turns is.0 }
has_head bytes head turns marks (inr is) = record { final = known_of 2 head; end = blocks_text 65536 marks turns; is = says2 bytes head turns marks is }

-- where no text goes on, the bytes have a fault
pub head_fault : (bytes : List ℕ) (known : Known) (place : HeadPlace) (byte : ℕ) → HeadRead bytes known place → HeadSound place
    → ((final : Known) (end rest : List ℕ) → HeadCompletes final end known place (byte ∷ rest) → ⊥) → FaultAt (bytes ++ byte ∷ []) (length bytes)
head_fault bytes known place byte read sound refused = record {
  within = omega (arith, length-append bytes (byte ∷ []));
  before = subst Begins (sym (take_at bytes (byte ∷ []) (length bytes) refl)) (head_begins bytes known place read sound);
  here = λ b. here (subst Begins (take_all (length bytes + 1) (bytes ++ byte ∷ []) (omega (arith, length-append bytes (byte ∷ [])))) b);
}
  where
    here : Begins (bytes ++ byte ∷ []) → ⊥
    here b =
        let h : HasHead ((bytes ++ byte ∷ []) ++ b.rest) = has_head ((bytes ++ byte ∷ []) ++ b.rest) b.head b.turns b.marks b.is in
        refused h.final h.end b.rest (read.keeps h.final h.end (byte ∷ b.rest) (subst (IsHeadText h.final h.end) (append_assoc bytes (byte ∷ []) b.rest) h.is))

-- what stands behind the head is never longer than what completes a place in it
within_text : (C : List ℕ → Type 0) (text : List ℕ) (seen : ℕ) (rest : List ℕ) (t : InText C text seen rest) → length t.more ≤ length rest
within_text C text seen rest t =
    omega (arith, ap length t.whole, length-append (take seen text) rest, length-append text t.more, length-take seen text)

within_field : (number : Option ℕ) (end least most : ℕ) (C : ℕ → List ℕ → Type 0) (rest : List ℕ) (f : InField number end least most C rest) → length f.more ≤ length rest
within_field number end least most C rest f = omega (arith, ap length f.digits.text, length-append f.digits.tail (end ∷ f.more))

within_digest : (C : List ℕ → List ℕ → Type 0) (front rest : List ℕ) (d : InDigest C front rest) → length d.more ≤ length rest
within_digest C front rest d = omega (arith, ap length d.text, length-append d.tail (10 ∷ d.more))

module _ (final : Known) (end : List ℕ) where
  within_input : (known : Known) (front rest : List ℕ) → AtInput final end known front rest → length end ≤ length rest
  within_input known front rest d = omega (arith, within_digest _ front rest d, ap length d.follows.1)

  within_image : (known : Known) (front rest : List ℕ) → AtImage final end known front rest → length end ≤ length rest
  within_image known front rest d =
      omega (arith, within_digest _ front rest d, within_text _ (literal_bytes Input) 0 d.more d.follows, within_input (record known { image = d.bytes }) [] d.follows.more d.follows.follows)

  within_image_text : (known : Known) (seen : ℕ) (rest : List ℕ) → InText (AtImage final end known []) (literal_bytes Image) seen rest → length end ≤ length rest
  within_image_text known seen rest t = omega (arith, within_text _ (literal_bytes Image) seen rest t, within_image known [] t.more t.follows)

  within_second : (known : Known) (rest : List ℕ) → AtSecond final end known rest → length end ≤ length rest
  within_second known rest s = omega (arith, ap length s.1, within_image_text known 0 s.0 s.2)

  within_ram : (known : Known) (number : Option ℕ) (rest : List ℕ) → AtRam final end known number rest → length end ≤ length rest
  within_ram known number rest (inl f) =
      omega (arith, within_field number 10 1 256 _ rest f, within_image_text (record known { ram = f.value; latched = false }) 0 f.more f.follows)
  within_ram known number rest (inr r) =
      omega (
        arith,
        within_field number 32 1 256 _ rest r.1,
        within_text _ (literal_bytes Latched) 0 r.1.more r.1.follows,
        within_second (record known { ram = r.1.value; latched = true }) r.1.follows.more r.1.follows.follows,
      )

  within_budget : (known : Known) (number : Option ℕ) (rest : List ℕ) → AtBudget final end known number rest → length end ≤ length rest
  within_budget known number rest f =
      omega (
        arith,
        within_field number 32 1 67108864 _ rest f,
        within_text _ (literal_bytes Ram) 0 f.more f.follows,
        within_ram (record known { budget = f.value }) None f.follows.more f.follows.follows,
      )

  within_cores : (known : Known) (number : Option ℕ) (rest : List ℕ) → AtCores final end known number rest → length end ≤ length rest
  within_cores known number rest f =
      omega (
        arith,
        within_field number 32 1 8 _ rest f,
        within_text _ (literal_bytes Budget) 0 f.more f.follows,
        within_budget (record known { cores = f.value }) None f.follows.more f.follows.follows,
      )

  within_first : (known : Known) (rest : List ℕ) → AtFirst final end known rest → length end ≤ length rest
  within_first known rest f =
      omega (arith, ap length f.1, within_text _ (literal_bytes Cores) 0 f.0 f.2, within_cores known None f.2.more f.2.follows)

  within_version : (known : Known) (rest : List ℕ) → AtVersion final end known rest → length end ≤ length rest
  within_version known rest v = omega (arith, ap length v.2, within_first (record known { version = v.0 }) v.1 v.4)

  within_literal : (literal : Literal) (known : Known) (rest : List ℕ) → FollowsLiteral final end literal known rest → length end ≤ length rest
  within_literal Orsched known rest c = within_version known rest c
  within_literal Cores known rest c = within_cores known None rest c
  within_literal Budget known rest c = within_budget known None rest c
  within_literal Ram known rest c = within_ram known None rest c
  within_literal Latched known rest c = within_second known rest c
  within_literal Image known rest c = within_image known [] rest c
  within_literal Input known rest c = within_input known [] rest c

  pub within_place : (known : Known) (place : HeadPlace) (rest : List ℕ) → HeadCompletes final end known place rest → length end ≤ length rest
  within_place known (Text literal seen) rest c =
      omega (arith, within_text _ (literal_bytes literal) seen rest c, within_literal literal known c.more c.follows)
  within_place known Version rest c = within_version known rest c
  within_place known (LineEnd First) rest c = within_first known rest c
  within_place known (LineEnd Second) rest c = within_second known rest c
  within_place known (Number CoresField number) rest c = within_cores known number rest c
  within_place known (Number BudgetField number) rest c = within_budget known number rest c
  within_place known (Number RamField number) rest c = within_ram known number rest c
  within_place known (Digits ImageLine count high) rest c = within_image known _ rest c
  within_place known (Digits InputLine count high) rest c = within_input known _ rest c
  within_place known Behind rest c = omega (arith, ap length c.1)

-- no run ends before its first byte
none_ended : (items : List Item) → ended_in 16 0 items ≡ []
none_ended [] = refl
none_ended (inl run ∷ others) = run_open 16 0 run others (omega arith)
none_ended (inr mark ∷ others) = mark_open 16 0 mark others (omega arith)

not_behind : (bytes rest head_text body : List ℕ) → bytes ++ rest ≡ head_text ++ body → length body ≤ length rest → length bytes - length head_text ≡ 0
not_behind bytes rest head_text body whole long = omega (arith, ap length whole, length-append bytes rest, length-append head_text body)

none_are : (n : ℕ) (items : List Item) → n ≡ 0 → AreEnded n items [] []
none_are n items none = subst (λ k. AreEnded k items [] []) (sym none) (record {
  turns_are = sym (ap turns_of (none_ended items));
  marks_are = sym (ap marks_of (none_ended items));
})

-- in the head nothing has ended
pub head_ended : (bytes : List ℕ) (known : Known) (place : HeadPlace) → HeadRead bytes known place → Ended bytes [] []
unfolding rec_text1 rec_text2
head_ended bytes known place read = record {
  version1 = λ rest head all is. none_are (length bytes - length (head_text1 head)) (map run_item (runs all))
      (not_behind bytes rest (head_text1 head) (block_text all) is.text
      (within_place (known_of 1 head) (block_text all) known place rest (read.keeps (known_of 1 head) (block_text all) rest (says1 (bytes ++ rest) head all is))));
  version2 = λ rest head all marks is. none_are (length bytes - length (head_text2 head)) (blocks_items 65536 marks all)
      (not_behind bytes rest (head_text2 head) (blocks_text 65536 marks all) is.text
      (within_place (known_of 2 head) (blocks_text 65536 marks all) known place rest (read.keeps (known_of 2 head) (blocks_text 65536 marks all) rest (says2 (bytes ++ rest) head all marks is))));
}

line_low : (place : HeadPlace) → (place ≡ Behind → ⊥) → line_of place ≤ 4
line_low (Text Orsched seen) more = omega arith
line_low (Text Cores seen) more = omega arith
line_low (Text Budget seen) more = omega arith
line_low (Text Ram seen) more = omega arith
line_low (Text Latched seen) more = omega arith
line_low (Text Image seen) more = omega arith
line_low (Text Input seen) more = omega arith
line_low Version more = omega arith
line_low (LineEnd First) more = omega arith
line_low (LineEnd Second) more = omega arith
line_low (Number field number) more = omega arith
line_low (Digits ImageLine count high) more = omega arith
line_low (Digits InputLine count high) more = omega arith
line_low Behind more = absurd (more refl)

pub few_lines : (bytes : List ℕ) (known : Known) (place : HeadPlace) → HeadRead bytes known place → (place ≡ Behind → ⊥) → line_feeds bytes < 4
few_lines bytes known place read more = omega (arith, read.lines, line_low place more)

-- a head has fewer than 1024 bytes
known_length : (known : Known) → KnownFits known → length (known_text known []) < 1024
known_length known fits =
    omega (
      arith,
      digest_length known.input,
      fits.digests.1.long,
      length-append (digest_text known.input) (10 ∷ []),
      digest_length known.image,
      fits.digests.0.long,
      length-append (digest_text known.image) (10 ∷ input_text known []),
      form_length known.latched,
      length-append (form_text known.latched) (10 ∷ image_text known []),
      decimal_length known.ram (omega (arith, fits.ram)),
      length-append (decimal known.ram) (form_text known.latched ++ 10 ∷ image_text known []),
      decimal_length known.budget (omega (arith, fits.budget)),
      length-append (decimal known.budget) (codes " ram " ++ ram_text known.latched known []),
      decimal_length known.cores (omega (arith, fits.cores)),
      length-append (decimal known.cores) (codes " budget " ++ budget_text known []),
      decimal_length known.version (version_small fits.version),
      length-append (decimal known.version) (10 ∷ (codes "cores " ++ cores_text known [])),
    )
  where
    form_length : (latched : Bool) → length (form_text latched) ≤ 12
    form_length true = omega arith
    form_length false = omega arith

    version_small : (known.version ≡ 1) ⊎ (known.version ≡ 2) → known.version < 2 ^ 32
    version_small (inl e) = omega arith
    version_small (inr e) = omega arith

pub head_short : (bytes : List ℕ) (known : Known) (place : HeadPlace) → HeadRead bytes known place → HeadSound place → length bytes < 1024
head_short bytes known place read sound =
    let w : Completed (λ final end rest. HeadCompletes final end known place rest) = head_completes known place read.digests sound in
    let t : IsHeadText w.final [] (bytes ++ w.rest []) = read.back w.final [] (w.rest []) (w.holds []) in
    omega (arith, known_length w.final t.fits, ap length t.text, length-append bytes (w.rest []))
