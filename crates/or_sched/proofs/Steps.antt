-- A byte at each place in the run lines: what it makes of the texts that complete the place.
use Rattle.std.proofs.Common.{◌≡◌, ◌≢◌, ◌∙◌, sym, ap, subst, ℕ, zero, suc, List, ◌++◌, ◌∷◌, [], ◌+◌, ◌-◌, ◌*◌, ◌^◌, ◌≤◌, ◌<◌, max, decimal, append_assoc, arith, refl, length, get_or, length-append, append-nil, inl, inr}
use Rattle.std.proofs.lemmas.Fmt.{first_decimal, decimal_nonempty, decimal_injective}
use Rattle.or_sched.specs.Runs.{count_text, lines_text}
use Rattle.or_sched.specs.RunRests.{number_text, Follow, left_after, InRun, Opens, AtLine, AtEnd}
use Rattle.or_sched.proofs.RunPlaces.{AtRun}
use Rattle.or_sched.proofs.Numbers.{front_le, front_more, behind_digit, number_digit}

pub count_many : (n : ℕ) → n ≢ 1 → count_text n ≡ decimal n
count_many n many = grind arith

pub number_some : (n : ℕ) → 0 < n → number_text n ≡ decimal n
number_some zero some = absurd (omega arith)
number_some (suc n) some = refl

-- a byte that is no letter and no line feed stands in front of the lines
record InDigits (b : ℕ) (rest tail lines : List ℕ) : Type 0 where
  pub more : List ℕ
  pub is_tail : tail ≡ b ∷ more
  pub is_rest : rest ≡ more ++ lines

in_digits : (b room : ℕ) (rest tail after : List ℕ) (others : List (ℕ × ℕ)) → b < 97 → b ≢ 10
    → b ∷ rest ≡ tail ++ (lines_text room others ++ after) → InDigits b rest tail (lines_text room others ++ after)
in_digits b room rest [] after [] low no_feed e = let same : b ≡ 10 = cc in absurd (no_feed same)
in_digits b zero rest [] after (run ∷ others) low no_feed e = let same : b ≡ 10 = cc in absurd (no_feed same)
in_digits b (suc room) rest [] after (run ∷ others) low no_feed e = let same : b ≡ 97 + run.0 = cc in absurd (omega arith)
in_digits b room rest (x ∷ tail) after others low no_feed e = record { more = tail; is_tail = cc; is_rest = cc }

-- digits of a number with a byte behind them, or of a number that isn't 0, are those of a count of 2 or more
count_is_many : (number count : ℕ) (tail : List ℕ) → 0 < length (number_text number ++ tail) → number_text number ++ tail ≡ count_text count → count ≢ 1
count_is_many number count tail long e one =
    let short : count_text count ≡ [] = ap count_text one in
    absurd (omega (arith, ap length e, ap length short))

long_number : (number : ℕ) (tail : List ℕ) → 0 < number → number < 2 ^ 64 → 0 < length (number_text number ++ tail)
long_number zero tail some small = absurd (omega arith)
long_number (suc number) tail some small = omega (arith, length-append (decimal (suc number)) tail, decimal_nonempty (suc number) small)

-- a number's digits begin a count of at least that number, and a lone 1 one of at least 10
begun_count : (number count : ℕ) (tail : List ℕ) → 0 < number → number < 2 ^ 64 → count < 2 ^ 64 → number_text number ++ tail ≡ count_text count
    → (number ≤ count) × (number ≡ 1 → 10 ≤ count)
begun_count number count tail some small large e =
    let many : count ≢ 1 = count_is_many number count tail (long_number number tail some small) e in
    let as_decimal : decimal number ++ tail ≡ decimal count = ap (λ ds. ds ++ tail) (sym (number_some number some)) ∙ e ∙ count_many count many in
    (front_le number count tail small large as_decimal, λ one. lone number count tail one many large as_decimal)
  where
    lone : (number count : ℕ) (tail : List ℕ) → number ≡ 1 → count ≢ 1 → count < 2 ^ 64 → decimal number ++ tail ≡ decimal count → 10 ≤ count
    lone number count [] one many large e =
        let same : number ≡ count = decimal_injective number count (omega arith) large (sym (append-nil (decimal number)) ∙ e) in
        absurd (many (sym same ∙ one))
    lone number count (x ∷ tail) one many large e = omega (arith, front_more number count x tail (omega arith) large e)

-- a digit that makes 0 begins no count
digit_some : (number d next count : ℕ) (more : List ℕ) → next ≡ 10 * number + d → 1 ≤ count → count < 2 ^ 64
    → number_text number ++ (48 + d) ∷ more ≡ count_text count → 0 < next
digit_some (suc number) d next count more is_next some large e = omega arith
digit_some zero (suc d) next count more is_next some large e = omega arith
digit_some zero zero next count more is_next some large e =
    let many : count ≢ 1 = count_is_many 0 count (48 ∷ more) (omega arith) e in
    let as_decimal : 48 ∷ more ≡ decimal count = e ∙ count_many count many in
    absurd (omega (arith, first_decimal count some large, ap (λ ds. get_or ds 0 0) as_decimal))

-- at a byte that is no digit the run is at its end
record RunEnds (number count b : ℕ) (rest lines : List ℕ) : Type 0 where
  pub whole : number ≢ 1
  pub is_count : count ≡ max 1 number
  pub text : b ∷ rest ≡ lines

run_ends : (number count b : ℕ) (rest tail lines : List ℕ) → (48 ≤ b → b ≤ 57 → ⊥) → 1 ≤ count → count < 2 ^ 64 → number < 2 ^ 64
    → number_text number ++ tail ≡ count_text count → b ∷ rest ≡ tail ++ lines → RunEnds number count b rest lines
run_ends number count b rest (x ∷ tail) lines no_digit some large small e text =
    let many : count ≢ 1 = count_is_many number count (x ∷ tail) (omega (arith, length-append (number_text number) (x ∷ tail))) e in
    let digit : (48 ≤ x) × (x ≤ 57) = behind_digit (number_text number) count x tail large (e ∙ count_many count many) in
    let same : b ≡ x = cc in
    absurd (no_digit (omega (arith, digit.0)) (omega (arith, digit.1)))
run_ends zero zero b rest [] lines no_digit some large small e text = absurd (omega arith)
run_ends zero (suc zero) b rest [] lines no_digit some large small e text = record { whole = λ one. omega arith; is_count = refl; text = text }
run_ends zero (suc (suc count)) b rest [] lines no_digit some large small e text =
    let many : suc (suc count) ≢ 1 = λ one. omega arith in
    absurd (omega (arith, ap length (e ∙ count_many (suc (suc count)) many), decimal_nonempty (suc (suc count)) large))
run_ends (suc number) count b rest [] lines no_digit some large small e text =
    let many : count ≢ 1 = count_is_many (suc number) count [] (long_number (suc number) [] (omega arith) small) e in
    let same : suc number ≡ count = decimal_injective (suc number) count small large (sym (append-nil (decimal (suc number))) ∙ e ∙ count_many count many) in
    record { whole = λ one. many (sym same ∙ one); is_count = omega arith; text = text }

-- a number that is no lone 1 is the text of its count
whole_text : (number : ℕ) → number ≢ 1 → number_text number ≡ count_text (max 1 number)
whole_text zero whole = refl
whole_text (suc zero) whole = absurd (whole refl)
whole_text (suc (suc number)) whole =
    let same : max 1 (suc (suc number)) ≡ suc (suc number) = omega arith in
    sym (ap count_text same ∙ count_many (suc (suc number)) whole)

module _ {R : Type 0} (After : ℕ → List ℕ → R → Type 0) (cores : ℕ) where
  -- a digit leaves the run open, with a greater number
  pub digit_on : (core number room left d next : ℕ) (rest : List ℕ) (all : List (ℕ × ℕ)) (later : R)
      → d < 10 → next ≡ 10 * number + d → next < 2 ^ 64 → left < 2 ^ 64
      → InRun After cores core number room left ((48 + d) ∷ rest) all later
      → (0 < next) × (next ≤ left) × (next ≡ 1 → 10 ≤ left) × InRun After cores core next room left rest all later
  digit_on core number room left d next rest all later digit is_next small_next small r =
      let part : InDigits (48 + d) rest r.tail (lines_text room r.others ++ r.after) =
      in_digits (48 + d) room rest r.tail r.after r.others (omega arith) (λ feed. omega arith) r.text in
      let behind : number_text number ++ (48 + d) ∷ part.more ≡ count_text r.count = ap (λ ds. number_text number ++ ds) (sym part.is_tail) ∙ r.digits in
      let some : 0 < next = digit_some number d next r.count part.more is_next r.some (omega arith) behind in
      let moved : number_text next ++ part.more ≡ count_text r.count =
      ap (λ ds. ds ++ part.more) (sym (number_digit number d next digit is_next some small_next)) ∙ append_assoc (number_text number) ((48 + d) ∷ []) part.more ∙ behind in
      let begun : (next ≤ r.count) × (next ≡ 1 → 10 ≤ r.count) = begun_count next r.count part.more some small_next (omega arith) moved in (
        some,
        omega (arith, begun.0),
        (λ one. omega (arith, begun.1 one)),
        record {
          count = r.count;
          others = r.others;
          tail = part.more;
          after = r.after;
          parts = r.parts;
          digits = moved;
          text = part.is_rest;
          some = r.some;
          fits = r.fits;
          follow = r.follow;
          behind = r.behind;
        },
      )

  pub digit_back : (core number room left d next : ℕ) (rest : List ℕ) (all : List (ℕ × ℕ)) (later : R)
      → d < 10 → next ≡ 10 * number + d → 0 < next → next < 2 ^ 64
      → InRun After cores core next room left rest all later → InRun After cores core number room left ((48 + d) ∷ rest) all later
  digit_back core number room left d next rest all later digit is_next some small_next r = record {
    count = r.count;
    others = r.others;
    tail = (48 + d) ∷ r.tail;
    after = r.after;
    parts = r.parts;
    digits = sym (append_assoc (number_text number) ((48 + d) ∷ []) r.tail) ∙ ap (λ ds. ds ++ r.tail) (number_digit number d next digit is_next some small_next) ∙ r.digits;
    text = ap (λ ds. (48 + d) ∷ ds) r.text;
    some = r.some;
    fits = r.fits;
    follow = r.follow;
    behind = r.behind;
  }

  -- at any other byte the run ends
  pub run_on : (core number room left b : ℕ) (rest : List ℕ) (all : List (ℕ × ℕ)) (later : R)
      → (48 ≤ b → b ≤ 57 → ⊥) → number < 2 ^ 64 → left < 2 ^ 64
      → InRun After cores core number room left (b ∷ rest) all later
      → (number ≢ 1) × (max 1 number ≤ left) × (others : List (ℕ × ℕ)) × (all ≡ (core, max 1 number) ∷ others)
      × AtRun After cores core room (left - max 1 number) (b ∷ rest) others later
  run_on core number room left b rest all later no_digit small small_left r =
      let ends : RunEnds number r.count b rest (lines_text room r.others ++ r.after) =
      run_ends number r.count b rest r.tail (lines_text room r.others ++ r.after) no_digit r.some (omega arith) small r.digits r.text in (
        ends.whole,
        omega (arith, ends.is_count),
        r.others,
        r.parts ∙ ap (λ k. (core, k) ∷ r.others) ends.is_count,
        record {
          after = r.after;
          text = ends.text;
          follow = subst (λ k. Follow cores core (left - k) r.others) ends.is_count r.follow;
          behind = subst (λ k. After (left_after (left - k) r.others) r.after later) ends.is_count r.behind;
        },
      )

  pub run_back : (core number room left : ℕ) (rest : List ℕ) (others : List (ℕ × ℕ)) (later : R)
      → number ≢ 1 → max 1 number ≤ left → AtRun After cores core room (left - max 1 number) rest others later
      → InRun After cores core number room left rest ((core, max 1 number) ∷ others) later
  run_back core number room left rest others later whole fits r = record {
    count = max 1 number;
    others = others;
    tail = [];
    after = r.after;
    parts = refl;
    digits = append-nil (number_text number) ∙ whole_text number whole;
    text = r.text;
    some = omega arith;
    fits = fits;
    follow = r.follow;
    behind = r.behind;
  }

  -- where the text behind a place opens a run
  pub opened : (core room left : ℕ) (rest after : List ℕ) (run : ℕ × ℕ) (others : List (ℕ × ℕ)) (later : R)
      → rest ≡ (97 + run.0) ∷ ((count_text run.1 ++ lines_text room others) ++ after)
      → Follow cores core left (run ∷ others) → After (left_after left (run ∷ others)) after later
      → Opens After cores core room left rest (run ∷ others) later
  opened core room left rest after run others later text follow behind = record {
    next = run.0;
    more = (count_text run.1 ++ lines_text room others) ++ after;
    letter = text;
    below = follow.0;
    differs = follow.1;
    run = record {
      count = run.1;
      others = others;
      tail = count_text run.1;
      after = after;
      parts = refl;
      digits = refl;
      text = append_assoc (count_text run.1) (lines_text room others) after;
      some = follow.2;
      fits = follow.3;
      follow = follow.4;
      behind = behind;
    };
  }

  -- at a line feed behind a full line
  pub feed_full : (core left : ℕ) (rest : List ℕ) (all : List (ℕ × ℕ)) (later : R)
      → AtRun After cores core 0 left (10 ∷ rest) all later → AtLine After cores core left rest all later
  feed_full core left rest [] later r =
      let same : rest ≡ r.after = cc (r.text) in inl (refl, subst (λ t. After left t later) (sym same) r.behind)
  feed_full core left rest (run ∷ others) later r =
      let same : rest ≡ (97 + run.0) ∷ ((count_text run.1 ++ lines_text 15 others) ++ r.after) = cc (r.text) in
      inr (opened core 15 left rest r.after run others later same r.follow r.behind)

  -- at a line feed behind a line with room
  pub feed_short : (core room left : ℕ) (rest : List ℕ) (all : List (ℕ × ℕ)) (later : R)
      → AtRun After cores core (suc room) left (10 ∷ rest) all later → AtEnd After left rest all later
  feed_short core room left rest [] later r =
      let same : rest ≡ r.after = cc (r.text) in (refl, subst (λ t. After left t later) (sym same) r.behind)
  feed_short core room left rest (run ∷ others) later r =
      let same : 10 ≡ 97 + run.0 = cc (r.text) in absurd (omega arith)

  -- at another byte behind a full line
  pub at_full : (core left b : ℕ) (rest : List ℕ) (all : List (ℕ × ℕ)) (later : R)
      → b ≢ 10 → AtRun After cores core 0 left (b ∷ rest) all later → ⊥
  at_full core left b rest [] later other r = let same : b ≡ 10 = cc (r.text) in other same
  at_full core left b rest (run ∷ others) later other r = let same : b ≡ 10 = cc (r.text) in other same

  -- at another byte where the line has room
  pub at_letter : (core room left b : ℕ) (rest : List ℕ) (all : List (ℕ × ℕ)) (later : R)
      → b ≢ 10 → AtRun After cores core (suc room) left (b ∷ rest) all later → Opens After cores core room left (b ∷ rest) all later
  at_letter core room left b rest [] later other r = let same : b ≡ 10 = cc (r.text) in absurd (other same)
  at_letter core room left b rest (run ∷ others) later other r =
      opened core room left (b ∷ rest) r.after run others later r.text r.follow r.behind

  -- a letter
  pub opens_on : (core room left b : ℕ) (rest : List ℕ) (all : List (ℕ × ℕ)) (later : R)
      → Opens After cores core room left (b ∷ rest) all later
      → (next : ℕ) × (b ≡ 97 + next) × (next < cores) × (next ≢ core) × (1 ≤ left) × InRun After cores next 0 room left rest all later
  opens_on core room left b rest all later r =
      let letter : b ≡ 97 + r.next = cc (r.letter) in
      let same : r.more ≡ rest = cc (r.letter) in
      (r.next, letter, r.below, r.differs, omega (arith, r.run.some, r.run.fits), subst (λ t. InRun After cores r.next 0 room left t all later) same r.run)

  pub opens_back : (core room left next : ℕ) (rest : List ℕ) (all : List (ℕ × ℕ)) (later : R)
      → next < cores → next ≢ core → InRun After cores next 0 room left rest all later
      → Opens After cores core room left ((97 + next) ∷ rest) all later
  opens_back core room left next rest all later below differs r =
      record { next = next; more = rest; letter = refl; below = below; differs = differs; run = r }

  -- what opens a run goes on behind a line with room
  pub letter_back : (core room left : ℕ) (rest : List ℕ) (all : List (ℕ × ℕ)) (later : R)
      → Opens After cores core room left rest all later → AtRun After cores core (suc room) left rest all later
  letter_back core room left rest all later r =
      let run : ℕ × ℕ = (r.next, r.run.count) in
      let follow : Follow cores core left (run ∷ r.run.others) = (r.below, r.differs, r.run.some, r.run.fits, r.run.follow) in
      let text : rest ≡ lines_text (suc room) (run ∷ r.run.others) ++ r.run.after =
      r.letter ∙ ap (λ t. (97 + r.next) ∷ t) (r.run.text ∙ ap (λ t. t ++ (lines_text room r.run.others ++ r.run.after)) r.run.digits
      ∙ sym (append_assoc (count_text r.run.count) (lines_text room r.run.others) r.run.after)) in
      let at : AtRun After cores core (suc room) left rest (run ∷ r.run.others) later =
      record { after = r.run.after; text = text; follow = follow; behind = r.run.behind } in
      subst (λ runs. AtRun After cores core (suc room) left rest runs later) (sym r.run.parts) at

  pub short_back : (core room left : ℕ) (rest : List ℕ) (all : List (ℕ × ℕ)) (later : R)
      → AtEnd After left rest all later → AtRun After cores core room left (10 ∷ rest) all later
  short_back core room left rest all later e =
      let at : AtRun After cores core room left (10 ∷ rest) [] later = record { after = rest; text = refl; follow = tt; behind = e.1 } in
      subst (λ runs. AtRun After cores core room left (10 ∷ rest) runs later) (sym e.0) at

  longer : (core left : ℕ) (rest : List ℕ) (all : List (ℕ × ℕ)) (later : R) → 0 < length all
      → AtRun After cores core 16 left rest all later → AtRun After cores core 0 left (10 ∷ rest) all later
  longer core left rest [] later some r = absurd (omega arith)
  longer core left rest (run ∷ others) later some r =
      record { after = r.after; text = ap (λ t. 10 ∷ t) r.text; follow = r.follow; behind = r.behind }

  -- and in the next line behind a full one
  pub full_back : (core left : ℕ) (rest : List ℕ) (all : List (ℕ × ℕ)) (later : R)
      → AtLine After cores core left rest all later → AtRun After cores core 0 left (10 ∷ rest) all later
  full_back core left rest all later (inl e) = short_back core 0 left rest all later e
  full_back core left rest all later (inr r) = longer core left rest all later (omega (arith, ap length r.run.parts)) (letter_back core 15 left rest all later r)
