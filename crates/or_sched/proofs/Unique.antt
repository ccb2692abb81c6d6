-- A text is a recording of one head, and of one list of turns and one of marks, at most.
use Rattle.std.proofs.Common.{◌≡◌, ◌∙◌, sym, ap, subst, ℕ, zero, suc, List, ◌++◌, ◌∷◌, [], ◌+◌, ◌-◌, ◌*◌, ◌^◌, ◌≤◌, ◌<◌, append_assoc, append-nil, arith, refl, length, length-append, length-drop, take, drop, inl, inr, ◌⊎◌, decimal, Bool, true, false}
use Rattle.std.specs.Prelude.{codes}
use Rattle.std.proofs.lemmas.Bool.{cases_eq}
use Rattle.std.proofs.lemmas.Fmt.{decimal_injective, decimal_nonempty}
use Rattle.std.proofs.lemmas.List.{take-append-drop, length-take-le, append_cancel_left}
use Rattle.std.proofs.lemmas.List.Elements.{recursion_from_All}
use Rattle.std.proofs.Math.Nat.{mul-le-mul}
use Rattle.or_words.specs.declared.Config.{Config}
use Rattle.or_words.specs.Settings.{Fits}
use Rattle.or_text.specs.Hexadecimal.{digest_text}
use Rattle.or_sched.specs.declared.recording.Head.{Head}
use Rattle.or_sched.specs.declared.recording.Mark.{Mark}
use Rattle.or_sched.specs.declared.head.Known.{Known}
use Rattle.or_sched.specs.HeadText.{IsDigest, form_text}
use Rattle.or_sched.specs.HeadLines.{input_text, image_text, ram_text, budget_text, cores_text, known_text, KnownFits, IsHeadText}
use Rattle.or_sched.specs.Schedule.{IsSchedule, AreMarksAfter}
use Rattle.or_sched.specs.Recording.{IsHead, IsRecording1, IsRecording2, IsRecording}
use Rattle.or_sched.specs.Reading.{head_of}
use Rattle.or_sched.specs.Runs.{count_text, run_text, lines_text, block_text, expand}
use Rattle.or_sched.specs.RunRests.{Follow}
use Rattle.or_sched.specs.Blocks.{mark_line, blocks_text}
use Rattle.or_sched.proofs.Numbers.{behind_digit}
use Rattle.or_sched.proofs.Steps.{count_many}
use Rattle.or_sched.proofs.Bridge.{AreTurns}
use Rattle.or_sched.proofs.BodyLemmas.{are_turns}
use Rattle.or_sched.proofs.EndedLemmas.{mark_long}
use Rattle.or_sched.proofs.Ends.{block_some}
use Rattle.or_sched.proofs.Digests.{digest_length, digest_same, bytes_of}
use Rattle.or_sched.proofs.Wholes.{known_of, says1, says2}
use Rattle.or_sched.proofs.BlockTexts.{BlockRuns, block_runs, are_take, are_drop}

abbrev NoDigit : ℕ → Type 0
NoDigit b = 48 ≤ b → b ≤ 57 → ⊥

abbrev AreDigits : List ℕ → Type 0
AreDigits [] = Unit {0}
AreDigits (b ∷ bytes) = (48 ≤ b) × (b ≤ 57) × AreDigits bytes

digits_from : (n : ℕ) (front rest : List ℕ) → n < 2 ^ 64 → front ++ rest ≡ decimal n → AreDigits rest
digits_from n front [] small e = tt
digits_from n front (b ∷ rest) small e =
    let digit : (48 ≤ b) × (b ≤ 57) = behind_digit front n b rest small e in
    (digit.0, digit.1, digits_from n (front ++ b ∷ []) rest small (append_assoc front (b ∷ []) rest ∙ e))

decimal_digits : (n : ℕ) → n < 2 ^ 64 → AreDigits (decimal n)
decimal_digits n small = digits_from n [] (decimal n) small refl

-- digits end at the first byte that is none
record Split (a b : List ℕ) (e f : ℕ) (x y : List ℕ) : Type 0 where
  digits : a ≡ b
  end : e ≡ f
  rest : x ≡ y

split : (a b : List ℕ) (e f : ℕ) (x y : List ℕ) → AreDigits a → AreDigits b → NoDigit e → NoDigit f → a ++ e ∷ x ≡ b ++ f ∷ y → Split a b e f x y
split [] [] e f x y is_a is_b no_e no_f same =
    let end : e ≡ f = cc in let rest : x ≡ y = cc in record { digits = refl; end = end; rest = rest }
split [] (d ∷ b) e f x y is_a is_b no_e no_f same =
    let end : e ≡ d = cc in absurd (no_e (omega (arith, is_b.0)) (omega (arith, is_b.1)))
split (c ∷ a) [] e f x y is_a is_b no_e no_f same =
    let end : c ≡ f = cc in absurd (no_f (omega (arith, is_a.0)) (omega (arith, is_a.1)))
split (c ∷ a) (d ∷ b) e f x y is_a is_b no_e no_f same =
    let first : c ≡ d = cc in
    let others : a ++ e ∷ x ≡ b ++ f ∷ y = cc in
    let s : Split a b e f x y = split a b e f x y is_a.2 is_b.2 no_e no_f others in
    record { digits = ap (λ k. k ∷ a) first ∙ ap (λ t. d ∷ t) s.digits; end = s.end; rest = s.rest }

record Numbers (m n : ℕ) (x y : List ℕ) : Type 0 where
  number : m ≡ n
  rest : x ≡ y

numbers_same : (m n e : ℕ) (x y : List ℕ) → m < 2 ^ 64 → n < 2 ^ 64 → NoDigit e → decimal m ++ e ∷ x ≡ decimal n ++ e ∷ y → Numbers m n x y
numbers_same m n e x y small_m small_n none same =
    let s : Split (decimal m) (decimal n) e e x y = split (decimal m) (decimal n) e e x y (decimal_digits m small_m) (decimal_digits n small_n) none none same in
    record { number = decimal_injective m n small_m small_n s.digits; rest = s.rest }

-- the first byte of what stands behind a count
record First (text : List ℕ) : Type 0 where
  byte : ℕ
  rest : List ℕ
  is : text ≡ byte ∷ rest
  no : NoDigit byte

lines_first : (room : ℕ) (all : List (ℕ × ℕ)) (after : List ℕ) → First (lines_text room all ++ after)
lines_first room [] after = record { byte = 10; rest = after; is = refl; no = λ low high. omega arith }
lines_first zero (run ∷ others) after = record { byte = 10; rest = (run_text run ++ lines_text 15 others) ++ after; is = refl; no = λ low high. omega arith }
lines_first (suc room) (run ∷ others) after =
    record { byte = 97 + run.0; rest = (count_text run.1 ++ lines_text room others) ++ after; is = refl; no = λ low high. omega arith }

count_digits : (n : ℕ) → n < 2 ^ 64 → AreDigits (count_text n)
count_digits n small = go (cases_eq n 1)
  where
    go : (n ≡ 1) ⊎ (n ≡ 1 → ⊥) → AreDigits (count_text n)
    go (inl one) = subst (λ k. AreDigits (count_text k)) (sym one) tt
    go (inr many) = subst AreDigits (sym (count_many n many)) (decimal_digits n small)

count_same : (m n : ℕ) → m < 2 ^ 64 → n < 2 ^ 64 → count_text m ≡ count_text n → m ≡ n
count_same m n small_m small_n same = go (cases_eq m 1) (cases_eq n 1)
  where
    go : (m ≡ 1) ⊎ (m ≡ 1 → ⊥) → (n ≡ 1) ⊎ (n ≡ 1 → ⊥) → m ≡ n
    go (inl a) (inl b) = a ∙ sym b
    go (inl a) (inr b) =
        let none : [] ≡ decimal n = ap count_text (sym a) ∙ same ∙ count_many n b in absurd (omega (arith, ap length none, decimal_nonempty n small_n))
    go (inr a) (inl b) =
        let none : decimal m ≡ [] = sym (count_many m a) ∙ same ∙ ap count_text b in absurd (omega (arith, ap length none, decimal_nonempty m small_m))
    go (inr a) (inr b) = decimal_injective m n small_m small_n (sym (count_many m a) ∙ same ∙ count_many n b)

-- behind the lines of a block stands no letter of a core
abbrev Stops : List ℕ → Type 0
Stops [] = Unit {0}
Stops (b ∷ bytes) = 105 ≤ b

record SameRuns (all others : List (ℕ × ℕ)) (after later : List ℕ) : Type 0 where
  runs_are : all ≡ others
  after_is : after ≡ later

no_letter : (after : List ℕ) (core : ℕ) (rest : List ℕ) → Stops after → core < 8 → after ≡ (97 + core) ∷ rest → ⊥
no_letter [] core rest stops low e = cc
no_letter (b ∷ bytes) core rest stops low e = let same : b ≡ 97 + core = cc in omega arith

-- a run and what stands behind it
run_same : (run other : ℕ × ℕ) (room : ℕ) (all others : List (ℕ × ℕ)) (after later : List ℕ) → run.1 < 2 ^ 64 → other.1 < 2 ^ 64
    → (run_text run ++ lines_text room all) ++ after ≡ (run_text other ++ lines_text room others) ++ later
    → (run ≡ other) × (lines_text room all ++ after ≡ lines_text room others ++ later)
run_same run other room all others after later small small_other same =
    let core : 97 + run.0 ≡ 97 + other.0 = cc in
    let cores : run.0 ≡ other.0 = omega arith in
    let tails : (count_text run.1 ++ lines_text room all) ++ after ≡ (count_text other.1 ++ lines_text room others) ++ later = cc in
    let f : First (lines_text room all ++ after) = lines_first room all after in
    let g : First (lines_text room others ++ later) = lines_first room others later in
    let counts : count_text run.1 ++ f.byte ∷ f.rest ≡ count_text other.1 ++ g.byte ∷ g.rest =
    ap (λ t. count_text run.1 ++ t) (sym f.is) ∙ sym (append_assoc (count_text run.1) (lines_text room all) after) ∙ tails
    ∙ append_assoc (count_text other.1) (lines_text room others) later ∙ ap (λ t. count_text other.1 ++ t) g.is in
    let s : Split (count_text run.1) (count_text other.1) f.byte g.byte f.rest g.rest =
    split (count_text run.1) (count_text other.1) f.byte g.byte f.rest g.rest (count_digits run.1 small) (count_digits other.1 small_other) f.no g.no counts in
    let count : run.1 ≡ other.1 = count_same run.1 other.1 small small_other s.digits in (
      ap (λ c. (c, run.1)) cores ∙ ap (λ n. (other.0, n)) count,
      f.is ∙ ap (λ b. b ∷ f.rest) s.end ∙ ap (λ t. g.byte ∷ t) s.rest ∙ sym g.is,
    )

lines_same : (all others : List (ℕ × ℕ)) (core other_core left other_left room : ℕ) (after later : List ℕ) → left < 2 ^ 64 → other_left < 2 ^ 64
    → Follow 8 core left all → Follow 8 other_core other_left others → Stops after → Stops later
    → lines_text room all ++ after ≡ lines_text room others ++ later → SameRuns all others after later
lines_same [] [] core other_core left other_left room after later small small_other follow other_follow stops stops_later same =
    let rest : after ≡ later = cc in record { runs_are = refl; after_is = rest }
lines_same [] (other ∷ others) core other_core left other_left zero after later small small_other follow other_follow stops stops_later same =
    let rest : after ≡ (97 + other.0) ∷ ((count_text other.1 ++ lines_text 15 others) ++ later) = cc in
    absurd (no_letter after other.0 ((count_text other.1 ++ lines_text 15 others) ++ later) stops other_follow.0 rest)
lines_same [] (other ∷ others) core other_core left other_left (suc room) after later small small_other follow other_follow stops stops_later same =
    let first : ◌≡◌ {A = ℕ} 10 (97 + other.0) = cc in absurd (omega arith)
lines_same (run ∷ all) [] core other_core left other_left zero after later small small_other follow other_follow stops stops_later same =
    let rest : later ≡ (97 + run.0) ∷ ((count_text run.1 ++ lines_text 15 all) ++ after) = cc in
    absurd (no_letter later run.0 ((count_text run.1 ++ lines_text 15 all) ++ after) stops_later follow.0 rest)
lines_same (run ∷ all) [] core other_core left other_left (suc room) after later small small_other follow other_follow stops stops_later same =
    let first : ◌≡◌ {A = ℕ} (97 + run.0) 10 = cc in absurd (omega arith)
lines_same (run ∷ all) (other ∷ others) core other_core left other_left zero after later small small_other follow other_follow stops stops_later same =
    let behind : (run_text run ++ lines_text 15 all) ++ after ≡ (run_text other ++ lines_text 15 others) ++ later = cc in
    let r : (run ≡ other) × (lines_text 15 all ++ after ≡ lines_text 15 others ++ later) =
    run_same run other 15 all others after later (omega (arith, follow.3)) (omega (arith, other_follow.3)) behind in
    let s : SameRuns all others after later =
    lines_same all others run.0 other.0 (left - run.1) (other_left - other.1) 15 after later (omega arith) (omega arith) follow.4 other_follow.4 stops stops_later r.1 in
    record { runs_are = ap (λ k. k ∷ all) r.0 ∙ ap (λ t. other ∷ t) s.runs_are; after_is = s.after_is }
lines_same (run ∷ all) (other ∷ others) core other_core left other_left (suc room) after later small small_other follow other_follow stops stops_later same =
    let r : (run ≡ other) × (lines_text room all ++ after ≡ lines_text room others ++ later) =
    run_same run other room all others after later (omega (arith, follow.3)) (omega (arith, other_follow.3)) same in
    let s : SameRuns all others after later =
    lines_same all others run.0 other.0 (left - run.1) (other_left - other.1) room after later (omega arith) (omega arith) follow.4 other_follow.4 stops stops_later r.1 in
    record { runs_are = ap (λ k. k ∷ all) r.0 ∙ ap (λ t. other ∷ t) s.runs_are; after_is = s.after_is }

-- a block and what stands behind it
record SameTurns (turns others : List ℕ) (after later : List ℕ) : Type 0 where
  turns_are : turns ≡ others
  after_is : after ≡ later

block_same : (turns others : List ℕ) (after later : List ℕ) → 0 < length turns → 0 < length others → length turns < 2 ^ 64 → length others < 2 ^ 64
    → AreTurns 8 turns → AreTurns 8 others → Stops after → Stops later → block_text turns ++ after ≡ block_text others ++ later → SameTurns turns others after later
block_same turns others after later some some_others small small_others are are_others stops stops_later same =
    let a : BlockRuns 8 (length turns) turns = block_runs 8 (length turns) turns some (omega arith) are in
    let b : BlockRuns 8 (length others) others = block_runs 8 (length others) others some_others (omega arith) are_others in
    let lines : lines_text 16 (a.run ∷ a.others) ++ after ≡ lines_text 16 (b.run ∷ b.others) ++ later =
    ap (λ t. t ++ after) (sym a.text) ∙ same ∙ ap (λ t. t ++ later) b.text in
    let s : SameRuns (a.run ∷ a.others) (b.run ∷ b.others) after later =
    lines_same (a.run ∷ a.others) (b.run ∷ b.others) 8 8 (length turns) (length others) 16 after later small small_others a.follow b.follow stops stops_later lines in
    record { turns_are = sym a.whole ∙ ap expand s.runs_are ∙ b.whole; after_is = s.after_is }

record SameMark (mark other : Mark) (x y : List ℕ) : Type 0 where
  mark_is : mark ≡ other
  rest : x ≡ y

mark_same : (mark other : Mark) (x y : List ℕ) → mark.writes < 2 ^ 64 → mark.console < 2 ^ 64 → other.writes < 2 ^ 64 → other.console < 2 ^ 64
    → mark_line mark ++ x ≡ mark_line other ++ y → SameMark mark other x y
mark_same mark other x y small_w small_c small_v small_d same =
    let tails : (decimal mark.writes ++ 32 ∷ (decimal mark.console ++ 10 ∷ [])) ++ x ≡ (decimal other.writes ++ 32 ∷ (decimal other.console ++ 10 ∷ [])) ++ y =
    append_cancel_left (codes "mark ") ((decimal mark.writes ++ 32 ∷ (decimal mark.console ++ 10 ∷ [])) ++ x) ((decimal other.writes ++ 32 ∷ (decimal other.console ++ 10 ∷ [])) ++ y) same in
    let w : Numbers mark.writes other.writes ((decimal mark.console ++ 10 ∷ []) ++ x) ((decimal other.console ++ 10 ∷ []) ++ y) =
    numbers_same mark.writes other.writes 32 ((decimal mark.console ++ 10 ∷ []) ++ x) ((decimal other.console ++ 10 ∷ []) ++ y) small_w small_v (λ low high. omega arith)
    (sym (append_assoc (decimal mark.writes) (32 ∷ (decimal mark.console ++ 10 ∷ [])) x) ∙ tails ∙ append_assoc (decimal other.writes) (32 ∷ (decimal other.console ++ 10 ∷ [])) y) in
    let c : Numbers mark.console other.console x y =
    numbers_same mark.console other.console 10 x y small_c small_d (λ low high. omega arith)
    (sym (append_assoc (decimal mark.console) (10 ∷ []) x) ∙ w.rest ∙ append_assoc (decimal other.console) (10 ∷ []) y) in
    record {
      mark_is = ap (λ k. record mark { writes = k }) w.number ∙ ap (λ k. record other { console = k }) c.number;
      rest = c.rest;
    }

-- turns in blocks with their marks, none of which is too large
record AreBlocks (block before : ℕ) (marks : List Mark) (turns : List ℕ) : Type 0 where
  some : 1 ≤ block
  whole : block * length marks ≤ length turns
  part : length turns < block * length marks + block
  are : AreTurns 8 turns
  numbers : AreMarksAfter block before marks
  small : before + length turns < 2 ^ 60

record SameBlocks (turns others : List ℕ) (marks other_marks : List Mark) : Type 0 where
  turns_are : turns ≡ others
  marks_are : marks ≡ other_marks

next_blocks : (block before : ℕ) (mark : Mark) (marks : List Mark) (turns : List ℕ) → AreBlocks block before (mark ∷ marks) turns
    → AreBlocks block (before + block) marks (drop block turns)
next_blocks block before mark marks turns b =
    let product : block * length (mark ∷ marks) ≡ block * length marks + block = omega arith in
    record {
      some = b.some;
      whole = omega (arith, b.whole, product, length-drop block turns);
      part = omega (arith, b.whole, b.part, product, length-drop block turns);
      are = are_drop 8 block turns b.are;
      numbers = b.numbers.2;
      small = omega (arith, b.whole, b.small, product, length-drop block turns);
    }

front_long : (block before : ℕ) (mark : Mark) (marks : List Mark) (turns : List ℕ) → AreBlocks block before (mark ∷ marks) turns → length (take block turns) ≡ block
front_long block before mark marks turns b =
    let product : block * length (mark ∷ marks) ≡ block * length marks + block = omega arith in
    length-take-le block turns (omega (arith, b.whole, product))

front_small : (block before : ℕ) (mark : Mark) (marks : List Mark) (turns : List ℕ) → AreBlocks block before (mark ∷ marks) turns → before + block < 2 ^ 60
front_small block before mark marks turns b =
    let product : block * length (mark ∷ marks) ≡ block * length marks + block = omega arith in
    omega (arith, b.whole, b.small, product)

mark_stops : (mark : Mark) (rest : List ℕ) → Stops (mark_line mark ++ rest)
mark_stops mark rest = let large : 105 ≤ 109 = omega arith in large

mark_some : (mark : Mark) (rest : List ℕ) → 7 ≤ length (mark_line mark ++ rest)
mark_some mark rest = omega (arith, length-append (mark_line mark) rest, mark_long mark)

-- a last block is no block with a mark
not_last : (block before other_before : ℕ) (turns others : List ℕ) (mark : Mark) (marks : List Mark) (rest : List ℕ) → AreBlocks block before [] turns → AreBlocks block other_before (mark ∷ marks) others
    → block_text turns ≡ block_text (take block others) ++ (mark_line mark ++ rest) → ⊥
not_last block before other_before [] others mark marks rest a b same =
    omega (arith, ap length same, length-append (block_text (take block others)) (mark_line mark ++ rest), mark_some mark rest)
not_last block before other_before (turn ∷ turns) others mark marks rest a b same =
    let s : SameTurns (turn ∷ turns) (take block others) [] (mark_line mark ++ rest) =
    block_same (turn ∷ turns) (take block others) [] (mark_line mark ++ rest) (omega arith) (omega (arith, front_long block other_before mark marks others b, b.some))
    (omega (arith, a.small)) (omega (arith, front_long block other_before mark marks others b, front_small block other_before mark marks others b))
    a.are (are_take 8 block others b.are) tt (mark_stops mark rest) (append-nil (block_text (turn ∷ turns)) ∙ same) in
    omega (arith, ap length s.after_is, mark_some mark rest)

last_same : (block before other_before : ℕ) (turns others : List ℕ) → AreBlocks block before [] turns → AreBlocks block other_before [] others → block_text turns ≡ block_text others → turns ≡ others
last_same block before other_before [] [] a b same = refl
last_same block before other_before [] (other ∷ others) a b same = absurd (omega (arith, ap length same, block_some (other ∷ others) (omega arith)))
last_same block before other_before (turn ∷ turns) [] a b same = absurd (omega (arith, ap length same, block_some (turn ∷ turns) (omega arith)))
last_same block before other_before (turn ∷ turns) (other ∷ others) a b same =
    let s : SameTurns (turn ∷ turns) (other ∷ others) [] [] =
    block_same (turn ∷ turns) (other ∷ others) [] [] (omega arith) (omega arith) (omega (arith, a.small)) (omega (arith, b.small)) a.are b.are tt tt
    (append-nil (block_text (turn ∷ turns)) ∙ same ∙ sym (append-nil (block_text (other ∷ others)))) in
    s.turns_are

blocks_same : (marks other_marks : List Mark) (block before other_before : ℕ) (turns others : List ℕ) → AreBlocks block before marks turns → AreBlocks block other_before other_marks others
    → blocks_text block marks turns ≡ blocks_text block other_marks others → SameBlocks turns others marks other_marks
blocks_same [] [] block before other_before turns others a b same = record { turns_are = last_same block before other_before turns others a b same; marks_are = refl }
blocks_same [] (other ∷ other_marks) block before other_before turns others a b same =
    absurd (not_last block before other_before turns others other other_marks (blocks_text block other_marks (drop block others)) a b same)
blocks_same (mark ∷ marks) [] block before other_before turns others a b same =
    absurd (not_last block other_before before others turns mark marks (blocks_text block marks (drop block turns)) b a (sym same))
blocks_same (mark ∷ marks) (other ∷ other_marks) block before other_before turns others a b same =
    let long : length (take block turns) ≡ block = front_long block before mark marks turns a in
    let other_long : length (take block others) ≡ block = front_long block other_before other other_marks others b in
    let s : SameTurns (take block turns) (take block others) (mark_line mark ++ blocks_text block marks (drop block turns)) (mark_line other ++ blocks_text block other_marks (drop block others)) =
    block_same (take block turns) (take block others) (mark_line mark ++ blocks_text block marks (drop block turns)) (mark_line other ++ blocks_text block other_marks (drop block others))
    (omega (arith, long, a.some)) (omega (arith, other_long, a.some)) (omega (arith, long, front_small block before mark marks turns a)) (omega (arith, other_long, front_small block before mark marks turns a))
    (are_take 8 block turns a.are) (are_take 8 block others b.are) (mark_stops mark (blocks_text block marks (drop block turns))) (mark_stops other (blocks_text block other_marks (drop block others))) same in
    let m : SameMark mark other (blocks_text block marks (drop block turns)) (blocks_text block other_marks (drop block others)) =
    mark_same mark other (blocks_text block marks (drop block turns)) (blocks_text block other_marks (drop block others))
    (omega (arith, a.numbers.0, front_small block before mark marks turns a)) (omega (arith, a.numbers.1, front_small block before mark marks turns a))
    (omega (arith, b.numbers.0, front_small block other_before other other_marks others b)) (omega (arith, b.numbers.1, front_small block other_before other other_marks others b)) s.after_is in
    let r : SameBlocks (drop block turns) (drop block others) marks other_marks =
    blocks_same marks other_marks block (before + block) (other_before + block) (drop block turns) (drop block others)
    (next_blocks block before mark marks turns a) (next_blocks block other_before other other_marks others b) m.rest in
    record {
      turns_are = sym (take-append-drop block turns) ∙ ap (λ t. t ++ drop block turns) s.turns_are ∙ ap (λ t. take block others ++ t) r.turns_are ∙ take-append-drop block others;
      marks_are = ap (λ k. k ∷ marks) m.mark_is ∙ ap (λ t. other ∷ t) r.marks_are;
    }

-- heads
front_same : (a b x y : List ℕ) → length a ≡ length b → a ++ x ≡ b ++ y → (a ≡ b) × (x ≡ y)
front_same [] [] x y long same = (refl, same)
front_same [] (d ∷ b) x y long same = absurd (omega arith)
front_same (c ∷ a) [] x y long same = absurd (omega arith)
front_same (c ∷ a) (d ∷ b) x y long same =
    let first : c ≡ d = cc in
    let others : a ++ x ≡ b ++ y = cc in
    let r : (a ≡ b) × (x ≡ y) = front_same a b x y (omega arith) others in
    (ap (λ k. k ∷ a) first ∙ ap (λ t. d ∷ t) r.0, r.1)

record Rest {A : Type 0} (a b : A) (x y : List ℕ) : Type 0 where
  is : a ≡ b
  rest : x ≡ y

digests_same : (a b x y : List ℕ) → IsDigest a → IsDigest b → digest_text a ++ 10 ∷ x ≡ digest_text b ++ 10 ∷ y → Rest a b x y
digests_same a b x y is_a is_b same =
    let r : (digest_text a ≡ digest_text b) × (10 ∷ x ≡ 10 ∷ y) =
    front_same (digest_text a) (digest_text b) (10 ∷ x) (10 ∷ y) (omega (arith, digest_length a, digest_length b, is_a.long, is_b.long)) same in
    let rest : 10 ∷ x ≡ 10 ∷ y = r.1 in
    let tail : x ≡ y = cc in
    record { is = digest_same a b (bytes_of a is_a) (bytes_of b is_b) r.0; rest = tail }

record SameForm (m n : ℕ) (a b : Bool) (x y : List ℕ) : Type 0 where
  number : m ≡ n
  form : a ≡ b
  rest : x ≡ y

form_same : (m n : ℕ) (a b : Bool) (x y : List ℕ) → m < 2 ^ 64 → n < 2 ^ 64 → decimal m ++ (form_text a ++ 10 ∷ x) ≡ decimal n ++ (form_text b ++ 10 ∷ y) → SameForm m n a b x y
form_same m n false false x y small_m small_n same =
    let s : Numbers m n x y = numbers_same m n 10 x y small_m small_n (λ low high. omega arith) same in
    record { number = s.number; form = refl; rest = s.rest }
form_same m n true true x y small_m small_n same =
    let s : Numbers m n (codes "pic latched" ++ 10 ∷ x) (codes "pic latched" ++ 10 ∷ y) =
    numbers_same m n 32 (codes "pic latched" ++ 10 ∷ x) (codes "pic latched" ++ 10 ∷ y) small_m small_n (λ low high. omega arith) same in
    let feeds : 10 ∷ x ≡ 10 ∷ y = append_cancel_left (codes "pic latched") (10 ∷ x) (10 ∷ y) s.rest in
    let rest : x ≡ y = cc in
    record { number = s.number; form = refl; rest = rest }
form_same m n true false x y small_m small_n same =
    let s : Split (decimal m) (decimal n) 32 10 (codes "pic latched" ++ 10 ∷ x) y =
    split (decimal m) (decimal n) 32 10 (codes "pic latched" ++ 10 ∷ x) y (decimal_digits m small_m) (decimal_digits n small_n) (λ low high. omega arith) (λ low high. omega arith) same in
    absurd (omega (arith, s.end))
form_same m n false true x y small_m small_n same =
    let s : Split (decimal m) (decimal n) 10 32 x (codes "pic latched" ++ 10 ∷ y) =
    split (decimal m) (decimal n) 10 32 x (codes "pic latched" ++ 10 ∷ y) (decimal_digits m small_m) (decimal_digits n small_n) (λ low high. omega arith) (λ low high. omega arith) same in
    absurd (omega (arith, s.end))

version_small : (known : Known) → KnownFits known → known.version < 2 ^ 64
version_small known fits = go fits.version
  where
    go : (known.version ≡ 1) ⊎ (known.version ≡ 2) → known.version < 2 ^ 64
    go (inl one) = omega arith
    go (inr two) = omega arith

known_same : (a b : Known) (end other : List ℕ) → KnownFits a → KnownFits b → known_text a end ≡ known_text b other → Rest a b end other
known_same a b end other fits_a fits_b same =
    let version : Numbers a.version b.version (codes "cores " ++ cores_text a end) (codes "cores " ++ cores_text b other) =
    numbers_same a.version b.version 10 (codes "cores " ++ cores_text a end) (codes "cores " ++ cores_text b other) (version_small a fits_a) (version_small b fits_b) (λ low high. omega arith)
    (append_cancel_left (codes "orsched ") (decimal a.version ++ 10 ∷ (codes "cores " ++ cores_text a end)) (decimal b.version ++ 10 ∷ (codes "cores " ++ cores_text b other)) same) in
    let cores : Numbers a.cores b.cores (codes "budget " ++ budget_text a end) (codes "budget " ++ budget_text b other) =
    numbers_same a.cores b.cores 32 (codes "budget " ++ budget_text a end) (codes "budget " ++ budget_text b other) (omega (arith, fits_a.cores)) (omega (arith, fits_b.cores)) (λ low high. omega arith)
    (append_cancel_left (codes "cores ") (cores_text a end) (cores_text b other) version.rest) in
    let budget : Numbers a.budget b.budget (codes "ram " ++ ram_text a.latched a end) (codes "ram " ++ ram_text b.latched b other) =
    numbers_same a.budget b.budget 32 (codes "ram " ++ ram_text a.latched a end) (codes "ram " ++ ram_text b.latched b other) (omega (arith, fits_a.budget)) (omega (arith, fits_b.budget)) (λ low high. omega arith)
    (append_cancel_left (codes "budget ") (budget_text a end) (budget_text b other) cores.rest) in
    let ram : SameForm a.ram b.ram a.latched b.latched (image_text a end) (image_text b other) =
    form_same a.ram b.ram a.latched b.latched (image_text a end) (image_text b other) (omega (arith, fits_a.ram)) (omega (arith, fits_b.ram))
    (append_cancel_left (codes "ram ") (ram_text a.latched a end) (ram_text b.latched b other) budget.rest) in
    let image : Rest a.image b.image (input_text a end) (input_text b other) =
    digests_same a.image b.image (input_text a end) (input_text b other) fits_a.digests.0 fits_b.digests.0
    (append_cancel_left (codes "image ") (digest_text a.image ++ 10 ∷ input_text a end) (digest_text b.image ++ 10 ∷ input_text b other) ram.rest) in
    let input : Rest a.input b.input end other =
    digests_same a.input b.input end other fits_a.digests.1 fits_b.digests.1
    (append_cancel_left (codes "input ") (digest_text a.input ++ 10 ∷ end) (digest_text b.input ++ 10 ∷ other) image.rest) in
    record {
      is = ap (λ v. record a { version = v }) version.number
          ∙ ap (λ v. record a { version = b.version; cores = v }) cores.number
          ∙ ap (λ v. record a { version = b.version; cores = b.cores; budget = v }) budget.number
          ∙ ap (λ v. record a { version = b.version; cores = b.cores; budget = b.budget; ram = v }) ram.number
          ∙ ap (λ v. record b { latched = v; image = a.image; input = a.input }) ram.form
          ∙ ap (λ v. record b { image = v; input = a.input }) image.is
          ∙ ap (λ v. record b { input = v }) input.is;
      rest = input.rest;
    }

wider : (cores : ℕ) (turns : List ℕ) → cores ≤ 8 → AreTurns cores turns → AreTurns 8 turns
wider cores [] few are = tt
wider cores (turn ∷ turns) few are = (omega (arith, are.0), wider cores turns few are.1)

turns_are_of : (config : Config) (turns : List ℕ) → Fits config → IsSchedule config turns → AreTurns 8 turns
turns_are_of config turns fits schedule =
    wider config.cores turns fits.few_cores (are_turns config.cores turns (recursion_from_All (λ turn. turn < config.cores) turns schedule.cores))

turns_few : (config : Config) (turns : List ℕ) → Fits config → IsSchedule config turns → length turns < 2 ^ 60
turns_few config turns fits schedule = omega (arith, schedule.few_turns, mul-le-mul fits.few_cores fits.few_steps)

one_block_of : (head : Head) (turns : List ℕ) (block : ℕ) → length turns < block → IsHead head → IsSchedule head.config turns → AreBlocks block 0 [] turns
one_block_of head turns block fits is schedule = record {
  some = omega arith;
  whole = omega arith;
  part = omega arith;
  are = turns_are_of head.config turns is.settings schedule;
  numbers = tt;
  small = omega (arith, turns_few head.config turns is.settings schedule);
}

blocks_of : (bytes : List ℕ) (head : Head) (turns : List ℕ) (marks : List Mark) → IsRecording2 bytes head turns marks → AreBlocks 65536 0 marks turns
blocks_of bytes head turns marks is = record {
  some = omega arith;
  whole = omega (arith, is.are_marks.whole_blocks);
  part = omega (arith, is.are_marks.whole_blocks);
  are = turns_are_of head.config turns is.is_head.settings is.schedule;
  numbers = is.are_marks.numbers;
  small = omega (arith, turns_few head.config turns is.is_head.settings is.schedule);
}

unique1 : (bytes : List ℕ) (head other : Head) (turns others : List ℕ) → IsRecording1 bytes head turns → IsRecording1 bytes other others → (head ≡ other) × (turns ≡ others)
unique1 bytes head other turns others a b =
    let h : IsHeadText (known_of 1 head) (block_text turns) bytes = says1 bytes head turns a in
    let o : IsHeadText (known_of 1 other) (block_text others) bytes = says1 bytes other others b in
    let k : Rest (known_of 1 head) (known_of 1 other) (block_text turns) (block_text others) =
    known_same (known_of 1 head) (known_of 1 other) (block_text turns) (block_text others) h.fits o.fits (sym h.text ∙ o.text) in (
      ap head_of k.is,
      last_same (length turns + length others + 1) 0 0 turns others
          (one_block_of head turns (length turns + length others + 1) (omega arith) a.is_head a.schedule)
          (one_block_of other others (length turns + length others + 1) (omega arith) b.is_head b.schedule) k.rest,
    )

unique2 : (bytes : List ℕ) (head other : Head) (turns others : List ℕ) (marks other_marks : List Mark) → IsRecording2 bytes head turns marks → IsRecording2 bytes other others other_marks
    → (head ≡ other) × (turns ≡ others) × (marks ≡ other_marks)
unique2 bytes head other turns others marks other_marks a b =
    let h : IsHeadText (known_of 2 head) (blocks_text 65536 marks turns) bytes = says2 bytes head turns marks a in
    let o : IsHeadText (known_of 2 other) (blocks_text 65536 other_marks others) bytes = says2 bytes other others other_marks b in
    let k : Rest (known_of 2 head) (known_of 2 other) (blocks_text 65536 marks turns) (blocks_text 65536 other_marks others) =
    known_same (known_of 2 head) (known_of 2 other) (blocks_text 65536 marks turns) (blocks_text 65536 other_marks others) h.fits o.fits (sym h.text ∙ o.text) in
    let s : SameBlocks turns others marks other_marks =
    blocks_same marks other_marks 65536 0 0 turns others (blocks_of bytes head turns marks a) (blocks_of bytes other others other_marks b) k.rest in
    (ap head_of k.is, s.turns_are, s.marks_are)

-- no text is one of both versions
one_version : (bytes : List ℕ) (head other : Head) (turns others : List ℕ) (marks : List Mark) → IsRecording1 bytes head turns → IsRecording2 bytes other others marks → ⊥
one_version bytes head other turns others marks a b =
    let h : IsHeadText (known_of 1 head) (block_text turns) bytes = says1 bytes head turns a in
    let o : IsHeadText (known_of 2 other) (blocks_text 65536 marks others) bytes = says2 bytes other others marks b in
    let k : Rest (known_of 1 head) (known_of 2 other) (block_text turns) (blocks_text 65536 marks others) =
    known_same (known_of 1 head) (known_of 2 other) (block_text turns) (blocks_text 65536 marks others) h.fits o.fits (sym h.text ∙ o.text) in
    let version : ◌≡◌ {A = ℕ} 1 2 = ap (λ v. v.version) k.is in
    omega (arith, version)

pub unique : (bytes : List ℕ) (head other : Head) (turns others : List ℕ) (marks other_marks : List Mark) → IsRecording bytes head turns marks → IsRecording bytes other others other_marks
    → (head ≡ other) × (turns ≡ others) × (marks ≡ other_marks)
unique bytes head other turns others marks other_marks (inl a) (inl b) =
    let r : (head ≡ other) × (turns ≡ others) = unique1 bytes head other turns others a.0 b.0 in (r.0, r.1, a.1 ∙ sym b.1)
unique bytes head other turns others marks other_marks (inl a) (inr b) = absurd (one_version bytes head other turns others other_marks a.0 b)
unique bytes head other turns others marks other_marks (inr a) (inl b) = absurd (one_version bytes other head others turns marks b.0 a)
unique bytes head other turns others marks other_marks (inr a) (inr b) = unique2 bytes head other turns others marks other_marks a b
