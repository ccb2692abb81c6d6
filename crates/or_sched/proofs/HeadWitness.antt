-- Each place of the head is completed by some text, whatever stands behind the head.
use Rattle.std.proofs.Common.{◌∙◌, sym, ap, ℕ, List, ◌++◌, ◌∷◌, [], ◌≤◌, append_assoc, append-nil, arith, refl, length, inl, decimal, Option, Some, None, take, drop, false}
use Rattle.std.proofs.lemmas.List.{take-append-drop}
use Rattle.or_sched.specs.declared.head.Known.{Known}
use Rattle.or_sched.specs.declared.head.Literal.{Literal}
use Rattle.or_sched.specs.declared.head.Literal.TheVariants.{Orsched, Cores, Budget, Ram, Latched, Image, Input}
use Rattle.or_sched.specs.declared.head.Field.{Field}
use Rattle.or_sched.specs.declared.head.Field.TheVariants.{Cores as CoresField, Budget as BudgetField, Ram as RamField}
use Rattle.or_sched.specs.declared.head.HeadPlace.{HeadPlace}
use Rattle.or_sched.specs.declared.head.HeadPlace.TheVariants.{Text, Version, LineEnd, Number, Digits, Behind}
use Rattle.or_sched.specs.declared.head.TopLine.{TopLine}
use Rattle.or_sched.specs.declared.head.TopLine.TheVariants.{First, Second}
use Rattle.or_sched.specs.declared.head.DigestLine.{DigestLine}
use Rattle.or_sched.specs.declared.head.DigestLine.TheVariants.{Image as ImageLine, Input as InputLine}
use Rattle.or_sched.proofs.Digests.{Filled, filled, so_far_hex, so_far_short, AreHex}
use Rattle.or_sched.specs.HeadPlaces.{InText, InField, literal_bytes, AtRam, AtBudget, AtCores, AtFirst, AtSecond, AtVersion, AtImage, AtInput, FollowsLiteral, HeadCompletes, HeadSound, IsNumberFrom, AreDigests, digits_so_far}

pub record Completed (P : Known → List ℕ → List ℕ → Type 0) : Type 0 where
  pub final : Known
  pub rest : List ℕ → List ℕ
  pub holds : (end : List ℕ) → P final end (rest end)

abbrev one_of : Option ℕ → ℕ
one_of None = 1
one_of (Some n) = n

abbrev left_of : Option ℕ → List ℕ
left_of None = decimal 1
left_of (Some n) = []

field_some : (number : Option ℕ) (end most : ℕ) (C : ℕ → List ℕ → Type 0) (more : List ℕ) → 1 ≤ most → IsNumberFrom number most → C (one_of number) more
    → InField number end 1 most C (left_of number ++ end ∷ more)
field_some None end most C more low from c =
    record { value = 1; more = more; digits = record { tail = decimal 1; digits = refl; text = refl }; large = omega arith; small = low; follows = c }
field_some (Some n) end most C more low from c =
    record { value = n; more = more; digits = record { tail = []; digits = append-nil (decimal n); text = refl }; large = from.0; small = from.1; follows = c }

text_some : (C : List ℕ → Type 0) (text : List ℕ) (seen : ℕ) (more : List ℕ) → C more → InText C text seen (drop seen text ++ more)
text_some C text seen more c = record {
  more = more;
  whole = sym (append_assoc (take seen text) (drop seen text) more) ∙ ap (λ t. t ++ more) (take-append-drop seen text);
  follows = c;
}

some_input : (known : Known) (front : List ℕ) → AreHex front → length front ≤ 64 → Completed (λ final end rest. AtInput final end known front rest)
some_input known front hex short =
    let f : Filled front = filled front hex short in
    record {
      final = record known { input = f.bytes };
      rest = λ end. f.tail ++ 10 ∷ end;
      holds = λ end. record { bytes = f.bytes; tail = f.tail; more = end; is = f.is; digits = f.digits; text = refl; follows = (refl, refl) };
    }

some_image : (known : Known) (front : List ℕ) → AreHex front → length front ≤ 64 → Completed (λ final end rest. AtImage final end known front rest)
some_image known front hex short =
    let f : Filled front = filled front hex short in
    let next : Known = record known { image = f.bytes } in
    let s : Completed (λ final end rest. AtInput final end next [] rest) = some_input next [] tt (omega arith) in
    record {
      final = s.final;
      rest = λ end. f.tail ++ 10 ∷ (literal_bytes Input ++ s.rest end);
      holds = λ end. record {
        bytes = f.bytes;
        tail = f.tail;
        more = literal_bytes Input ++ s.rest end;
        is = f.is;
        digits = f.digits;
        text = refl;
        follows = text_some (AtInput s.final end next []) (literal_bytes Input) 0 (s.rest end) (s.holds end);
      };
    }

some_second : (known : Known) → Completed (λ final end rest. AtSecond final end known rest)
some_second known =
    let s : Completed (λ final end rest. AtImage final end known [] rest) = some_image known [] tt (omega arith) in
    record {
      final = s.final;
      rest = λ end. 10 ∷ (literal_bytes Image ++ s.rest end);
      holds = λ end. (literal_bytes Image ++ s.rest end, refl, text_some (AtImage s.final end known []) (literal_bytes Image) 0 (s.rest end) (s.holds end));
    }

some_ram : (known : Known) (number : Option ℕ) → IsNumberFrom number 256 → Completed (λ final end rest. AtRam final end known number rest)
some_ram known number from =
    let next : Known = record known { ram = one_of number; latched = false } in
    let s : Completed (λ final end rest. AtImage final end next [] rest) = some_image next [] tt (omega arith) in
    record {
      final = s.final;
      rest = λ end. left_of number ++ 10 ∷ (literal_bytes Image ++ s.rest end);
      holds = λ end. inl (field_some number 10 256 _ (literal_bytes Image ++ s.rest end) (omega arith) from (text_some (AtImage s.final end next []) (literal_bytes Image) 0 (s.rest end) (s.holds end)));
    }

some_budget : (known : Known) (number : Option ℕ) → IsNumberFrom number 67108864 → Completed (λ final end rest. AtBudget final end known number rest)
some_budget known number from =
    let next : Known = record known { budget = one_of number } in
    let s : Completed (λ final end rest. AtRam final end next None rest) = some_ram next None tt in
    record {
      final = s.final;
      rest = λ end. left_of number ++ 32 ∷ (literal_bytes Ram ++ s.rest end);
      holds = λ end. field_some number 32 67108864 _ (literal_bytes Ram ++ s.rest end) (omega arith) from (text_some (AtRam s.final end next None) (literal_bytes Ram) 0 (s.rest end) (s.holds end));
    }

some_cores : (known : Known) (number : Option ℕ) → IsNumberFrom number 8 → Completed (λ final end rest. AtCores final end known number rest)
some_cores known number from =
    let next : Known = record known { cores = one_of number } in
    let s : Completed (λ final end rest. AtBudget final end next None rest) = some_budget next None tt in
    record {
      final = s.final;
      rest = λ end. left_of number ++ 32 ∷ (literal_bytes Budget ++ s.rest end);
      holds = λ end. field_some number 32 8 _ (literal_bytes Budget ++ s.rest end) (omega arith) from (text_some (AtBudget s.final end next None) (literal_bytes Budget) 0 (s.rest end) (s.holds end));
    }

some_first : (known : Known) → Completed (λ final end rest. AtFirst final end known rest)
some_first known =
    let s : Completed (λ final end rest. AtCores final end known None rest) = some_cores known None tt in
    record {
      final = s.final;
      rest = λ end. 10 ∷ (literal_bytes Cores ++ s.rest end);
      holds = λ end. (literal_bytes Cores ++ s.rest end, refl, text_some (AtCores s.final end known None) (literal_bytes Cores) 0 (s.rest end) (s.holds end));
    }

some_version : (known : Known) → Completed (λ final end rest. AtVersion final end known rest)
some_version known =
    let s : Completed (λ final end rest. AtFirst final end (record known { version = 1 }) rest) = some_first (record known { version = 1 }) in
    record { final = s.final; rest = λ end. 49 ∷ s.rest end; holds = λ end. (1, s.rest end, refl, inl refl, (s.holds end)) }

some_line : (line : TopLine) (known : Known) → Completed (λ final end rest. HeadCompletes final end known (LineEnd line) rest)
some_line First known = some_first known
some_line Second known = some_second known

some_word : (word : Literal) (known : Known) → Completed (λ final end rest. FollowsLiteral final end word known rest)
some_word Orsched known = some_version known
some_word Cores known = some_cores known None tt
some_word Budget known = some_budget known None tt
some_word Ram known = some_ram known None tt
some_word Latched known = some_second known
some_word Image known = some_image known [] tt (omega arith)
some_word Input known = some_input known [] tt (omega arith)

some_digits : (line : DigestLine) (known : Known) (count : ℕ) (high : Option ℕ) → AreDigests known → HeadSound (Digits line count high)
    → Completed (λ final end rest. HeadCompletes final end known (Digits line count high) rest)
some_digits ImageLine known count high are sound =
    some_image known (digits_so_far known.image count high) (so_far_hex known.image count high are.0 sound.1) (so_far_short known.image count high sound.0 sound.1)
some_digits InputLine known count high are sound =
    some_input known (digits_so_far known.input count high) (so_far_hex known.input count high are.1 sound.1) (so_far_short known.input count high sound.0 sound.1)

some_number : (field : Field) (known : Known) (number : Option ℕ) → HeadSound (Number field number) → Completed (λ final end rest. HeadCompletes final end known (Number field number) rest)
some_number CoresField known number sound = some_cores known number sound
some_number BudgetField known number sound = some_budget known number sound
some_number RamField known number sound = some_ram known number sound

pub head_completes : (known : Known) (place : HeadPlace) → AreDigests known → HeadSound place → Completed (λ final end rest. HeadCompletes final end known place rest)
head_completes known (Text word seen) are sound =
    let s : Completed (λ final end rest. FollowsLiteral final end word known rest) = some_word word known in
    record { final = s.final; rest = λ end. drop seen (literal_bytes word) ++ s.rest end; holds = λ end. text_some (FollowsLiteral s.final end word known) (literal_bytes word) seen (s.rest end) (s.holds end) }
head_completes known Version are sound = some_version known
head_completes known (Number field number) are sound = some_number field known number sound
head_completes known (LineEnd line) are sound = some_line line known
head_completes known (Digits line count high) are sound = some_digits line known count high are sound
head_completes known Behind are sound = record { final = known; rest = λ end. end; holds = λ end. (refl, refl) }
