-- A byte at each place.
use Rattle.std.proofs.Common.{◌≡◌, ◌≢◌, ◌∙◌, sym, ap, subst, ℕ, List, ◌++◌, ◌∷◌, [], ◌+◌, ◌-◌, ◌*◌, ◌^◌, ◌≤◌, ◌<◌, decimal, append-nil, arith, refl, max, Option, Some, None, inl, inr}
use Rattle.or_sched.specs.declared.places.Limits.{Limits}
use Rattle.or_sched.specs.declared.places.Block.{Block}
use Rattle.or_sched.specs.declared.places.Begun.{Begun}
use Rattle.or_sched.specs.declared.places.Place.{Place}
use Rattle.or_sched.specs.declared.places.Place.TheVariants.{First, Run, Line, Writes, Console}
use Rattle.or_sched.specs.RunRests.{InRun, AtLine}
use Rattle.or_sched.proofs.RunPlaces.{AtRun}
use Rattle.or_sched.specs.BlockRests.{Later, items, Behind}
use Rattle.or_sched.specs.Places.{Decoded, Marked, Onward, IsSound, AreLimits, Leads, StepKeeps, StepRefuses, OpenIs, DigitIs, DigitTo}
use Rattle.or_sched.proofs.Steps.{digit_on, digit_back, run_on, run_back}
use Rattle.or_sched.proofs.Fields.{field_end, field_end_back, field_value, field_none}
use Rattle.or_sched.proofs.PlaceLemmas.{nothing_behind}

-- no letter of another core comes, nor anything else
pub first_dooms : (limits : Limits) (block : Block) (byte : ℕ) → OpenIs limits limits.cores 15 block byte None → StepRefuses limits (First block) byte
first_dooms limits block byte none = λ rest decoded t. none rest t.all t.later t.holds

pub line_dooms : (limits : Limits) (core : ℕ) (block : Block) (byte : ℕ) → 1 ≤ block.left → OpenIs limits core 15 block byte None → StepRefuses limits (Line core block) byte
line_dooms limits core block byte some none = λ rest decoded t. at rest t.all t.later t.holds
  where
    at : (rest : List ℕ) (all : List (ℕ × ℕ)) (later : Later) → AtLine (Behind limits block.behind) limits.cores core block.left (byte ∷ rest) all later → ⊥
    at rest all later (inl e) = let no : byte ∷ rest ≡ [] = (nothing_behind limits block.behind block.left (byte ∷ rest) later some e.1).0 in cc
    at rest all later (inr r) = none rest all later r

pub digit_dooms : (limits : Limits) (begun : Begun) (digit next : ℕ) → AreLimits limits → IsSound limits (Run begun) → digit < 10 → next ≡ 10 * begun.number + digit
    → (0 < next → next ≤ begun.block.left → (next ≡ 1 → 10 ≤ begun.block.left) → ⊥) → StepRefuses limits (Run begun) (48 + digit)
digit_dooms limits begun digit next are sound small is_next bad = λ rest decoded t.
    let low : begun.block.left < 2 ^ 32 = omega (arith, are.turns, sound.2.0) in
    let small_next : next < 2 ^ 64 = omega (arith, sound.3) in
    let on : (0 < next) × (next ≤ begun.block.left) × (next ≡ 1 → 10 ≤ begun.block.left)
    × InRun (Behind limits begun.block.behind) limits.cores begun.core next begun.room begun.block.left rest t.all t.later =
    digit_on (Behind limits begun.block.behind) limits.cores begun.core begun.number begun.room begun.block.left digit next rest t.all t.later
    small is_next small_next (omega arith) t.holds in
    bad on.0 on.1 on.2

pub digit_moves : (limits : Limits) (begun : Begun) (digit next : ℕ) → AreLimits limits → IsSound limits (Run begun) → digit < 10 → next ≡ 10 * begun.number + digit
    → 0 < next → StepKeeps limits (Run begun) (48 + digit) [] (Run (record { core = begun.core; number = next; room = begun.room; block = begun.block }))
digit_moves limits begun digit next are sound small is_next some =
    let low : begun.block.left < 2 ^ 32 = omega (arith, are.turns, sound.2.0) in
    let small_next : next < 2 ^ 64 = omega (arith, sound.3) in
    let small_left : begun.block.left < 2 ^ 64 = omega arith in
    record {
      keeps = λ rest decoded t. (
        decoded,
        refl,
        record {
          all = t.all;
          later = t.later;
          parts = t.parts;
          holds =
              (digit_on (Behind limits begun.block.behind) limits.cores begun.core begun.number begun.room begun.block.left digit next rest t.all t.later
              small is_next small_next small_left t.holds).3;
        },
      );
      back = λ rest decoded t. record {
        all = t.all;
        later = t.later;
        parts = t.parts;
        holds =
            digit_back (Behind limits begun.block.behind) limits.cores begun.core begun.number begun.room begun.block.left digit next rest t.all t.later
            small is_next some small_next t.holds;
      };
    }

-- the run as it stands where it ends
abbrev pub Ended : Limits → Begun → ℕ → List ℕ → List (ℕ × ℕ) → Later → Type 0
Ended limits begun count rest all later =
    AtRun (Behind limits begun.block.behind) limits.cores begun.core begun.room (begun.block.left - count) rest all later

module _ (limits : Limits) (begun : Begun) (byte count : ℕ) (are : AreLimits limits) (sound : IsSound limits (Run begun))
    (no_digit : 48 ≤ byte → byte ≤ 57 → ⊥) where
  pub lone_dooms : begun.number ≡ 1 → StepRefuses limits (Run begun) byte
  lone_dooms lone = λ rest decoded t.
      (run_on (Behind limits begun.block.behind) limits.cores begun.core begun.number begun.room begun.block.left byte rest t.all t.later
      no_digit (omega (arith, sound.3, sound.2.0, are.turns)) (omega (arith, sound.2.0, are.turns)) t.holds).0 lone

  pub end_dooms : count ≡ max 1 begun.number → ((rest : List ℕ) (all : List (ℕ × ℕ)) (later : Later) → Ended limits begun count (byte ∷ rest) all later → ⊥)
      → StepRefuses limits (Run begun) byte
  end_dooms is_count bad = λ rest decoded t.
      let on : (begun.number ≢ 1) × (max 1 begun.number ≤ begun.block.left) × (others : List (ℕ × ℕ)) × (t.all ≡ (begun.core, max 1 begun.number) ∷ others)
      × Ended limits begun (max 1 begun.number) (byte ∷ rest) others t.later =
      run_on (Behind limits begun.block.behind) limits.cores begun.core begun.number begun.room begun.block.left byte rest t.all t.later
      no_digit (omega (arith, sound.3, sound.2.0, are.turns)) (omega (arith, sound.2.0, are.turns)) t.holds in
      bad rest on.2 t.later (subst (λ k. Ended limits begun k (byte ∷ rest) on.2 t.later) (sym is_count) on.4)

  pub end_moves : (place : Place) (P : List ℕ → List (ℕ × ℕ) → Later → Type 0) → count ≡ max 1 begun.number → begun.number ≢ 1
      → ((rest : List ℕ) (all : List (ℕ × ℕ)) (later : Later) → Ended limits begun count (byte ∷ rest) all later → P rest all later)
      → ((rest : List ℕ) (all : List (ℕ × ℕ)) (later : Later) → P rest all later → Ended limits begun count (byte ∷ rest) all later)
      → Leads limits place P → StepKeeps limits (Run begun) byte (inl (begun.core, count) ∷ []) place
  end_moves place P is_count whole on off leads = record {
    keeps = λ rest decoded t.
        let at : (begun.number ≢ 1) × (max 1 begun.number ≤ begun.block.left) × (others : List (ℕ × ℕ)) × (t.all ≡ (begun.core, max 1 begun.number) ∷ others)
        × Ended limits begun (max 1 begun.number) (byte ∷ rest) others t.later =
        run_on (Behind limits begun.block.behind) limits.cores begun.core begun.number begun.room begun.block.left byte rest t.all t.later
        no_digit (omega (arith, sound.3, sound.2.0, are.turns)) (omega (arith, sound.2.0, are.turns)) t.holds in (
          items at.2 t.later,
          t.parts ∙ ap (λ k. items k t.later) at.3 ∙ ap (λ k. inl (begun.core, k) ∷ items at.2 t.later) (sym is_count),
          leads.there rest at.2 t.later (on rest at.2 t.later (subst (λ k. Ended limits begun k (byte ∷ rest) at.2 t.later) (sym is_count) at.4)),
        );
    back = λ rest others r.
        let t : Decoded others (P rest) = leads.back rest others r in
        let at : Ended limits begun (max 1 begun.number) (byte ∷ rest) t.all t.later =
        subst (λ k. Ended limits begun k (byte ∷ rest) t.all t.later) is_count (off rest t.all t.later t.holds) in
        record {
          all = (begun.core, max 1 begun.number) ∷ t.all;
          later = t.later;
          parts = ap (λ k. inl (begun.core, k) ∷ others) is_count ∙ ap (λ os. inl (begun.core, max 1 begun.number) ∷ os) t.parts;
          holds = run_back (Behind limits begun.block.behind) limits.cores begun.core begun.number begun.room begun.block.left (byte ∷ rest) t.all t.later
              whole (omega (arith, sound.1, sound.3)) at;
        };
  }

-- in a run
pub run_leads : (limits : Limits) (begun : Begun)
    → Leads limits (Run begun) (λ rest all later. InRun (Behind limits begun.block.behind) limits.cores begun.core begun.number begun.room begun.block.left rest all later)
run_leads limits begun = record { there = λ rest all later r. record { all = all; later = later; parts = refl; holds = r }; back = λ rest decoded r. r }

-- a mark's numbers
pub writes_digit : (limits : Limits) (number : Option ℕ) (total byte next : ℕ) → DigitTo number byte (limits.turns - total) next
    → StepKeeps limits (Writes number total) byte [] (Writes (Some next) total)
writes_digit limits number total byte next digit = record {
  keeps = λ rest decoded r. (decoded, refl, (r.0, r.1, digit.there 32 r.0.writes (decimal r.0.console ++ 10 ∷ r.1) rest (omega arith) r.3.writes r.2, r.3));
  back = λ rest decoded r. (r.0, r.1, digit.back 32 r.0.writes (decimal r.0.console ++ 10 ∷ r.1) rest r.2, r.3);
}

pub writes_no_digit : (limits : Limits) (number : Option ℕ) (total byte : ℕ) → DigitIs number byte (limits.turns - total) None → StepRefuses limits (Writes number total) byte
writes_no_digit limits number total byte none = λ rest decoded r. none 32 r.0.writes (decimal r.0.console ++ 10 ∷ r.1) rest (omega arith) r.3.writes r.2

pub writes_no_end : (limits : Limits) (number : Option ℕ) (total byte : ℕ) → AreLimits limits → (48 ≤ byte → byte ≤ 57 → ⊥) → byte ≢ 32 → StepRefuses limits (Writes number total) byte
writes_no_end limits number total byte are no_digit other = λ rest decoded r.
    other (field_end number 32 r.0.writes byte (decimal r.0.console ++ 10 ∷ r.1) rest no_digit (omega (arith, r.3.writes, are.turns)) r.2).0

pub writes_none : (limits : Limits) (number : Option ℕ) (total byte : ℕ) → AreLimits limits → (48 ≤ byte → byte ≤ 57 → ⊥) → number ≡ None → StepRefuses limits (Writes number total) byte
writes_none limits (Some n) total byte are no_digit none = let no : Some n ≡ None = none in λ rest decoded r. cc
writes_none limits None total byte are no_digit none = λ rest decoded r.
    field_none r.0.writes (omega (arith, r.3.writes, are.turns))
    (field_end None 32 r.0.writes byte (decimal r.0.console ++ 10 ∷ r.1) rest no_digit (omega (arith, r.3.writes, are.turns)) r.2).1

pub writes_end : (limits : Limits) (n total : ℕ) → AreLimits limits → n ≤ limits.turns - total
    → StepKeeps limits (Writes (Some n) total) 32 [] (Console n None total)
writes_end limits n total are fits = record {
  keeps = λ rest decoded r.
      let large : r.0.writes < 2 ^ 64 = omega (arith, r.3.writes, are.turns) in
      let end : (32 ≡ 32) × (decimal n ≡ decimal r.0.writes) × (rest ≡ decimal r.0.console ++ 10 ∷ r.1) =
      field_end (Some n) 32 r.0.writes 32 (decimal r.0.console ++ 10 ∷ r.1) rest (λ low high. omega arith) large r.2 in
      let same : n ≡ r.0.writes = field_value n r.0.writes (omega (arith, are.turns)) large end.1 in (
        decoded,
        refl,
        (
          r.0.console,
          r.1,
          record { tail = decimal r.0.console; digits = refl; text = end.2 },
          subst (λ k. Marked limits total decoded (record { writes = k; console = r.0.console }) r.1) (sym same) r.3,
        ),
      );
  back = λ rest decoded r. (
    record { writes = n; console = r.0 },
    r.1,
    record { tail = []; digits = append-nil (decimal n); text = ap (λ t. 32 ∷ t) (r.2.text ∙ ap (λ t. t ++ 10 ∷ r.1) r.2.digits) },
    r.3,
  );
}

pub console_digit : (limits : Limits) (writes : ℕ) (number : Option ℕ) (total byte next : ℕ) → DigitTo number byte (limits.turns - total) next
    → StepKeeps limits (Console writes number total) byte [] (Console writes (Some next) total)
console_digit limits writes number total byte next digit = record {
  keeps = λ rest decoded r. (decoded, refl, (r.0, r.1, digit.there 10 r.0 r.1 rest (omega arith) r.3.console r.2, r.3));
  back = λ rest decoded r. (r.0, r.1, digit.back 10 r.0 r.1 rest r.2, r.3);
}

pub console_no_digit : (limits : Limits) (writes : ℕ) (number : Option ℕ) (total byte : ℕ) → DigitIs number byte (limits.turns - total) None → StepRefuses limits (Console writes number total) byte
console_no_digit limits writes number total byte none = λ rest decoded r. none 10 r.0 r.1 rest (omega arith) r.3.console r.2

pub console_no_end : (limits : Limits) (writes : ℕ) (number : Option ℕ) (total byte : ℕ) → AreLimits limits → (48 ≤ byte → byte ≤ 57 → ⊥) → byte ≢ 10 → StepRefuses limits (Console writes number total) byte
console_no_end limits writes number total byte are no_digit other = λ rest decoded r.
    other (field_end number 10 r.0 byte r.1 rest no_digit (omega (arith, r.3.console, are.turns)) r.2).0

pub console_none : (limits : Limits) (writes : ℕ) (number : Option ℕ) (total byte : ℕ) → AreLimits limits → (48 ≤ byte → byte ≤ 57 → ⊥) → number ≡ None → StepRefuses limits (Console writes number total) byte
console_none limits writes (Some n) total byte are no_digit none = let no : Some n ≡ None = none in λ rest decoded r. cc
console_none limits writes None total byte are no_digit none = λ rest decoded r.
    field_none r.0 (omega (arith, r.3.console, are.turns)) (field_end None 10 r.0 byte r.1 rest no_digit (omega (arith, r.3.console, are.turns)) r.2).1

pub console_end : (limits : Limits) (writes n total : ℕ) (place : Place) → AreLimits limits → writes ≤ limits.turns - total → n ≤ limits.turns - total
    → Leads limits place (λ rest all later. Onward limits total rest all later)
    → StepKeeps limits (Console writes (Some n) total) 10 (inr (record { writes = writes; console = n }) ∷ []) place
console_end limits writes n total place are fits_writes fits leads = record {
  keeps = λ rest decoded r.
      let large : r.0 < 2 ^ 64 = omega (arith, r.3.console, are.turns) in
      let end : (10 ≡ 10) × (decimal n ≡ decimal r.0) × (rest ≡ r.1) = field_end (Some n) 10 r.0 10 r.1 rest (λ low high. omega arith) large r.2 in
      let same : n ≡ r.0 = field_value n r.0 (omega (arith, are.turns)) large end.1 in (
        items r.3.all r.3.later,
        r.3.parts ∙ ap (λ k. inr (record { writes = writes; console = k }) ∷ items r.3.all r.3.later) (sym same),
        leads.there rest r.3.all r.3.later (subst (λ t. Onward limits total t r.3.all r.3.later) (sym end.2) r.3.onward),
      );
  back = λ rest others r.
      let t : Decoded others (λ all later. Onward limits total rest all later) = leads.back rest others r in (
        n,
        rest,
        field_end_back 10 n rest,
        record {
          all = t.all;
          later = t.later;
          parts = ap (λ os. inr (record { writes = writes; console = n }) ∷ os) t.parts;
          writes = fits_writes;
          console = fits;
          onward = t.holds;
        },
      );
}
