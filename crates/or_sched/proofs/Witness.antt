-- Each place that a reader comes to is completed by some text.
use Rattle.std.proofs.Common.{◌≡◌, ◌≢◌, ◌∙◌, sym, ap, ℕ, zero, suc, List, ◌++◌, ◌∷◌, [], ◌-◌, ◌≤◌, decimal, append-nil, arith, refl, max, Option, Some, None, inl, inr, ◌⊎◌, take, drop}
use Rattle.std.proofs.lemmas.List.{take-append-drop, append_assoc}
use Rattle.std.specs.Prelude.{codes}
use Rattle.or_sched.specs.declared.recording.Mark.{Mark}
use Rattle.or_sched.specs.declared.places.Limits.{Limits}
use Rattle.or_sched.specs.declared.places.Begun.{Begun}
use Rattle.or_sched.specs.declared.places.Place.{Place}
use Rattle.or_sched.specs.declared.places.Place.TheVariants.{First, Run, Line, Word, Writes, Console, Done}
use Rattle.or_sched.specs.Blocks.{Item, mark_line}
use Rattle.or_sched.specs.BlockRests.{Later, items, Behind}
use Rattle.or_sched.specs.Places.{Completes, Marked, InNumber, IsSound, IsNumberBelow, AreLimits}
use Rattle.or_sched.proofs.Steps.{digit_back, run_back, opens_back, short_back}
use Rattle.or_sched.proofs.PlaceLemmas.{is_nothing_onward}
use Rattle.or_sched.proofs.Fields.{field_end_back}

-- some text completion the place
pub record Completion (limits : Limits) (place : Place) : Type 0 where
  pub rest : List ℕ
  pub decoded : List Item
  pub rests : Completes limits place rest decoded

-- what can stand behind any block
record Some_behind (limits : Limits) (behind : Option ℕ) (left : ℕ) : Type 0 where
  pub text : List ℕ
  pub later : Later
  pub holds : Behind limits behind left text later

some_behind : (limits : Limits) (behind : Option ℕ) (left : ℕ) → Some_behind limits behind left
some_behind limits None left = record { text = []; later = []; holds = (refl, refl) }
some_behind limits (Some total) (suc left) = record { text = []; later = []; holds = (refl, refl) }
some_behind limits (Some total) zero =
    let mark : Mark = record { writes = 0; console = 0 } in
    record { text = mark_line mark; later = (mark, []) ∷ []; holds = (refl, omega arith, omega arith, refl) }

-- a run that may end here ends its line and its block
run_whole : (limits : Limits) (begun : Begun) → 1 ≤ begun.block.left → begun.number ≤ begun.block.left → begun.number ≢ 1 → Completion limits (Run begun)
run_whole limits begun some fits whole =
    let s : Some_behind limits begun.block.behind (begun.block.left - max 1 begun.number) = some_behind limits begun.block.behind (begun.block.left - max 1 begun.number) in
    record {
      rest = 10 ∷ s.text;
      decoded = items ((begun.core, max 1 begun.number) ∷ []) s.later;
      rests = record {
        all = (begun.core, max 1 begun.number) ∷ [];
        later = s.later;
        parts = refl;
        holds = run_back (Behind limits begun.block.behind) limits.cores begun.core begun.number begun.room begun.block.left (10 ∷ s.text) [] s.later whole (omega arith)
            (short_back (Behind limits begun.block.behind) limits.cores begun.core begun.room (begun.block.left - max 1 begun.number) s.text [] s.later (refl, s.holds));
      };
    }

-- a lone 1 goes on as 10
run_lone : (limits : Limits) (begun : Begun) → begun.number ≡ 1 → 10 ≤ begun.block.left → Completion limits (Run begun)
run_lone limits begun lone fits =
    let next : Begun = record { core = begun.core; number = 10; room = begun.room; block = begun.block } in
    let whole : Completion limits (Run next) = run_whole limits next (omega arith) fits (λ e. omega arith) in
    record {
      rest = 48 ∷ whole.rest;
      decoded = whole.decoded;
      rests = record {
        all = whole.rests.all;
        later = whole.rests.later;
        parts = whole.rests.parts;
        holds = digit_back (Behind limits begun.block.behind) limits.cores begun.core begun.number begun.room begun.block.left 0 10 whole.rest whole.rests.all whole.rests.later
            (omega arith) (omega (arith, lone)) (omega arith) (omega arith) whole.rests.holds;
      };
    }

run_some : (limits : Limits) (begun : Begun) → IsSound limits (Run begun) → (begun.number ≡ 1) ⊎ (begun.number ≢ 1) → Completion limits (Run begun)
run_some limits begun sound (inl lone) = run_lone limits begun lone (sound.4 lone)
run_some limits begun sound (inr whole) = run_whole limits begun sound.1 sound.3 whole

is_one : (n : ℕ) → (n ≡ 1) ⊎ (n ≢ 1)
is_one zero = inr (λ e. omega arith)
is_one (suc zero) = inl refl
is_one (suc (suc n)) = inr (λ e. omega arith)

-- a mark behind which nothing comes
ends_there : (limits : Limits) (total : ℕ) (mark : Mark) → AreLimits limits → mark.writes ≤ limits.turns - total → mark.console ≤ limits.turns - total
    → Marked limits total (inr mark ∷ []) mark []
ends_there limits total mark are writes console = record {
  all = [];
  later = [];
  parts = refl;
  writes = writes;
  console = console;
  onward = inl (refl, is_nothing_onward limits total are);
}

-- the digits that have come, or 0 where none have
abbrev whole_number : Option ℕ → ℕ
whole_number None = 0
whole_number (Some n) = n

abbrev number_left : Option ℕ → List ℕ
number_left None = decimal 0
number_left (Some n) = []

number_whole : (number : Option ℕ) (end : ℕ) (more : List ℕ) → InNumber number end (whole_number number) more (number_left number ++ end ∷ more)
number_whole None end more = record { tail = decimal 0; digits = refl; text = refl }
number_whole (Some n) end more = field_end_back end n more

number_fits : (number : Option ℕ) (most : ℕ) → IsNumberBelow number most → whole_number number ≤ most
number_fits None most fits = omega arith
number_fits (Some n) most fits = fits

-- every sound place is completed
pub completion : (limits : Limits) (place : Place) → AreLimits limits → IsSound limits place → Completion limits place
completion limits (First block) are sound =
    let begun : Begun = record { core = 0; number = 0; room = 15; block = block } in
    let run : Completion limits (Run begun) = run_whole limits begun sound.0 (omega arith) (λ e. omega arith) in
    let differs : 0 ≢ limits.cores = λ e. omega (arith, are.cores) in
    record {
      rest = 97 ∷ run.rest;
      decoded = run.decoded;
      rests = record {
        all = run.rests.all;
        later = run.rests.later;
        parts = run.rests.parts;
        holds = opens_back (Behind limits block.behind) limits.cores limits.cores 15 block.left 0 run.rest run.rests.all run.rests.later (omega (arith, are.cores)) differs run.rests.holds;
      };
    }
completion limits (Run begun) are sound = run_some limits begun sound (is_one begun.number)
completion limits (Line core block) are sound = record { rest = []; decoded = []; rests = record { all = []; later = []; parts = refl; holds = inl (refl, nothing block.behind block.left sound.0) } }
  where
    nothing : (behind : Option ℕ) (left : ℕ) → 1 ≤ left → Behind limits behind left [] []
    nothing None left some = (refl, refl)
    nothing (Some total) zero some = absurd (omega arith)
    nothing (Some total) (suc left) some = (refl, refl)
completion limits (Word seen total) are sound =
    let mark : Mark = record { writes = 0; console = 0 } in
    let behind : List ℕ = decimal 0 ++ (32 ∷ (decimal 0 ++ 10 ∷ [])) in
    record {
      rest = drop seen (codes "mark ") ++ behind;
      decoded = inr mark ∷ [];
      rests = (
        mark,
        [],
        sym (append_assoc (take seen (codes "mark ")) (drop seen (codes "mark ")) behind) ∙ ap (λ t. t ++ behind) (take-append-drop seen (codes "mark ")) ∙ sym (append-nil (mark_line mark)),
        ends_there limits total mark are (omega arith) (omega arith),
      );
    }
completion limits (Writes number total) are sound =
    let mark : Mark = record { writes = whole_number number; console = 0 } in
    record {
      rest = number_left number ++ 32 ∷ (decimal 0 ++ 10 ∷ []);
      decoded = inr mark ∷ [];
      rests = (mark, [], number_whole number 32 (decimal 0 ++ 10 ∷ []), ends_there limits total mark are (number_fits number (limits.turns - total) sound.0) (omega arith));
    }
completion limits (Console writes number total) are sound =
    let mark : Mark = record { writes = writes; console = whole_number number } in
    record {
      rest = number_left number ++ 10 ∷ [];
      decoded = inr mark ∷ [];
      rests = (whole_number number, [], number_whole number 10 [], ends_there limits total mark are sound.1 (number_fits number (limits.turns - total) sound.0));
    }
completion limits Done are sound = record { rest = []; decoded = []; rests = (refl, refl) }
