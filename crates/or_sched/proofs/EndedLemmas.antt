-- The runs and marks that have ended, as bytes come.
use Rattle.std.proofs.Common.{◌≡◌, ◌∙◌, sym, ap, subst, ℕ, zero, suc, List, ◌++◌, ◌∷◌, [], ◌+◌, ◌-◌, ◌≤◌, ◌<◌, append-nil, arith, refl, length, length-append, inl, inr, ◌⊎◌, decimal}
use Rattle.std.specs.Prelude.{codes}
use Rattle.std.proofs.lemmas.Bool.Decides.{nat_tests}
use Rattle.or_sched.specs.declared.places.Limits.{Limits}
use Rattle.or_sched.specs.declared.recording.Mark.{Mark}
use Rattle.or_sched.specs.declared.places.Begun.{Begun}
use Rattle.or_sched.specs.declared.places.Place.{Place}
use Rattle.or_sched.specs.declared.places.Place.TheVariants.{First, Run, Line, Word, Writes, Console, Done}
use Rattle.or_sched.specs.declared.places.Step.TheVariants.{Goes, EndsRun, EndsMark}
use Rattle.or_sched.specs.Runs.{count_text}
use Rattle.or_sched.specs.RunRests.{number_text, AtLine}
use Rattle.or_sched.specs.Blocks.{Item, mark_line}
use Rattle.or_sched.specs.BlockRests.{Later, items, Behind}
use Rattle.or_sched.specs.Places.{Completes, IsSound, digits_text}
use Rattle.or_sched.proofs.PlaceLemmas.{nothing_behind}
use Rattle.or_sched.specs.Ended.{run_length, room_after, mark_length, ended_in, Passed, PlaceAt, StepPlaces, EndedItems}

run_ended : (room n : ℕ) (run : ℕ × ℕ) (others : List Item) → run_length room run < n
    → ended_in room n (inl run ∷ others) ≡ inl run ∷ ended_in (room_after room) (n - run_length room run) others
run_ended room n run others ends = grind (arith, nat_tests)

pub run_open : (room n : ℕ) (run : ℕ × ℕ) (others : List Item) → n ≤ run_length room run → ended_in room n (inl run ∷ others) ≡ []
run_open room n run others short = grind (arith, nat_tests)

mark_ended : (room n : ℕ) (mark : Mark) (others : List Item) → mark_length mark ≤ n
    → ended_in room n (inr mark ∷ others) ≡ inr mark ∷ ended_in 16 (n - mark_length mark) others
mark_ended room n mark others ends = grind (arith, nat_tests)

pub mark_open : (room n : ℕ) (mark : Mark) (others : List Item) → n < mark_length mark → ended_in room n (inr mark ∷ others) ≡ []
mark_open room n mark others short = grind (arith, nat_tests)

-- those that have passed are the front of those that have ended
pub passed_ended : (ended others : List Item) (room n room' n' : ℕ) → Passed room n ended room' n' → ended_in room n (ended ++ others) ≡ ended ++ ended_in room' n' others
passed_ended [] others room n room' n' p = ap (λ k. ended_in k n others) p.0 ∙ ap (λ k. ended_in room' k others) p.1
passed_ended (inl run ∷ ended) others room n room' n' p =
    run_ended room n run (ended ++ others) p.0 ∙ ap (λ t. inl run ∷ t) (passed_ended ended others (room_after room) (n - run_length room run) room' n' p.1)
passed_ended (inr mark ∷ ended) others room n room' n' p =
    mark_ended room n mark (ended ++ others) p.0 ∙ ap (λ t. inr mark ∷ t) (passed_ended ended others 16 (n - mark_length mark) room' n' p.1)

-- a byte more
pub passed_more : (ended : List Item) (room n room' n' : ℕ) → Passed room n ended room' n' → Passed room (n + 1) ended room' (n' + 1)
passed_more [] room n room' n' p = (p.0, omega (arith, p.1))
passed_more (inl run ∷ ended) room n room' n' p =
    let less : n - run_length room run + 1 ≡ n + 1 - run_length room run = omega (arith, p.0) in
    (omega (arith, p.0), subst (λ k. Passed (room_after room) k ended room' (n' + 1)) less (passed_more ended (room_after room) (n - run_length room run) room' n' p.1))
passed_more (inr mark ∷ ended) room n room' n' p =
    let less : n - mark_length mark + 1 ≡ n + 1 - mark_length mark = omega (arith, p.0) in
    (omega (arith, p.0), subst (λ k. Passed 16 k ended room' (n' + 1)) less (passed_more ended 16 (n - mark_length mark) room' n' p.1))

-- and what ends at it
pub passed_then : (ended decoded : List Item) (room n room' n' room'' n'' : ℕ) → Passed room n ended room' n' → Passed room' n' decoded room'' n'' → Passed room n (ended ++ decoded) room'' n''
passed_then [] decoded room n room' n' room'' n'' p q = subst (λ k. Passed k n decoded room'' n'') (sym p.0) (subst (λ k. Passed room' k decoded room'' n'') (sym p.1) q)
passed_then (inl run ∷ ended) decoded room n room' n' room'' n'' p q = (p.0, passed_then ended decoded (room_after room) (n - run_length room run) room' n' room'' n'' p.1 q)
passed_then (inr mark ∷ ended) decoded room n room' n' room'' n'' p q = (p.0, passed_then ended decoded 16 (n - mark_length mark) room' n' room'' n'' p.1 q)

-- behind a line feed, or at the beginning of a line, no run has ended yet
line_open : (all : List (ℕ × ℕ)) (later : Later) (room n : ℕ) → n ≤ 1 → (0 < length all) ⊎ (later ≡ []) → ended_in room n (items all later) ≡ []
line_open [] later room n low (inl some) = absurd (omega arith)
line_open [] later room n low (inr none) = ap (λ l. ended_in room n (items [] l)) none
line_open (run ∷ others) later zero n low some = run_open zero n run (items others later) (omega arith)
line_open (run ∷ others) later (suc room) n low some = run_open (suc room) n run (items others later) (omega arith)

in_run_open : (begun : Begun) (all : List (ℕ × ℕ)) (later : Later) (room n count : ℕ) (others : List (ℕ × ℕ)) (tail : List ℕ)
    → all ≡ (begun.core, count) ∷ others → number_text begun.number ++ tail ≡ count_text count
    → PlaceAt (Run begun) room n → ended_in room n (items all later) ≡ []
in_run_open begun all later zero n count others tail parts digits (inl e) = absurd (omega (arith, e.0))
in_run_open begun all later (suc room) n count others tail parts digits (inl e) =
    ap (λ k. ended_in (suc room) n (items k later)) parts
    ∙ run_open (suc room) n (begun.core, count) (items others later) (omega (arith, e.1, ap length digits, length-append (number_text begun.number) tail))
in_run_open begun all later zero n count others tail parts digits (inr e) =
    ap (λ k. ended_in zero n (items k later)) parts
    ∙ run_open zero n (begun.core, count) (items others later) (omega (arith, e.2, ap length digits, length-append (number_text begun.number) tail))
in_run_open begun all later (suc room) n count others tail parts digits (inr e) = absurd (omega (arith, e.0))

pub mark_long : (mark : Mark) → length (mark_line mark) ≡ 7 + length (decimal mark.writes) + length (decimal mark.console)
mark_long mark =
    omega (
      arith,
      length-append (codes "mark ") (decimal mark.writes ++ (32 ∷ (decimal mark.console ++ 10 ∷ []))),
      length-append (decimal mark.writes) (32 ∷ (decimal mark.console ++ 10 ∷ [])),
      length-append (decimal mark.console) (10 ∷ []),
    )

pub place_open : (limits : Limits) (place : Place) (rest : List ℕ) (decoded : List Item) (room n : ℕ) → IsSound limits place → PlaceAt place room n
    → Completes limits place rest decoded → ended_in room n decoded ≡ []
place_open limits (First block) rest decoded room n sound at t =
    ap (ended_in room n) t.parts ∙ line_open t.all t.later room n (omega (arith, at.1)) (inl (omega (arith, ap length t.holds.run.parts)))
place_open limits (Run begun) rest decoded room n sound at t =
    ap (ended_in room n) t.parts ∙ in_run_open begun t.all t.later room n t.holds.count t.holds.others t.holds.tail t.holds.parts t.holds.digits at
place_open limits (Line core block) rest decoded room n sound at t =
    ap (ended_in room n) t.parts ∙ line_open t.all t.later room n (low at) (some t.holds)
  where
    low : PlaceAt (Line core block) room n → n ≤ 1
    low (inl e) = omega (arith, e.1)
    low (inr e) = omega (arith, e.1)

    some : AtLine (Behind limits block.behind) limits.cores core block.left rest t.all t.later → (0 < length t.all) ⊎ (t.later ≡ [])
    some (inl e) = inr (nothing_behind limits block.behind block.left rest t.later sound.0 e.1).1
    some (inr r) = inl (omega (arith, ap length r.run.parts))
place_open limits (Word seen total) rest decoded room n sound at t =
    ap (ended_in room n) t.3.parts ∙ mark_open room n t.0 (items t.3.all t.3.later) (omega (arith, at, mark_long t.0, sound.0))
place_open limits (Writes number total) rest decoded room n sound at t =
    ap (ended_in room n) t.3.parts ∙ mark_open room n t.0 (items t.3.all t.3.later)
    (omega (arith, at, mark_long t.0, ap length t.2.digits, length-append (digits_text number) t.2.tail))
place_open limits (Console writes number total) rest decoded room n sound at t =
    ap (ended_in room n) t.3.parts ∙ mark_open room n (record { writes = writes; console = t.0 }) (items t.3.all t.3.later)
    (omega (arith, at, mark_long (record { writes = writes; console = t.0 }), ap length t.2.digits, length-append (digits_text number) t.2.tail))
place_open limits Done rest decoded room n sound at t = ap (ended_in room n) t.1

-- what a byte makes of the bytes behind the last that ended
pub record Counted (decoded : List Item) (next : Place) (room n : ℕ) : Type 0 where
  pub room_next : ℕ
  pub behind : ℕ
  pub passed : Passed room (n + 1) decoded room_next behind
  pub place_at : PlaceAt next room_next behind

pub counts_goes : (place next : Place) → StepPlaces place (Goes next) → (room n : ℕ) → PlaceAt place room n → Counted [] next room n
counts_goes place next step room n at = record { room_next = room; behind = n + 1; passed = (refl, refl); place_at = step room n at }

pub counts_run : (place next : Place) (core count : ℕ) → StepPlaces place (EndsRun core count next) → (room n : ℕ) → PlaceAt place room n
    → Counted (inl (core, count) ∷ []) next room n
counts_run place next core count step room n at =
    record { room_next = room_after room; behind = n + 1 - run_length room (core, count); passed = ((step room n at).0, (refl, refl)); place_at = (step room n at).1 }

pub counts_mark : (place next : Place) (mark : Mark) → StepPlaces place (EndsMark mark next) → (room n : ℕ) → PlaceAt place room n
    → Counted (inr mark ∷ []) next room n
counts_mark place next mark step room n at =
    record { room_next = 16; behind = n + 1 - mark_length mark; passed = ((step room n at).0, (refl, refl)); place_at = (step room n at).1 }

-- these have ended, and no others
pub are_ended : (limits : Limits) (IsText : List ℕ → List Item → Type 0) (bytes : List ℕ) (ended : List Item) (place : Place) (room n : ℕ) → IsSound limits place
    → ((rest : List ℕ) (decoded : List Item) → IsText (bytes ++ rest) decoded → (others : List Item) × (decoded ≡ ended ++ others) × Completes limits place rest others)
    → Passed 16 (length bytes) ended room n → PlaceAt place room n → EndedItems IsText bytes ended
are_ended limits IsText bytes ended place room n sound keeps passed at = λ rest decoded text.
    let k : (others : List Item) × (decoded ≡ ended ++ others) × Completes limits place rest others = keeps rest decoded text in
    ap (ended_in 16 (length bytes)) k.1 ∙ passed_ended ended k.0 16 (length bytes) room n passed
    ∙ ap (λ t. ended ++ t) (place_open limits place rest k.0 room n sound at k.2) ∙ append-nil ended
