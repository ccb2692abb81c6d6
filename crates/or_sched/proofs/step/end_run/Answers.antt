use Rattle.std.proofs.Common.{arith, ◌≡◌, ◌≢◌, ◌+◌, ◌-◌, ◌∷◌, sym, subst, ℕ, zero, suc, List}
use Rattle.or_sched.specs.BlockRests.{Behind}
use Rattle.or_sched.specs.RunRests.{AtLine, AtEnd, InRun, Opens}
use Rattle.or_sched.proofs.RunPlaces.{AtRun}
use Rattle.or_sched.specs.declared.places.Place.TheVariants.{Run}
use Rattle.or_sched.proofs.Steps.{at_full, at_letter, letter_back, feed_full, feed_short, full_back, short_back}
use Rattle.or_sched.proofs.StepLemmas.{end_dooms, end_moves, run_leads}
use Rattle.or_sched.proofs.step.end_run.Goals as goal

-- behind a full line, as a fact of the room
module _ {R : Type 0} (After : ℕ → List ℕ → R → Type 0) (cores core : ℕ) where
  full_on : (room left byte : ℕ) (rest : List ℕ) (all : List (ℕ × ℕ)) (later : R) → room ≡ 0 → byte ≡ 10
      → AtRun After cores core room left (byte ∷ rest) all later → AtLine After cores core left rest all later
  full_on room left byte rest all later none is_feed at =
      feed_full After cores core left rest all later (subst (λ b. AtRun After cores core 0 left (b ∷ rest) all later) is_feed
      (subst (λ k. AtRun After cores core k left (byte ∷ rest) all later) none at))

  full_off : (room left byte : ℕ) (rest : List ℕ) (all : List (ℕ × ℕ)) (later : R) → room ≡ 0 → byte ≡ 10
      → AtLine After cores core left rest all later → AtRun After cores core room left (byte ∷ rest) all later
  full_off room left byte rest all later none is_feed e =
      subst (λ k. AtRun After cores core k left (byte ∷ rest) all later) (sym none)
      (subst (λ b. AtRun After cores core 0 left (b ∷ rest) all later) (sym is_feed) (full_back After cores core left rest all later e))

  short_on : (room left byte : ℕ) (rest : List ℕ) (all : List (ℕ × ℕ)) (later : R) → room ≢ 0 → byte ≡ 10
      → AtRun After cores core room left (byte ∷ rest) all later → AtEnd After left rest all later
  short_on zero left byte rest all later some is_feed at = absurd (some (omega arith))
  short_on (suc room) left byte rest all later some is_feed at =
      feed_short After cores core room left rest all later (subst (λ b. AtRun After cores core (suc room) left (b ∷ rest) all later) is_feed at)

  short_off : (room left byte : ℕ) (rest : List ℕ) (all : List (ℕ × ℕ)) (later : R) → byte ≡ 10
      → AtEnd After left rest all later → AtRun After cores core room left (byte ∷ rest) all later
  short_off room left byte rest all later is_feed e =
      subst (λ b. AtRun After cores core room left (b ∷ rest) all later) (sym is_feed) (short_back After cores core room left rest all later e)

  full_none : (room left byte : ℕ) (rest : List ℕ) (all : List (ℕ × ℕ)) (later : R) → room ≡ 0 → byte ≢ 10
      → AtRun After cores core room left (byte ∷ rest) all later → ⊥
  full_none room left byte rest all later none other at =
      at_full After cores core left byte rest all later other (subst (λ k. AtRun After cores core k left (byte ∷ rest) all later) none at)

  letter_on : (room fewer left byte : ℕ) (rest : List ℕ) (all : List (ℕ × ℕ)) (later : R) → fewer + 1 ≡ room → byte ≢ 10
      → AtRun After cores core room left (byte ∷ rest) all later → Opens After cores core fewer left (byte ∷ rest) all later
  letter_on room fewer left byte rest all later is_more other at =
      let same : room ≡ suc fewer = omega arith in
      at_letter After cores core fewer left byte rest all later other (subst (λ k. AtRun After cores core k left (byte ∷ rest) all later) same at)

  letter_off : (room fewer left : ℕ) (rest : List ℕ) (all : List (ℕ × ℕ)) (later : R) → fewer + 1 ≡ room
      → Opens After cores core fewer left rest all later → AtRun After cores core room left rest all later
  letter_off room fewer left rest all later is_more r =
      let same : suc fewer ≡ room = omega arith in
      subst (λ k. AtRun After cores core k left rest all later) same (letter_back After cores core fewer left rest all later r)

pub returns-then-begun-eq0-clause-step : goal.returns-then-begun-eq0-clause-step
returns-then-begun-eq0-clause-step c =
    let left : ℕ = c.args.begun.block.left - c.max-count.result in
    end_moves c.args.limits.now c.args.begun c.args.byte c.max-count.result c.requires.limits c.requires.sound c.requires.byte c.at_line-next.result
    (λ rest all later. AtLine (Behind c.args.limits.now c.args.begun.block.behind) c.args.limits.now.cores c.args.begun.core (c.args.begun.block.left - c.max-count.result) rest all later)
    (omega (arith, c.max-count.ensures)) c.requires.number
    (λ rest all later at. full_on (Behind c.args.limits.now c.args.begun.block.behind) c.args.limits.now.cores c.args.begun.core c.args.begun.room left c.args.byte rest all later c.if-begun-eq0.true c.if-byte-eq10.true at)
    (λ rest all later e. full_off (Behind c.args.limits.now c.args.begun.block.behind) c.args.limits.now.cores c.args.begun.core c.args.begun.room left c.args.byte rest all later c.if-begun-eq0.true c.if-byte-eq10.true e)
    c.at_line-next.ensures.leads

pub returns-else-begun-eq0-clause-step : goal.returns-else-begun-eq0-clause-step
returns-else-begun-eq0-clause-step c =
    let left : ℕ = c.args.begun.block.left - c.max-count.result in
    end_moves c.args.limits.now c.args.begun c.args.byte c.max-count.result c.requires.limits c.requires.sound c.requires.byte c.at_end-next.result
    (λ rest all later. AtEnd (Behind c.args.limits.now c.args.begun.block.behind) (c.args.begun.block.left - c.max-count.result) rest all later)
    (omega (arith, c.max-count.ensures)) c.requires.number
    (λ rest all later at. short_on (Behind c.args.limits.now c.args.begun.block.behind) c.args.limits.now.cores c.args.begun.core c.args.begun.room left c.args.byte rest all later c.if-begun-eq0.false c.if-byte-eq10.true at)
    (λ rest all later e. short_off (Behind c.args.limits.now c.args.begun.block.behind) c.args.limits.now.cores c.args.begun.core c.args.begun.room left c.args.byte rest all later c.if-byte-eq10.true e)
    c.at_end-next.ensures.leads

pub returns-then-begun-eq0-2-clause-step : goal.returns-then-begun-eq0-2-clause-step
returns-then-begun-eq0-2-clause-step c =
    end_dooms c.args.limits.now c.args.begun c.args.byte c.max-count.result c.requires.limits c.requires.sound c.requires.byte
    (omega (arith, c.max-count.ensures))
    (λ rest all later at. full_none (Behind c.args.limits.now c.args.begun.block.behind) c.args.limits.now.cores c.args.begun.core c.args.begun.room
    (c.args.begun.block.left - c.max-count.result) c.args.byte rest all later c.if-begun-eq0-2.true c.if-byte-eq10.false at)

pub returns-in-None-clause-step : goal.returns-in-None-clause-step
returns-in-None-clause-step c =
    let more : (c.args.begun.room - 1) + 1 ≡ c.args.begun.room = omega arith in
    end_dooms c.args.limits.now c.args.begun c.args.byte c.max-count.result c.requires.limits c.requires.sound c.requires.byte
    (omega (arith, c.max-count.ensures))
    (λ rest all later at. c.in-None.ensures.open rest all later
    (letter_on (Behind c.args.limits.now c.args.begun.block.behind) c.args.limits.now.cores c.args.begun.core c.args.begun.room (c.args.begun.room - 1)
    (c.args.begun.block.left - c.max-count.result) c.args.byte rest all later more c.if-byte-eq10.false at))

pub returns-in-Some-clause-step : goal.returns-in-Some-clause-step
returns-in-Some-clause-step c =
    let more : (c.args.begun.room - 1) + 1 ≡ c.args.begun.room = omega arith in
    end_moves c.args.limits.now c.args.begun c.args.byte c.max-count.result c.requires.limits c.requires.sound c.requires.byte (Run c.in-Some.next)
    (λ rest all later. InRun (Behind c.args.limits.now c.in-Some.next.block.behind) c.args.limits.now.cores c.in-Some.next.core c.in-Some.next.number c.in-Some.next.room c.in-Some.next.block.left rest all later)
    (omega (arith, c.max-count.ensures)) c.requires.number
    (λ rest all later at. c.in-Some.ensures.open.there rest all later
    (letter_on (Behind c.args.limits.now c.args.begun.block.behind) c.args.limits.now.cores c.args.begun.core c.args.begun.room (c.args.begun.room - 1)
    (c.args.begun.block.left - c.max-count.result) c.args.byte rest all later more c.if-byte-eq10.false at))
    (λ rest all later r. letter_off (Behind c.args.limits.now c.args.begun.block.behind) c.args.limits.now.cores c.args.begun.core c.args.begun.room (c.args.begun.room - 1)
    (c.args.begun.block.left - c.max-count.result) (c.args.byte ∷ rest) all later more (c.in-Some.ensures.open.back rest all later r))
    (run_leads c.args.limits.now c.in-Some.next)
