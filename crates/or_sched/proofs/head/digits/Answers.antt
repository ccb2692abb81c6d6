use Rattle.std.proofs.Common.{◌≡◌, ◌<◌, sym, subst, arith, Some, None, ◌*◌, ◌+◌, false}
use Rattle.std.specs.Fmt.{digit_glyph}
use Rattle.or_sched.specs.declared.head.HeadPlace.TheVariants.{Digits}
use Rattle.or_sched.specs.HeadPlaces.{HeadStepKeeps, IsHigh, AreDigests, with_byte}
use Rattle.or_sched.proofs.HeadSteps.{digit_refused, high_moves, low_moves, digests_with, digest_known, feed_refused, feed_moves}
use Rattle.or_sched.proofs.head.digits.Goals as goal

pub returns-then-byte-ne10-clause-step : goal.returns-then-byte-ne10-clause-step
returns-then-byte-ne10-clause-step c = λ are.
    feed_refused c.args.line c.args.known c.args.count c.args.byte c.args.high c.if-count-eq32.true c.requires.sound.1 c.if-byte-ne10.true are

pub returns-then-count-eq32-clause-step : goal.returns-then-count-eq32-clause-step
returns-then-count-eq32-clause-step c = λ are. (
  subst (λ p. HeadStepKeeps c.args.known (Digits c.args.line c.args.count c.args.high) c.args.byte c.args.known p) (sym c.behind_digest.ensures)
      (feed_moves c.args.line c.args.known c.args.count c.args.byte c.args.high c.if-count-eq32.true c.requires.sound.1 (omega arith) are),
  are,
)

pub returns-in-None-clause-step : goal.returns-in-None-clause-step
returns-in-None-clause-step c = λ are.
    digit_refused c.args.line c.args.known c.args.count c.args.byte c.args.high (omega arith) c.requires.sound.1
    (λ hex. c.in-None.ensures hex.value hex.small hex.glyph)

pub returns-in-None-high-clause-step : goal.returns-in-None-high-clause-step
returns-in-None-high-clause-step c = λ are.
    let hex : (c.in-Some.value < 16) × (digit_glyph false c.in-Some.value ≡ c.args.byte) = c.in-Some.ensures in (
      subst (λ h. HeadStepKeeps c.args.known (Digits c.args.line c.args.count h) c.args.byte c.args.known (Digits c.args.line c.args.count (Some c.in-Some.value)))
          (sym c.in-None-high.is) (high_moves c.args.line c.args.known c.args.count c.args.byte c.in-Some.value (omega arith) hex.1),
      are,
    )

pub returns-in-Some-high-clause-step : goal.returns-in-Some-high-clause-step
returns-in-Some-high-clause-step c = λ are.
    let hex : (c.in-Some.value < 16) × (digit_glyph false c.in-Some.value ≡ c.args.byte) = c.in-Some.ensures in
    let sound : IsHigh (Some c.in-Some-high.upper) c.args.count = subst (λ h. IsHigh h c.args.count) c.in-Some-high.is c.requires.sound.1 in
    subst (λ k. HeadStepKeeps c.args.known (Digits c.args.line c.args.count c.args.high) c.args.byte k (Digits c.args.line (c.args.count + 1) None) × AreDigests k)
    (sym c.with_byte.ensures) (
      subst (λ h. HeadStepKeeps c.args.known (Digits c.args.line c.args.count h) c.args.byte
          (with_byte c.args.known c.args.line c.args.count (16 * c.in-Some-high.upper + c.in-Some.value)) (Digits c.args.line (c.args.count + 1) None))
          (sym c.in-Some-high.is)
          (low_moves c.args.line c.args.known c.args.count c.args.byte c.in-Some.value c.in-Some-high.upper (omega arith) sound.0 hex.0 hex.1
          (digest_known c.args.line c.args.known are).long),
      digests_with c.args.line c.args.known c.args.count (16 * c.in-Some-high.upper + c.in-Some.value) (omega (arith, sound.0, hex.0)) are,
    )
