use Rattle.std.proofs.Common.{◌≡◌, ◌≤◌, sym, subst, arith, ◌∷◌, Some, true, false}
use Rattle.or_sched.specs.declared.head.Known.{Known}
use Rattle.or_sched.specs.declared.head.Literal.TheVariants.{Budget, Ram, Latched, Image}
use Rattle.or_sched.specs.declared.head.HeadPlace.TheVariants.{Text, Number}
use Rattle.or_sched.specs.HeadPlaces.{AtNumber, HeadStepKeeps, field_most}
use Rattle.or_sched.proofs.HeadSteps.{cores_other, budget_other, ram_other, cores_end, budget_end, ram_feed, ram_latched}
use Rattle.or_sched.proofs.head.end_number.Goals as goal

pub returns-then-byte-ne32-clause-step : goal.returns-then-byte-ne32-clause-step
returns-then-byte-ne32-clause-step c =
    let high : c.args.n ≤ 8 = subst (λ f. c.args.n ≤ field_most f) c.in-Cores.is c.requires.high in
    λ are final end rest f. cores_other c.args.known c.args.n c.args.byte c.requires.low c.requires.byte high c.if-byte-ne32.true final end rest
    (subst (λ k. AtNumber final end k c.args.known (Some c.args.n) (c.args.byte ∷ rest)) c.in-Cores.is f)

pub returns-then-byte-ne32-2-clause-step : goal.returns-then-byte-ne32-2-clause-step
returns-then-byte-ne32-2-clause-step c =
    let high : c.args.n ≤ 67108864 = subst (λ f. c.args.n ≤ field_most f) c.in-Budget.is c.requires.high in
    λ are final end rest f. budget_other c.args.known c.args.n c.args.byte c.requires.low c.requires.byte high c.if-byte-ne32-2.true final end rest
    (subst (λ k. AtNumber final end k c.args.known (Some c.args.n) (c.args.byte ∷ rest)) c.in-Budget.is f)

pub returns-then-byte-ne32-3-clause-step : goal.returns-then-byte-ne32-3-clause-step
returns-then-byte-ne32-3-clause-step c =
    let high : c.args.n ≤ 256 = subst (λ f. c.args.n ≤ field_most f) c.in-Ram.is c.requires.high in
    λ are final end rest f. ram_other c.args.known c.args.n c.args.byte c.requires.low c.requires.byte high c.if-byte-eq10.false (λ e two. c.if-byte-ne32-3.true e) final end rest
    (subst (λ k. AtNumber final end k c.args.known (Some c.args.n) (c.args.byte ∷ rest)) c.in-Ram.is f)

pub returns-then-known-ne2-clause-step : goal.returns-then-known-ne2-clause-step
returns-then-known-ne2-clause-step c =
    let high : c.args.n ≤ 256 = subst (λ f. c.args.n ≤ field_most f) c.in-Ram.is c.requires.high in
    λ are final end rest f. ram_other c.args.known c.args.n c.args.byte c.requires.low c.requires.byte high c.if-byte-eq10.false (λ e two. c.if-known-ne2.true two) final end rest
    (subst (λ k. AtNumber final end k c.args.known (Some c.args.n) (c.args.byte ∷ rest)) c.in-Ram.is f)

pub returns-then-byte-eq10-clause-step : goal.returns-then-byte-eq10-clause-step
returns-then-byte-eq10-clause-step c =
    let high : c.args.n ≤ 256 = subst (λ f. c.args.n ≤ field_most f) c.in-Ram.is c.requires.high in
    let next : Known = record c.args.known { ram = c.args.n; latched = false } in
    λ are. (
      subst (λ b. HeadStepKeeps c.args.known (Number c.args.field (Some c.args.n)) b next (Text Image 0)) (sym c.if-byte-eq10.true)
          (subst (λ f. HeadStepKeeps c.args.known (Number f (Some c.args.n)) 10 next (Text Image 0)) (sym c.in-Ram.is) (ram_feed c.args.known c.args.n c.requires.low high)),
      are,
    )

pub returns-else-byte-ne32-clause-step : goal.returns-else-byte-ne32-clause-step
returns-else-byte-ne32-clause-step c =
    let high : c.args.n ≤ 8 = subst (λ f. c.args.n ≤ field_most f) c.in-Cores.is c.requires.high in
    let blank : c.args.byte ≡ 32 = omega arith in
    let next : Known = record c.args.known { cores = c.args.n } in
    λ are. (
      subst (λ b. HeadStepKeeps c.args.known (Number c.args.field (Some c.args.n)) b next (Text Budget 0)) (sym blank)
          (subst (λ f. HeadStepKeeps c.args.known (Number f (Some c.args.n)) 32 next (Text Budget 0)) (sym c.in-Cores.is) (cores_end c.args.known c.args.n c.requires.low high)),
      are,
    )

pub returns-else-byte-ne32-2-clause-step : goal.returns-else-byte-ne32-2-clause-step
returns-else-byte-ne32-2-clause-step c =
    let high : c.args.n ≤ 67108864 = subst (λ f. c.args.n ≤ field_most f) c.in-Budget.is c.requires.high in
    let blank : c.args.byte ≡ 32 = omega arith in
    let next : Known = record c.args.known { budget = c.args.n } in
    λ are. (
      subst (λ b. HeadStepKeeps c.args.known (Number c.args.field (Some c.args.n)) b next (Text Ram 0)) (sym blank)
          (subst (λ f. HeadStepKeeps c.args.known (Number f (Some c.args.n)) 32 next (Text Ram 0)) (sym c.in-Budget.is) (budget_end c.args.known c.args.n c.requires.low high)),
      are,
    )

pub returns-else-known-ne2-clause-step : goal.returns-else-known-ne2-clause-step
returns-else-known-ne2-clause-step c =
    let high : c.args.n ≤ 256 = subst (λ f. c.args.n ≤ field_most f) c.in-Ram.is c.requires.high in
    let blank : c.args.byte ≡ 32 = omega arith in
    let two : c.args.known.version ≡ 2 = omega arith in
    let next : Known = record c.args.known { ram = c.args.n; latched = true } in
    λ are. (
      subst (λ b. HeadStepKeeps c.args.known (Number c.args.field (Some c.args.n)) b next (Text Latched 0)) (sym blank)
          (subst (λ f. HeadStepKeeps c.args.known (Number f (Some c.args.n)) 32 next (Text Latched 0)) (sym c.in-Ram.is) (ram_latched c.args.known c.args.n c.requires.low high two)),
      are,
    )
