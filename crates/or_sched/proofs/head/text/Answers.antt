use Rattle.std.proofs.Common.{◌≡◌, ◌≤◌, ◌+◌, sym, subst, ap, arith, length, get_or}
use Rattle.or_sched.specs.declared.head.HeadPlace.TheVariants.{Text}
use Rattle.or_sched.specs.HeadPlaces.{HeadStepKeeps, literal_bytes}
use Rattle.or_sched.proofs.HeadSteps.{text_moves}
use Rattle.or_sched.proofs.head.text.Goals as goal

pub returns-clause-step : goal.returns-clause-step
returns-clause-step c =
    let last : length (literal_bytes c.args.literal) ≤ c.args.seen + 1 = omega (arith, ap length c.literal_text-bytes.ensures, c.from-2.ensures) in
    let is : c.args.byte ≡ get_or (literal_bytes c.args.literal) c.args.seen 0 =
    omega (arith, ap (λ k. get_or c.literal_text-bytes.result.now k 0) c.from.ensures, ap (λ l. get_or l c.args.seen 0) c.literal_text-bytes.ensures) in
    λ are. (
      subst (λ p. HeadStepKeeps c.args.known (Text c.args.literal c.args.seen) c.args.byte c.args.known p) (sym c.behind.ensures)
          (text_moves c.args.known c.args.literal c.args.seen c.args.byte c.requires.sound last is),
      are,
    )
