use Rattle.std.proofs.Common.{arith, rules, refl, length}
use Rattle.std.proofs.lemmas.Grind.{common_steps}
use Rattle.std.proofs.lemmas.Option.{slice_get_read}
use Rattle.or_text.proofs.Kept.{kept_on, kept_behind, on_err_always}
use Rattle.or_prof.specs.Text.{head_line}
use Rattle.or_prof.proofs.CoreTexts.{core_more}
use Rattle.or_prof.proofs.Fitting.{profile_lacks}
use Rattle.or_prof.proofs.profiling.append_profile.Goals as goal

pub loop-core-preserved : goal.loop-core-preserved
loop-core-preserved c = record {
  texts = λ additions is.
      let core = c.loop-core.core in
      let tally = c.index-tallies-core.result in
      core_more c.args.hot c.args.symbols.now additions core tally c.extend_from_slice.new.self.items c.loop-core.out.items c.append_core.new.out.items
      (is.counts core tally (slice_get_read c.args.tallies.now (length c.args.tallies.now) core tally refl c.loop-core-test.true c.index-tallies-core.is))
      (c.loop-core.invariant.texts additions is) c.in_ok-append_core.ensures.text;
  capacity = omega arith;
  kept = grind (arith, common_steps);
  room = omega arith;
  more = omega arith;
}

pub returns-in_err-append_core-clause-full : goal.returns-in_err-append_core-clause-full
returns-in_err-append_core-clause-full c = on_err_always c.from_residual-in_err-append_core.result (λ additions is text is_text.
    let core = c.loop-core.core in
    let tally = c.index-tallies-core.result in
    let counts = is.counts core tally (slice_get_read c.args.tallies.now (length c.args.tallies.now) core tally refl c.loop-core-test.true c.index-tallies-core.is) in
    profile_lacks c.args.hot c.args.symbols.now additions core (length c.args.tallies.now) _ _ _ _ tally c.args.out.now.items c.extend_from_slice.new.self.items c.loop-core.out.items text c.loop-core-test.true counts
    (search rules) (c.loop-core.invariant.texts additions is) (search rules) (search rules) (omega arith) (λ own is_own. c.in_err-append_core.ensures.full own is_own) is_text)

pub returns-in_err-append_core-clause-kept : goal.returns-in_err-append_core-clause-kept
returns-in_err-append_core-clause-kept c =
    kept_behind c.args.out.now.items head_line c.extend_from_slice.new.self.items c.append_core.new.out.items (search rules)
    (kept_on c.extend_from_slice.new.self.items c.loop-core.out.items c.append_core.new.out.items c.loop-core.invariant.kept c.in_err-append_core.ensures.kept)

pub returns-clause-kept : goal.returns-clause-kept
returns-clause-kept c = kept_behind c.args.out.now.items head_line c.extend_from_slice.new.self.items c.loop-core.out.items (search rules) c.loop-core.invariant.kept
