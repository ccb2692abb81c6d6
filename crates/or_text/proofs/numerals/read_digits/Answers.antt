use Rattle.std.proofs.Common.{arith, rules}
use Rattle.or_text.proofs.Sizes.{form_step, number_step}
use Rattle.or_text.proofs.numerals.read_digits.Goals as goal

pub loop-byte-preserved : goal.loop-byte-preserved
loop-byte-preserved c = record {
  form = form_step c.args.base c.in-Some.byte.now c.in-Some.others.now c.loop-byte.rest.now _ (search rules) (omega arith) c.loop-byte.invariant.form;
  number = number_step c.args.base c.loop-byte.value _ c.in-Some.byte.now _ c.in-Some.others.now c.loop-byte.rest.now (omega arith) (search rules) (search rules) c.loop-byte.invariant.number;
  small = omega arith;
}
