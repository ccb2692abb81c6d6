use Rattle.or_prof.proofs.OneText.{one_text}
use Rattle.or_prof.proofs.laws.additions_have_one_text.Goals as goal

pub returns : goal.returns
returns c = λ hot cores additions text other is also. one_text hot cores c.args.symbols.now additions text other is also
