use Rattle.std.proofs.Common.{rules}
use Rattle.or_core.proofs.Accesses.{fetched, access_of_word-line}
use Rattle.or_core.proofs.state.Core.step_unheld.Goals as goal

pub returns-in-Ok-clause-access : goal.returns-in-Ok-clause-access
returns-in-Ok-clause-access c = λ world represents.
    let word = fetched world _ _ _ _ (c.in-Ok.ensures.answer world represents) in
    let made = c.step_by_word.ensures.access world word.represents in
    let same = access_of_word-line c.args.self.now world c.args.pa c.in-Ok.fetched.line c.in-Ok.fetched.word in
    search (rules, made, same, word.word)
