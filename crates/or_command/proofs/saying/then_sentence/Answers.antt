use Rattle.or_command.proofs.SaysLemmas.{said_as, sentence_pieces}
use Rattle.or_command.proofs.saying.then_sentence.Goals as goal

pub returns : goal.returns
returns g c = λ start line h.
    said_as _ _ _ _ _ (sentence_pieces line c.as_bytes.result.now c.args.sentence.now c.as_bytes.ensures.value)
    (c.then_say.ensures start _ (c.then_clause-so_far-4.ensures start _ (c.then_clause-so_far-3.ensures start _ (c.then_clause-so_far-2.ensures start _
    (c.then_clause-so_far.ensures start _ (c.then_say-so_far-2.ensures start _ (c.then_say-so_far.ensures start line h)))))))
