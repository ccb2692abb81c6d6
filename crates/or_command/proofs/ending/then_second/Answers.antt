use Rattle.std.proofs.Common.{◌∙◌, ◌++◌, sym, ap, ℕ, List}
use Rattle.or_text.specs.Sentences.{sentence_line}
use Rattle.or_command.specs.declared.outcome.Outcome.{Outcome}
use Rattle.or_command.specs.Ends.{end_of, second_line_of}
use Rattle.or_command.proofs.SaysLemmas.{said_as}
use Rattle.or_command.proofs.ending.then_second.Goals as goal

pub returns-in-Unread : goal.returns-in-Unread
returns-in-Unread g c = λ start line h.
    said_as _ _ _ _ _ (ap (λ (t : List ℕ). line ++ sentence_line t) c.plain.ensures ∙ ap (λ (o : Outcome). line ++ second_line_of (end_of o)) (sym c.in-Unread.is))
    (c.then_sentence.ensures start line h)
