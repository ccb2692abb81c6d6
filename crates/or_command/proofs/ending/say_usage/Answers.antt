use Rattle.std.proofs.Common.{[]}
use Rattle.or_text.specs.Sentences.{sentence_text}
use Rattle.or_command.specs.Said.{Said}
use Rattle.or_command.specs.Lines.{usage_lines}
use Rattle.or_command.proofs.SaysLemmas.{said_none, said_line}
use Rattle.or_command.proofs.ending.say_usage.Goals as goal

pub returns-clause-line : goal.returns-clause-line
returns-clause-line g c =
    let s = g.H.Host.state c.args.host.now in
    said_line c.then_sentence.result (usage_lines (sentence_text c.args.why.now)) s (g.H.Host.state c.then_sentence.new.host)
    (c.then_sentence.ensures s _ (c.then_say-so_far.ensures s [] (said_none tt s)))

pub returns-clause-only : goal.returns-clause-only
returns-clause-only g c =
    let s = g.H.Host.state c.args.host.now in
    let said : Said c.then_sentence.result (usage_lines (sentence_text c.args.why.now)) s (g.H.Host.state c.then_sentence.new.host) =
    c.then_sentence.ensures s _ (c.then_say-so_far.ensures s [] (said_none tt s)) in
    said.only
