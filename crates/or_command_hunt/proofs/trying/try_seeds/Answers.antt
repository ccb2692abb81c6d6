use Rattle.std.proofs.Common.{suc}
use Rattle.or_command.proofs.SaysLemmas.{only_then}
use Rattle.or_command_hunt.proofs.Heard.{said_more}
use Rattle.or_command_hunt.proofs.trying.try_seeds.Goals as goal

pub returns-then-next-options-clause-heard : goal.returns-then-next-options-clause-heard
returns-then-next-options-clause-heard g c =
    let a = g.H.Host.state c.args.host.now in
    let b = g.H.Host.state c.loop-lines.host in
    let d = g.H.Host.state c.say_tries.new.host in record {
      lines = suc c.loop-lines.lines;
      said = said_more c.args.options.now.tries c.loop-lines.lines c.next_told-next.result a b d c.next_told-next.ensures c.loop-lines.invariant.said c.say_tries.ensures.line;
      only = only_then a b d c.loop-lines.invariant.only c.say_tries.ensures.only;
    }
