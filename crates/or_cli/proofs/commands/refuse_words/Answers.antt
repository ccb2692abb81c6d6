use Rattle.std.proofs.Common.{ℕ, List, subst}
use Rattle.or_command.specs.Lines.{usage_lines}
use Rattle.or_command.specs.Said.{SaidLine}
use Rattle.or_cli.proofs.commands.refuse_words.Goals as goal

pub returns-clause-usage : goal.returns-clause-usage
returns-clause-usage g c =
    let old = g.H.Host.state c.args.host.now in
    let new = g.H.Host.state c.say_usage.new.host in
    let only = c.say_usage.ensures.only in record {
      left = record {
        untouched = record { names = only.names; written = only.written };
        no_fault = record { faults = only.faults; blame = only.blame };
      };
      said = subst (λ (sentence : List ℕ). SaidLine (usage_lines sentence) old new) c.explain.ensures c.say_usage.ensures.line;
    }
