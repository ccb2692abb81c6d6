use Rattle.std.proofs.Common.{arith, subst, ◌+◌, ℕ, List}
use Rattle.or_command.proofs.TellsLemmas.{silent_then}
use Rattle.or_command_source.specs.Listing.{word_line, word_lines}
use Rattle.or_command.specs.Pieces.{SoFar}
use Rattle.or_command.proofs.PiecesLemmas.{goes_on, stops}
use Rattle.or_command_source.proofs.listing.list_words.Goals as goal

pub loop-word-preserved : goal.loop-word-preserved
loop-word-preserved g c =
    let a = g.H.Host.state c.args.host.now in
    let b = g.H.Host.state c.loop-word.host in
    let d = g.H.Host.state c.list_word.new.host in
    let place = c.loop-word.place in
    let whole = word_lines c.args.first c.args.bytes.now in
    record {
      aligned = omega arith;
      small = omega (arith, c.in-Some.ensures.shorter);
      so_far = goes_on (word_line place c.in-Some.word) (word_lines (place + 4) c.in-Some.others.now) whole a b d
          (subst (λ (text : List ℕ). SoFar text whole a b) (c.in-Some.ensures.lines place) c.loop-word.invariant.so_far) c.in-Ok.ensures.lists;
      silent = silent_then a b d c.loop-word.invariant.silent c.list_word.ensures.silent;
    }

pub returns-in-Err-clause-lists : goal.returns-in-Err-clause-lists
returns-in-Err-clause-lists g c =
    let a = g.H.Host.state c.args.host.now in
    let b = g.H.Host.state c.loop-word.host in
    let d = g.H.Host.state c.list_word.new.host in
    let place = c.loop-word.place in
    let whole = word_lines c.args.first c.args.bytes.now in
    stops c.in-Err.stop (word_line place c.in-Some.word) (word_lines (place + 4) c.in-Some.others.now) whole a b d
    (subst (λ (text : List ℕ). SoFar text whole a b) (c.in-Some.ensures.lines place) c.loop-word.invariant.so_far) c.in-Err.ensures.lists
