use Rattle.std.proofs.Common.{◌≡◌, ◌∷◌, ◌++◌, length-append, rules, arith}
use Rattle.or_elf.specs.Text.{pieces_text}
use Rattle.or_elf.proofs.WrittenSizes.{pieces_from}
use Rattle.or_elf.proofs.writer.append_pieces.Goals as goal

pub returns-in_err-append_words-clause-full : goal.returns-in_err-append_words-clause-full
returns-in_err-append_words-clause-full c =
    let parts : c.loop-piece.rest.now ≡ c.in-Some.piece.now ∷ c.in-Some.others.now = search rules in
    let all = pieces_text c.args.pieces.now in
    let from = pieces_from c.loop-piece.rest.now c.in-Some.piece.now c.in-Some.others.now c.loop-piece.out.items (c.args.out.now.items ++ all) parts c.loop-piece.invariant.text in
    let whole = length-append c.args.out.now.items all in
    let more = c.loop-piece.invariant.capacity in
    grind (arith, from, whole, more)
