use Rattle.std.proofs.Common.{◌∙◌, sym, ap, ◌++◌, length, length-append, append-nil, rules, arith}
use Rattle.or_text.proofs.Kept.{on_err_always}
use Rattle.or_debug.proofs.Texts.{indexes_none, index_fits}
use Rattle.or_debug.specs.BoardText.{index_line, index_lines}
use Rattle.or_debug.proofs.board_text.append_indexes.Goals as goal

pub loop-index-init : goal.loop-index-init
loop-index-init c = record {
  text = λ now is. sym (ap (λ l. c.args.text.now.items ++ l) (indexes_none now.world.accesses c.args.core) ∙ append-nil c.args.text.now.items);
  capacity = search rules;
}

pub returns-in_err-append_index-clause-full : goal.returns-in_err-append_index-clause-full
returns-in_err-append_index-clause-full c = on_err_always c.from_residual.result (λ now is.
    let accesses = now.world.accesses in
    let index = c.loop-index.index in
    let within = index_fits accesses c.args.core index 128 (omega arith) in
    let same = ap (λ line. length (index_line index line)) (c.line_address.ensures now is) in
    let written = ap length (c.loop-index.invariant.text now is) ∙ length-append c.args.text.now.items (index_lines accesses c.args.core index) in
    let lacks = c.in_err-append_index.ensures.full in
    let more = c.loop-index.invariant.capacity in
    grind (arith, within, same, written, lacks, more))
