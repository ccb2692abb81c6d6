use Rattle.std.proofs.Common.{◌∙◌, ap, ◌++◌, length, length-append, refl, rules, arith}
use Rattle.or_replay.specs.Board.{BoardState}
use Rattle.or_debug.specs.BoardText.{memory_text, word_line}
use Rattle.or_text.proofs.Kept.{on_err_always}
use Rattle.or_debug.proofs.Texts.{word_more, word_fits}
use Rattle.or_debug.proofs.board_text.append_memory.Goals as goal

pub loop-left-preserved : goal.loop-left-preserved
loop-left-preserved c = record {
  text = λ now is.
      let before = c.loop-left.invariant.board now is in
      word_more now.world.ram c.loop-left.place _ c.loop-left.left c.loop-left.text.items c.append_shown.new.text.items
      (c.args.text.now.items ++ memory_text now.world.ram c.args.address c.args.words) c.loop-left-test.true (c.loop-left.invariant.text now is)
      (c.in_ok-append_shown.ensures.text ∙ ap (λ w. c.loop-left.text.items ++ word_line c.loop-left.place w) (c.word-word.ensures.value now before)) refl;
  capacity = search rules;
  board = λ now is. c.word-word.ensures.same now (c.loop-left.invariant.board now is);
  config = ap (λ (b : BoardState). b.config) c.word-word.ensures.after ∙ c.loop-left.invariant.config;
}

pub returns-in_err-append_shown-clause-full : goal.returns-in_err-append_shown-clause-full
returns-in_err-append_shown-clause-full c = on_err_always c.from_residual.result (λ now is.
    let ram = now.world.ram in
    let text = c.loop-left.text.items in
    let whole = memory_text ram c.args.address c.args.words in
    let first = word_fits ram c.loop-left.place c.loop-left.left text (c.args.text.now.items ++ whole) c.loop-left-test.true (c.loop-left.invariant.text now is) in
    let word = ap (λ w. length (word_line c.loop-left.place w)) (c.word-word.ensures.value now (c.loop-left.invariant.board now is)) in
    let all = length-append c.args.text.now.items whole in
    let lacks = c.in_err-append_shown.ensures.full in
    let more = c.loop-left.invariant.capacity in
    grind (arith, first, word, all, lacks, more))
