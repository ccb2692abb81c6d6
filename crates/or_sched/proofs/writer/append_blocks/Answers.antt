use Rattle.std.proofs.Common.{rules, ◌≡◌, ◌∷◌, drop, length, ◌+◌, arith}
use Rattle.or_sched.proofs.RunLemmas.{next_block, fewer_blocks, all_behind, last_block_ends}
use Rattle.or_sched.specs.Blocks.{blocks_text}
use Rattle.or_sched.proofs.writer.append_blocks.Goals as goal

pub loop-mark-preserved : goal.loop-mark-preserved
loop-mark-preserved c =
    let parts : c.loop-mark.marks_left.now ≡ c.in-Some.mark.now ∷ c.in-Some.after.now = search rules in
    let later : c.split_at.result.1.now ≡ drop c.args.block c.loop-mark.rest.now = c.split_at.ensures.back in
    let cut : length c.split_at.result.1.now + c.args.block ≡ length c.loop-mark.rest.now = c.split_at.ensures.back_len in
    record {
      text = next_block c.args.block c.in-Some.mark.now c.in-Some.after.now c.loop-mark.marks_left.now
          c.split_at.result.0.now c.split_at.result.1.now c.loop-mark.rest.now c.loop-mark.out.items c.append_block.new.out.items
          c.append_mark.new.out.items _ parts c.split_at.ensures.front later c.in_ok-append_block.ensures.text c.in_ok-append_mark.ensures.text
          c.loop-mark.invariant.text;
      marks = fewer_blocks c.args.block c.in-Some.mark.now c.in-Some.after.now c.loop-mark.marks_left.now c.loop-mark.rest.now
          c.split_at.result.1.now parts cut c.loop-mark.invariant.marks;
      cores = all_behind c.args.block c.loop-mark.rest.now c.split_at.result.1.now later c.loop-mark.invariant.cores;
      capacity = search rules;
    }

pub returns-clause-full : goal.returns-clause-full
returns-clause-full c =
    let ends = last_block_ends c.args.block c.loop-mark.marks_left.now c.loop-mark.rest.now c.loop-mark.out.items c.args.out.now.items (blocks_text c.args.block c.args.marks.now c.args.turns.now) c.in_default.ensures.cases c.loop-mark.invariant.text in
    let more = c.loop-mark.invariant.capacity in
    grind (arith, ends, more)
