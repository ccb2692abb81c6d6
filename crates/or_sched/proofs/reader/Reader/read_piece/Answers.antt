use Rattle.std.proofs.Common.{◌≡◌, ◌∙◌, ◌++◌, ◌∷◌, [], ◌+◌, ap, sym, subst, arith, take, drop, get_or, length, ◌<◌}
use Rattle.std.proofs.lemmas.List.{take_more, take-append-drop}
use Rattle.or_sched.specs.Reading.{Fed}
use Rattle.or_sched.proofs.ReaderLemmas.{fed_failed, fed_none, fed_then, fed_stopped}
use Rattle.or_sched.proofs.reader.Reader.read_piece.Goals as goal

pub returns-in-Some-clause-fed : goal.returns-in-Some-clause-fed
returns-in-Some-clause-fed c = fed_failed c.args.self.now c.in-Some.fault c.args.piece.now c.args.out.now.items c.args.marks.now.items c.in-Some.ensures

pub loop-byte-init : goal.loop-byte-init
loop-byte-init c = record { reading = c.in-None.ensures; fed = fed_none c.args.self.now c.args.out.now.items c.args.marks.now.items }

pub loop-byte-preserved : goal.loop-byte-preserved
loop-byte-preserved c =
    let here : c.loop-byte.byte-index < length c.args.piece.now = omega arith in
    record {
      reading = c.in-Ok.ensures.answer;
      fed = subst (λ w. Fed c.args.self.now c.read.new.self w c.args.out.now.items c.read.new.out.items c.args.marks.now.items c.read.new.marks.items)
          (sym (take_more c.args.piece.now c.loop-byte.byte-index 0 here))
          (fed_then c.args.self.now c.loop-byte.self c.read.new.self (take c.loop-byte.byte-index c.args.piece.now) (get_or c.args.piece.now c.loop-byte.byte-index 0 ∷ [])
          c.args.out.now.items c.loop-byte.out.items c.read.new.out.items c.args.marks.now.items c.loop-byte.marks.items c.read.new.marks.items
          c.loop-byte.invariant.fed c.in-Ok.ensures.fed);
    }

pub returns-in-Err-clause-fed : goal.returns-in-Err-clause-fed
returns-in-Err-clause-fed c =
    let here : c.loop-byte.byte-index < length c.args.piece.now = omega arith in
    let all : (take c.loop-byte.byte-index c.args.piece.now ++ get_or c.args.piece.now c.loop-byte.byte-index 0 ∷ []) ++ drop (c.loop-byte.byte-index + 1) c.args.piece.now ≡ c.args.piece.now =
    ap (λ t. t ++ drop (c.loop-byte.byte-index + 1) c.args.piece.now) (sym (take_more c.args.piece.now c.loop-byte.byte-index 0 here))
    ∙ take-append-drop (c.loop-byte.byte-index + 1) c.args.piece.now in
    fed_stopped c.args.self.now c.read.new.self c.in-Err.fault (take c.loop-byte.byte-index c.args.piece.now ++ get_or c.args.piece.now c.loop-byte.byte-index 0 ∷ [])
    (drop (c.loop-byte.byte-index + 1) c.args.piece.now) c.args.piece.now c.args.out.now.items c.read.new.out.items c.args.marks.now.items c.read.new.marks.items
    c.in-Err.ensures.answer all
    (fed_then c.args.self.now c.loop-byte.self c.read.new.self (take c.loop-byte.byte-index c.args.piece.now) (get_or c.args.piece.now c.loop-byte.byte-index 0 ∷ [])
    c.args.out.now.items c.loop-byte.out.items c.read.new.out.items c.args.marks.now.items c.loop-byte.marks.items c.read.new.marks.items
    c.loop-byte.invariant.fed c.in-Err.ensures.fed)
