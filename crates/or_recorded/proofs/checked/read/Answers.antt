use Rattle.or_recorded.proofs.Recorded.{fed_whole, fault_of_text}
use Rattle.or_recorded.proofs.checked.read.Goals as goal

pub returns-in-Err-clause-read : goal.returns-in-Err-clause-read
returns-in-Err-clause-read c =
    let turns = c.feed.new.out.items in
    let marks = c.feed.new.marks.items in
    let fed = fed_whole c.new-reader.result c.feed.new.self c.args.text.now c.new-turns.result.items turns c.new-marks.result.items marks
    c.new-reader.ensures c.new-turns.ensures.items c.new-marks.ensures.items c.feed.ensures.fed in
    fault_of_text c.feed.new.self c.args.text.now turns marks c.in-Err.fault fed (c.in-Err.ensures.exact c.args.text.now turns marks fed)
