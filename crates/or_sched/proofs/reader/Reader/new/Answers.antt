use Rattle.std.proofs.Common.{refl}
use Rattle.or_sched.proofs.HeadReading.{head_read_none}
use Rattle.or_sched.proofs.reader.Reader.new.Goals as goal

pub returns : goal.returns
returns c = record { read = head_read_none c.nothing.result c.nothing.ensures; is_count = refl; no_head = refl; no_turns = refl; no_marks = refl }
