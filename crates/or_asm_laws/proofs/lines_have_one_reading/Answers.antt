use Rattle.or_asm_laws.proofs.Readings.{one_reading}
use Rattle.or_asm_laws.proofs.Spellings.{each_line}
use Rattle.or_asm_laws.proofs.lines_have_one_reading.Goals as goal

pub returns : goal.returns
returns c = record {
  label = λ line label s h. (one_reading line label s h).label_is;
  statement = λ line label s h. (one_reading line label s h).statement_is;
  each = each_line;
}
