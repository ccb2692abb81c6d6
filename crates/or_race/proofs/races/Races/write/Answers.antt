use Rattle.std.proofs.Common.{rules, refl, subst, Bool, ◌≡◌, ◌<◌, ◌+◌, ◌++◌, length, vec_capacity, vec_len}
use Rattle.std.specs.BTreeMap.{values}
use Rattle.or_race.specs.Lines.{found_lines}
use Rattle.or_race.specs.Text.{race_report_text}
use Rattle.or_race.proofs.Lined.{reported}
use Rattle.or_race.proofs.races.Races.write.Goals as goal

pub returns-in-Ok-clause-ok : goal.returns-in-Ok-clause-ok
returns-in-Ok-clause-ok c = λ locks es r.
    let lines = found_lines locks (values c.args.self.now.words) in (
      race_report_text locks c.args.symbols.now lines,
      record { lines = lines; report = reported locks c.args.self.now es c.len-words.ensures.ordered r; text_is = refl },
      subst (λ (x : Bool). c.append_report.new.out.items ≡ c.args.out.now.items ++ race_report_text x c.args.symbols.now (found_lines x (values c.args.self.now.words))) r.locks_are (search rules),
    )

pub returns-in-Err-clause-full : goal.returns-in-Err-clause-full
returns-in-Err-clause-full c = λ locks es r.
    let lines = found_lines locks (values c.args.self.now.words) in (
      race_report_text locks c.args.symbols.now lines,
      record { lines = lines; report = reported locks c.args.self.now es c.len-words.ensures.ordered r; text_is = refl },
      subst (λ (x : Bool). vec_capacity c.args.out.now < vec_len c.args.out.now + length (race_report_text x c.args.symbols.now (found_lines x (values c.args.self.now.words)))) r.locks_are (search rules),
    )
