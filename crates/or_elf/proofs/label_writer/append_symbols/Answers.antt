use Rattle.std.proofs.Common.{◌≡◌, ◌+◌, ◌++◌, ap, sym, ◌∙◌, drop, length, ℕ, List, length-append, append_assoc, append-nil, rules, arith}
use Rattle.or_elf.specs.LabelText.{symbol_text, symbols_text}
use Rattle.or_elf.proofs.LabelSizes.{names_from, symbols_from, symbols_end}
use Rattle.or_elf.proofs.label_writer.append_symbols.Goals as goal

pub returns-in_err-append_symbol-clause-full : goal.returns-in_err-append_symbol-clause-full
returns-in_err-append_symbol-clause-full c =
    let labels = c.args.labels.now in
    let here = c.loop-label.label-index in
    let name = c.loop-label.name in
    let label = c.label-item.result in
    let behind = symbols_text (name + (length label.name + 1)) (drop (here + 1) labels) in
    let step = ap length (symbols_from labels here name label c.loop-label-test.true c.label-item.is) ∙ length-append (symbol_text name label) behind in
    let all = length-append c.args.out.now.items (symbols_text 17 labels) in
    let written = length-append c.loop-label.out.items (symbols_text name (drop here labels)) in
    let text = ap length c.loop-label.invariant.text in
    let lacks = c.in_err-append_symbol.ensures.full in
    let more = c.loop-label.invariant.capacity in
    grind (arith, step, all, written, text, lacks, more)

pub loop-label-preserved : goal.loop-label-preserved
loop-label-preserved c =
    let labels = c.args.labels.now in
    let here = c.loop-label.label-index in
    let name = c.loop-label.name in
    let label = c.label-item.result in
    let size : length c.label.inside.name.now ≡ length label.name = ap (λ l. length l.name) c.label.view_is in
    let behind : ℕ → List ℕ = λ n. symbols_text (name + (n + 1)) (drop (here + 1) labels) in
    let step = symbols_from labels here name label c.loop-label-test.true c.label-item.is in
    let names = names_from labels here label c.loop-label-test.true in
    let same = ap (λ l. length l.name) c.label-item.is in
    let grown = c.in_ok-append_symbol.ensures.text in
    let kept : c.loop-label.out.items ++ (symbol_text name label ++ behind (length label.name)) ≡ c.args.out.now.items ++ symbols_text 17 labels =
    ap (λ t. c.loop-label.out.items ++ t) (sym step) ∙ c.loop-label.invariant.text in
    record {
      text = ap (λ n. c.append_symbol.new.out.items ++ behind n) size ∙ ap (λ t. t ++ behind (length label.name)) grown ∙ append_assoc c.loop-label.out.items (symbol_text name label) (behind (length label.name)) ∙ kept;
      fits = (let fits = c.loop-label.invariant.fits in omega (arith, names, same, size, fits));
      capacity = search rules;
    }

pub returns-clause-text : goal.returns-clause-text
returns-clause-text c =
    let labels = c.args.labels.now in
    let end = symbols_end labels c.loop-label.label-index c.loop-label.name (search rules) in
    sym (ap (λ t. c.loop-label.out.items ++ t) end ∙ append-nil c.loop-label.out.items) ∙ c.loop-label.invariant.text
