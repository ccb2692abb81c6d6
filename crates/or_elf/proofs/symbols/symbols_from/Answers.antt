use Rattle.std.proofs.Common.{rules, ◌≡◌, ◌++◌, ◌∷◌, [], ap}
use Rattle.or_elf.specs.Symbols.{symbol_at}
use Rattle.or_elf.proofs.Tables.{symbol_taken, symbol_passed, symbols_read}
use Rattle.or_elf.proofs.symbols.symbols_from.Goals as goal
use Rattle.or_elf.proofs.symbols.symbols_from.Goals.{then-is_of_type+in_ok-push, else-is_of_type}

pub loop-index-preserved : goal.loop-index-preserved
loop-index-preserved c =
    let bytes = c.args.bytes.now in
    let first = c.args.first in
    let index = c.loop-index.index in
    let old = c.loop-index.symbols.items in
    let new = c.if-is_of_type.symbols.items in
    elim c.if-is_of_type.branch [
      | then-is_of_type+in_ok-push w ↦
          let taken : new ≡ old ++ symbol_at bytes first index ∷ [] = search rules in
          symbol_taken c.args.kind bytes first index c.args.count old new _ (search rules) (search rules) taken c.loop-index.invariant
      | else-is_of_type w ↦
          let same : new ≡ old = ap (λ s. s.items) w.symbols-is in
          symbol_passed c.args.kind bytes first index c.args.count old new _ (search rules) (search rules) same c.loop-index.invariant
    ]

pub returns : goal.returns
returns c = symbols_read c.args.kind c.args.bytes.now c.args.first c.loop-index.index c.args.count c.loop-index.symbols.items _ (search rules) c.loop-index.invariant
