use Rattle.std.proofs.Common.{rules}
use Rattle.or_asm.proofs.LabelNames.{few_bytes}
use Rattle.or_asm.proofs.symbols.program_symbols.Goals as goal

pub returns-clause-names : goal.returns-clause-names
returns-clause-names c =
    let few = few_bytes c.args.text.now c.args.program.now c.requires.limit in
    search rules
