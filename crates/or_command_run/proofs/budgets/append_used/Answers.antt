use Rattle.std.proofs.Common.{rules}
use Rattle.or_command_run.proofs.Used.{used_pieces}
use Rattle.or_command_run.proofs.budgets.append_used.Goals as goal

pub returns : goal.returns
returns c =
    used_pieces c.args.symbols.now c.args.number c.args.budget c.args.pc c.args.out.now.items c.extend_from_slice.new.self.items c.append_decimal.new.out.items
    c.extend_from_slice-2.new.self.items c.append_decimal-2.new.out.items c.extend_from_slice-3.new.self.items c.append_pc.new.out.items
    c.extend_from_slice-4.new.self.items (search rules) (search rules) c.in_ok-extend_from_slice-2.ensures.items (search rules) (search rules) (search rules) (search rules)
