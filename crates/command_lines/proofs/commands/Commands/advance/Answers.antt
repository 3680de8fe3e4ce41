use Rattle.std.proofs.Common.{arith}
use Rattle.command_lines.proofs.LineLaws.{scan_behind}
use Rattle.command_lines.proofs.commands.Commands.advance.Goals as goal

pub invariant_of-self-else-self : goal.invariant_of-self-else-self
invariant_of-self-else-self c =
    let s = c.self.inside in
    record {
      in_order = omega arith;
      in_range = c.self.invariant.in_range;
      clean = scan_behind s.bytes.items s.start s.clean c.args.count (omega arith) c.self.invariant.clean;
      small = c.self.invariant.small;
    }
